-- `reading::judge` gives the property that is judged.
use Rattle.std.proofs.Common.{sym, ◌∙◌}
use Rattle.property_area.proofs.Judging.{named, judged_whole}
use Rattle.property_area.proofs.reading.judge.Goals as goal

pub returns : goal.returns
returns c =
    let told = sym c.in_ok-name_length.ensures.ok_part ∙ c.name_length_at.ensures in
    judged_whole (named _ _ _ told) _ _ c.if-area-place-lt4.false c.read_be32-descriptor.ensures c.value_length-value_length.ensures c.if-area-value.false
