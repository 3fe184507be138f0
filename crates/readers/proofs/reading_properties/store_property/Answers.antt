-- `reading_properties::store_property` meets its contract.
use Rattle.std.proofs.Common.{ap, ◌∙◌}
use Rattle.std.proofs.lemmas.List.Edits.{sets}
use Rattle.property_area.specs.declared.reading.Located.{Located}
use Rattle.property_area.specs.Reading.{end_of}
use Rattle.readers.specs.Readings.{property_words}
use Rattle.readers.proofs.reading_properties.store_property.Goals as goal

pub returns : goal.returns
returns c =
    let told = c.locate-found.ensures in
    record {
      value = c.end.ensures ∙ ap end_of told;
      out_after = c.store.ensures ∙ ap (λ (l : Located). sets c.args.out.now c.args.to (property_words l)) told;
    }
