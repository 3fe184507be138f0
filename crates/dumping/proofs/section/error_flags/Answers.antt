-- `section::error_flags` meets its contract.
use Rattle.dumping.specs.Section.{error_flags}
use Rattle.dumping.proofs.Flags.{flag_times}
use Rattle.dumping.proofs.Claims.{section_claims}
use Rattle.dumping.proofs.section.error_flags.Goals as goal

pub returns : goal.returns
unfolding error_flags
returns c =
    let start = flag_times _ 16_384 c.from.result c.from.ensures in
    let length = flag_times _ 8192 c.from-2.result c.from-2.ensures in
    let destination = flag_times _ 4096 c.from-3.result c.from-3.ensures in
    let small = flag_times _ 2048 c.from-4.result c.from-4.ensures in
    record { value = rw (start, length, destination, small, c.is_past.ensures, c.saturating_sub.ensures, c.bytes_in.ensures); claims = section_claims }
