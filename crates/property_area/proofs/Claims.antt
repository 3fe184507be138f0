-- The claims about property work areas hold.
use Rattle.words.specs.Numbers.{be, be_bytes, zeros}
use Rattle.words.specs.Nul.{until_nul, is_ended}
use Rattle.property_area.specs.Head.{is_reserved}
use Rattle.property_area.specs.Reading.{name_at, judged_at, read_from, reading}
use Rattle.property_area.specs.Cases.Reading.{ReadingCases}
use Rattle.property_area.specs.Claims.PropertyArea.{RoundTrip}
use Rattle.property_area.proofs.Written.{round_trip}

-- the table of readings, by one computed test
reading_cases_lem : ReadingCases
unfolding be be_bytes zeros until_nul is_ended is_reserved name_at judged_at read_from reading
reading_cases_lem = tt

pub area_claims : ReadingCases × RoundTrip
area_claims = (reading_cases_lem, round_trip)
