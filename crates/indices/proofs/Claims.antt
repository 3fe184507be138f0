-- The claims about index work areas hold.
use Rattle.words.specs.Numbers.{be, be_bytes, zeros}
use Rattle.words.specs.Nul.{until_nul}
use Rattle.inventory.specs.Inventory.{code_limit}
use Rattle.indices.specs.Claims.Indices.{ReadingCases, AreaClaims}
use Rattle.indices.specs.Reading.{length_at, field_at, good_length, good_field, fault_at, read_from, reading}
use Rattle.indices.proofs.Written.{round_trip, reads_back, holds_due}
use Rattle.indices.proofs.Longest.{fits}

reading_cases_lem : ReadingCases
unfolding be be_bytes zeros code_limit length_at field_at until_nul good_length good_field fault_at read_from reading
reading_cases_lem = tt

pub area_claims : ReadingCases × AreaClaims
area_claims = (reading_cases_lem, (round_trip, reads_back, holds_due, fits))
