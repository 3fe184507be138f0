-- The claims on the reader, at each return of `check_area`.
use Rattle.property_area.proofs.Claims.{area_claims}
use Rattle.property_area.proofs.ReaderClaims.{property_reader_exactly}
use Rattle.property_area.proofs.reading.check_area.Goals as goal

pub returns-then-area-ne-AREA_SIZE-clause-claims : goal.returns-then-area-ne-AREA_SIZE-clause-claims
returns-then-area-ne-AREA_SIZE-clause-claims c =
    area_claims

pub returns-then-area-ne-AREA_SIZE-clause-exactly : goal.returns-then-area-ne-AREA_SIZE-clause-exactly
returns-then-area-ne-AREA_SIZE-clause-exactly c =
    property_reader_exactly

pub returns-then-not-is_reserved-clause-claims : goal.returns-then-not-is_reserved-clause-claims
returns-then-not-is_reserved-clause-claims c =
    area_claims

pub returns-then-not-is_reserved-clause-exactly : goal.returns-then-not-is_reserved-clause-exactly
returns-then-not-is_reserved-clause-exactly c =
    property_reader_exactly

pub returns-in_err-found-clause-claims : goal.returns-in_err-found-clause-claims
returns-in_err-found-clause-claims c =
    area_claims

pub returns-in_err-found-clause-exactly : goal.returns-in_err-found-clause-exactly
returns-in_err-found-clause-exactly c =
    property_reader_exactly

pub returns-clause-claims : goal.returns-clause-claims
returns-clause-claims c =
    area_claims

pub returns-clause-exactly : goal.returns-clause-exactly
returns-clause-exactly c =
    property_reader_exactly
