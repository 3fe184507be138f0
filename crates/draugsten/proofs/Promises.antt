-- The promises of the archive hold.
use Rattle.words.proofs.Claims.{numbers_exactly, nul_exactly, zeros_exactly}
use Rattle.node_area.proofs.ReaderClaims.{node_reader_exactly}
use Rattle.node_area.proofs.ReadingCases.{reading_cases_lem}
use Rattle.nodes.proofs.Claims as nodes
use Rattle.indices.proofs.ReaderClaims.{index_reader_exactly}
use Rattle.indices.proofs.Claims as indices
use Rattle.property_area.proofs.ReaderClaims.{property_reader_exactly}
use Rattle.property_area.proofs.Claims as property-area
use Rattle.calls.proofs.Claims.{call_claims}
use Rattle.crossing.proofs.Registrations.{faithful, registration_exactly}
use Rattle.crossing.proofs.Records.{reading_faithful}
use Rattle.readers.proofs.ReaderClaims.{nodes_told, indices_told, properties_told}
use Rattle.draugsten.specs.Promises.{ReadNodesPromise, ReadIndicesPromise, ReadPropertiesPromise, CallPromise, NoRegistrationPromise, NoReadingPromise, EditPromise}
use Rattle.draugsten.proofs.Registrations.{call_crosses, thirteen_exactly, registration_crosses, handed_on, start_taken}
use Rattle.draugsten.proofs.Crossing.{record_crosses}
use Rattle.draugsten.proofs.Records.{edit_told, reading_crosses}
use Rattle.draugsten.proofs.Terms.{terms_exactly}

pub read_nodes_promise : ReadNodesPromise
read_nodes_promise = record { reader = node_reader_exactly; told = nodes_told; numbers = numbers_exactly; zeros = zeros_exactly; written = nodes.area_claims; cases = reading_cases_lem }

pub read_indices_promise : ReadIndicesPromise
read_indices_promise =
    record { reader = index_reader_exactly; told = indices_told; numbers = numbers_exactly; written = (indices.area_claims).1; cases = (indices.area_claims).0 }

pub read_properties_promise : ReadPropertiesPromise
read_properties_promise =
    record {
      reader = property_reader_exactly;
      told = properties_told;
      numbers = numbers_exactly;
      names = nul_exactly;
      written = (property-area.area_claims).1;
      cases = (property-area.area_claims).0;
    }

pub call_promise : CallPromise
call_promise =
    record {
      demands = call_claims;
      crosses = call_crosses;
      thirteen = thirteen_exactly;
      handed_on = handed_on;
      registration = faithful;
      registration_numbers = registration_crosses;
      registration_exactly = registration_exactly;
      reading = reading_faithful;
      reading_numbers = reading_crosses;
      readings = record_crosses;
      terms = terms_exactly;
      nodes_read = read_nodes_promise;
      indices_read = read_indices_promise;
      properties_read = read_properties_promise;
    }

pub no_registration_promise : NoRegistrationPromise
no_registration_promise = record { taken = start_taken; numbers = registration_crosses; exactly = registration_exactly }

pub no_reading_promise : NoReadingPromise
no_reading_promise = record { faithful = reading_faithful; numbers = reading_crosses; terms = terms_exactly }

pub edit_promise : EditPromise
edit_promise = record { told = edit_told }
