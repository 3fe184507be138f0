-- Terms of the contracts of private functions; no public promise cites them.
use Rattle.std.specs.Prelude.{ℕ, ◌+◌, ◌≡◌, cond, List, [], ◌∷◌}
use Rattle.std.proofs.lemmas.List.Edits.{sets}
use Rattle.words.specs.Numbers.{word_bytes}
use Rattle.inventory.specs.declared.edition.Edition.{Edition}
use Rattle.dump.specs.declared.registration.Registration.{Registration}
use Rattle.calls.specs.declared.reading_record.ReadingRecord.{ReadingRecord}
use Rattle.calls.specs.declared.status.Status.{Status}
use Rattle.calls.specs.Status.{is_answer}
use Rattle.calls.specs.ReadingRecord.{record_after}
use Rattle.calls.specs.GetIndices.{indices_status, indices_memory, next_number}
use Rattle.calls.specs.Buffer.{request_of, status_at, Found, outcome}

-- what get-indices gives and leaves before its status is stored: an answer's Next Starting Number stands in the buffer
pub record Indexes (m i : List ℕ) (e : Edition) (r : ReadingRecord) (b : List ℕ) (status : Status)
    (reading : ReadingRecord) (args memory : List ℕ) : Type 0 where
  pub status_is : status ≡ indices_status m i e r (request_of b)
  pub reading_is : reading ≡ record_after (indices_status m i e r (request_of b)) (request_of b) (next_number i (request_of b)) e r
  pub args_are : args ≡ sets b 36 (word_bytes (cond (is_answer (indices_status m i e r (request_of b))) (next_number i (request_of b) ∷ []) []))
  pub memory_is : memory ≡ indices_memory m i e r (request_of b)

-- what a call's own work leaves before its status is stored: the outputs behind the status stand in the buffer
pub record Worked (c : Found) (status : Status) (next : Registration) (reading : ReadingRecord) (args memory : List ℕ) : Type 0 where
  pub status_is : status ≡ (outcome c).status
  pub registration_is : next ≡ (outcome c).registration
  pub reading_is : reading ≡ (outcome c).reading
  pub args_are : args ≡ sets c.args (status_at c.args + 4) (word_bytes (outcome c).more)
  pub memory_is : memory ≡ (outcome c).memory
