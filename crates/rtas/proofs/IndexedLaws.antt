-- What get-indices leaves by its argument buffer.
use mathlib.Core.Path.{◌≡◌, refl, sym, ap, ◌∙◌}
use mathlib.Core.Bool.{true, false}
use mathlib.Core.List.{List}
use Prim.Native.Nat.{ℕ}
use lib.Seq.{sets}
use Rattle.words.specs.Numbers.{be_bytes}
use Rattle.inventory.specs.declared.edition.Edition.{Edition}
use Rattle.calls.specs.declared.reading_record.ReadingRecord.{ReadingRecord}
use Rattle.calls.specs.declared.request.Request.{Request}
use Rattle.calls.specs.declared.status.Status.{Status}
use Rattle.calls.specs.declared.status.Status.TheVariants.{Done, Again, Malformed, Parameter, Changed, AlreadyRegistered, DumpActive}
use Rattle.calls.specs.Status.{is_answer}
use Rattle.calls.specs.ReadingRecord.{record_after}
use Rattle.calls.specs.GetIndices.{indices_status, indices_memory, next_number, number_given}
use Rattle.calls.specs.Buffer.{request_of}
use Rattle.calls.proofs.Requests.{number_stored, number_kept}
use Rattle.rtas.specs.Inner.Working.{Indexes}

-- the record needs the next number only where there is one
record_next : (s : Status) (i : List ℕ) (q : Request) (e : Edition) (r : ReadingRecord) → record_after s q (number_given s i q) e r ≡ record_after s q (next_number i q) e r
unfolding record_after number_given
record_next Done i q e r = refl
record_next Again i q e r = refl
record_next Malformed i q e r = refl
record_next Parameter i q e r = refl
record_next Changed i q e r = refl
record_next AlreadyRegistered i q e r = refl
record_next DumpActive i q e r = refl

module _ (m i b : List ℕ) (e : Edition) (r : ReadingRecord) (status : Status) (next : ℕ) (after : ReadingRecord) (memory : List ℕ)
    (told : ((status ≡ indices_status m i e r (request_of b)) × (next ≡ number_given (indices_status m i e r (request_of b)) i (request_of b))) × (memory ≡ indices_memory m i e r (request_of b))) (recorded : after ≡ record_after status (request_of b) next e r) where
  abbrev s : Status
  s = indices_status m i e r (request_of b)

  record_is : after ≡ record_after s (request_of b) (next_number i (request_of b)) e r
  record_is = recorded ∙ rw (told.0.0, told.0.1) (record_next s i (request_of b) e r)

  -- an answer stores the number, and a refusal keeps the buffer
  pub indexes_answered : (args : List ℕ) → is_answer status ≡ true → args ≡ sets b 36 (be_bytes 4 next) → Indexes m i e r b status after args memory
  indexes_answered args t f = record { status_is = told.0.0; reading_is = record_is; args_are = f ∙ number_stored i (request_of b) s b 36 next told.0.1 (ap is_answer (sym told.0.0) ∙ t); memory_is = told.1 }

  pub indexes_refused : is_answer status ≡ false → Indexes m i e r b status after b memory
  indexes_refused t = record { status_is = told.0.0; reading_is = record_is; args_are = number_kept i (request_of b) s b 36 (ap is_answer (sym told.0.0) ∙ t); memory_is = told.1 }
