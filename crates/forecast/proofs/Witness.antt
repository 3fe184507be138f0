-- Calls that the claim speaks of, by computing them.
use mathlib.Core.Path.{◌≡◌, refl, ◌∙◌}
use mathlib.Core.Bool.{Bool, true, ◌&&◌}
use mathlib.Core.List.{List, [], ◌∷◌}
use Prim.Native.Nat.{ℕ, zero, suc, ◌<◌}
use native.Mathlib.Omega.{arith}
use lib.Dec.{ltb}
use borrow.Author.Tests.{ltb-true, leb-true}
use Rattle.words.specs.Numbers.{Bytes, be, le, be_bytes, word_bytes}
use Rattle.words.proofs.Choice.{and_left, and_right}
use Rattle.records.specs.Records.{records, records_from, length_of, kind_of}
use Rattle.records.specs.Choosing.{chosen_by}
use Rattle.journal.specs.Journal.{node_type, operation_of, unit_of, entries}
use Rattle.journal.specs.Scope.{negative, rows}
use Rattle.journal.specs.Reportable.{reports}
use Rattle.nodes.specs.Run.{operator, cut}
use Rattle.tallies.specs.Tallies.{recount_of}
use Rattle.calls.specs.Status.{status_word}
use Rattle.calls.specs.Cases.Witnesses.{additions, nodes_call}
use Rattle.calls.proofs.Witnesses.{nodes_witness}
use Rattle.forecast.specs.Forecast.{answer_from, forecast_of}
use Rattle.forecast.specs.Claims.Forecast.{Ordinary, Witnessed, CallWitness}
use Rattle.forecast.proofs.Called.{as_the_call}

-- a list of bytes, tested element by element
abbrev all_below : List ℕ → Bool
all_below [] = true
all_below (x ∷ xs) = ltb x 256 && all_below xs

bytes_by : (s : List ℕ) → all_below s ≡ true → Bytes s
bytes_by [] e i = omega arith
bytes_by (x ∷ xs) e zero = ltb-true x 256 (and_left _ _ e)
bytes_by (x ∷ xs) e (suc i) = bytes_by xs (and_right (ltb x 256) _ e) i

module _ (state : ℕ) (small : state < 0x1_0000_0000) (bytes : all_below (nodes_call 0 state).memory ≡ true) where
  ordinary : Ordinary (nodes_call 0 state) 1 state
  unfolding be be_bytes word_bytes
  ordinary = record {
    whole = omega arith;
    asks = (refl, refl, refl);
    scope_is = refl;
    aligned = refl;
    inside = leb-true 4096 4096 refl;
    begins = refl;
    bytes = (bytes_by (nodes_call 0 state).memory bytes, nodes_witness.of_scope_1.bytes);
  }

  -- its status is the forecast's
  witnessed : (status : ℕ) → status_word (forecast_of (recount_of additions) 1 state).status ≡ status → Witnessed state status
  witnessed status e = record { ordinary = ordinary; gives = (as_the_call 1 state (λ e. omega arith) small (nodes_call 0 state) nodes_witness.of_scope_1.formed ordinary).status ∙ e }

pub call_witness : CallWitness
unfolding be le be_bytes word_bytes records records_from length_of kind_of chosen_by node_type operation_of unit_of entries negative rows reports operator cut recount_of answer_from forecast_of
call_witness = record {
  formed = nodes_witness.of_scope_1.formed;
  again = witnessed 0 (omega arith) refl 1 refl;
  done = witnessed 509 (omega arith) refl 0 refl;
  outside = witnessed 510 (omega arith) refl 0xffff_fffd refl;
}
