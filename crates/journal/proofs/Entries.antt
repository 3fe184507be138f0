-- The entries of a journal from a place on, one record after the other.
use mathlib.Core.Path.{◌≡◌, ap}
use mathlib.Core.List.{List, [], ◌∷◌, map}
use Prim.Native.Nat.{ℕ, ◌+◌, ◌<◌, ◌≤◌}
use native.Mathlib.Omega.{arith}
use lib.ListN.{length, drop, length-map}
use Rattle.records.specs.Records.{size_of, first_record, records}
use Rattle.records.proofs.Steps.{records-step, records_end, records_few}
use Rattle.records.proofs.Choosing.{Items, chosen_few}
use Rattle.journal.specs.Scope.{Selection}
use Rattle.journal.specs.Journal.{entry_of, entries}
use Rattle.journal.specs.Reportable.{operation, reports, chosen}

module _ (j : List ℕ) (at : ℕ) where
  entries_end : length j ≤ at → entries (drop at j) ≡ []
  unfolding entries
  entries_end h = rw (records_end j at h)

  entries_step : at < length j → entries (drop at j) ≡ entry_of (first_record (drop at j)) ∷ entries (drop (at + size_of (drop at j)) j)
  unfolding entries
  entries_step h = ap (map entry_of) (records-step j at h)

-- they go along the records
pub each_entry : Items entries (λ (b : List ℕ). entry_of (first_record b))
each_entry = record { step = entries_step; end = entries_end }

-- no more operations than bytes
pub operations_few : (sel : Selection) (j : List ℕ) (code : ℕ) → length (chosen sel code (entries j)) ≤ length j
unfolding entries records
operations_few sel j code = omega (arith, chosen_few (reports sel code) operation (entries j), length-map (records j) entry_of, records_few 0 j)
