-- The operands of the entries of a journal of bytes fit 32-bit words.
use mathlib.Core.List.{List, [], ◌∷◌, map}
use Prim.Native.Nat.{ℕ, ◌<◌}
use lib.Dec.{eqb}
use Rattle.words.specs.Numbers.{Bytes, Small, le}
use Rattle.words.proofs.Numbers.{le_below}
use Rattle.records.specs.Records.{kind_of, records}
use Rattle.records.proofs.Steps.{EachBytes, records_bytes}
use Rattle.journal.specs.declared.operation.Operation.{Operation}
use Rattle.journal.specs.declared.operation.Operation.TheVariants.{Delete, Update, Add}
use Rattle.journal.specs.Journal.{Entry, operands, operation_of, entry_of, entries}
use Rattle.words.proofs.Choice.{choose}

abbrev SmallOne : Operation → Type 0
SmallOne o = Small (operands o)

operation_small : (r : List ℕ) → Bytes r → SmallOne (operation_of r)
unfolding operation_of
operation_small r h =
    let first = le 4 r 6 in
    let small : (at : ℕ) → le 4 r at < 0x1_0000_0000 = le_below r h 4 in
    choose (eqb (kind_of r) 1) SmallOne {x = Delete first} (λ _. (small 6, tt))
    (λ _. choose (eqb (kind_of r) 2) SmallOne {x = Update first} (λ _. (small 6, tt))
    (λ _. choose (eqb (kind_of r) 3) SmallOne {x = Add first (le 4 r 10)} {y = Update (le 4 r 14)} (λ _. (small 6, (small 10, tt))) (λ _. (small 14, tt))))

-- the operands of every entry fit
abbrev pub SmallEntries : List Entry → Type 0
SmallEntries [] = Unit {0}
SmallEntries (e ∷ es) = Small (operands e.operation) × SmallEntries es

pub entries_small : (j : List ℕ) → Bytes j → SmallEntries (entries j)
unfolding entries records
entries_small j h = go (records j) (records_bytes 0 j h)
  where
    go : (rs : List (List ℕ)) → EachBytes rs → SmallEntries (map entry_of rs)
    go [] b = tt
    go (r ∷ rs) b = (operation_small r b.0, go rs b.1)
