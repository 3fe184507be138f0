-- `area::tally_in` meets its contract.
use mathlib.Core.Path.{◌≡◌, refl, sym, ◌∙◌}
use mathlib.Core.List.{List}
use Prim.Native.Nat.{ℕ}
use lib.ListN.{length, drop}
use Rattle.words.specs.Numbers.{words}
use Rattle.words.specs.Reading.{Reading, read, refused}
use Rattle.journal.specs.declared.operation.Operation.{Operation}
use Rattle.node_area.specs.declared.reading.Refusal.{Refusal}
use Rattle.std.specs.Prelude.{Ok}
use Rattle.node_area.specs.Reading.{reading, check_of}
use Rattle.counting.specs.Area.{words_used, no_tally, tally_by, tally_of}
use Rattle.counting.proofs.area.tally_in.Goals as goal

none_told : (x : Reading Operation Refusal) (area : List ℕ) → ((n : ℕ) → check_of x ≡ Ok n → ⊥) → no_tally ≡ tally_by x area
none_told (read os) area h = absurd (h (length os) refl)
none_told (refused q i) area h = refl

all_read : (x : Reading Operation Refusal) (area : List ℕ) (n k : ℕ) → check_of x ≡ Ok n → k ≡ words_used 0 (words (drop 16 area)) → record { operations = n; words = k } ≡ tally_by x area
all_read (read os) area n k e u = cc
all_read (refused r at) area n k e u = cc

pub returns-in_default : goal.returns-in_default
unfolding tally_of
returns-in_default c =
    c.no_tally.ensures ∙ none_told (reading c.args.scope c.args.area.now) _ (λ n e. c.in_default.not-Ok n (c.check_area.ensures.value ∙ e))

pub returns : goal.returns
unfolding tally_of
returns c =
    all_read (reading c.args.scope c.args.area.now) _ _ _ (sym c.check_area.ensures.value ∙ c.in-Ok.is) c.words_in.ensures
