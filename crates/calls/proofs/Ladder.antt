-- The checks of a call as a ladder of tests: two that give -3, one that gives -1, two more that give -3, and whether anything remains.
use mathlib.Core.Path.{◌≡◌, refl}
use mathlib.Core.Bool.{Bool, true, false, cond, ◌&&◌, not, false≢true}
use Prim.Native.Nat.{◌≤◌}
use lib.Dec.{eqb}
use native.Mathlib.Omega.{arith}
use Rattle.calls.specs.declared.status.Status.{Status}
use Rattle.calls.specs.declared.status.Status.TheVariants.{Done, Again, Malformed, Parameter, Changed}
use Rattle.calls.specs.Status.{is_answer, status_word}
use Rattle.calls.specs.Claims.Terms.{minus}

abbrev pub ladder : Bool → Bool → Bool → Bool → Bool → Bool → Status
ladder p v w r g m = cond p (cond v (cond w (cond r (cond g (cond m Again Done) Parameter) Parameter) Malformed) Parameter) Parameter

abbrev pub is_malformed : Status → Bool
is_malformed s = eqb (status_word s) 0xffff_ffff

pub ladder_malformed : (p v w r g m : Bool) → is_malformed (ladder p v w r g m) ≡ ((p && v) && not w)
ladder_malformed false v w r g m = refl
ladder_malformed true false w r g m = refl
ladder_malformed true true false r g m = refl
ladder_malformed true true true false g m = refl
ladder_malformed true true true true false m = refl
ladder_malformed true true true true true false = refl
ladder_malformed true true true true true true = refl

-- an answer passes every check
pub ladder_passed : (p v w r g m : Bool) → is_answer (ladder p v w r g m) ≡ true → (p ≡ true) × (v ≡ true) × (w ≡ true) × (r ≡ true) × (g ≡ true)
ladder_passed true true true true true m h = (refl, refl, refl, refl, refl)
ladder_passed false v w r g m h = absurd (false≢true h)
ladder_passed true false w r g m h = absurd (false≢true h)
ladder_passed true true false r g m h = absurd (false≢true h)
ladder_passed true true true false g m h = absurd (false≢true h)
ladder_passed true true true true false m h = absurd (false≢true h)

-- and where something remains or not, the last step is an answer
pub answer_either : (m : Bool) → is_answer (cond m Again Done) ≡ true
answer_either true = refl
answer_either false = refl

-- "-3 in every other case"
pub ladder_otherwise : (p v w r g m : Bool) → let s = status_word (ladder p v w r g m) in (s ≤ 1 → ⊥) → (s ≡ minus 1 → ⊥) → s ≡ minus 3
ladder_otherwise false v w r g m a f = refl
ladder_otherwise true false w r g m a f = refl
ladder_otherwise true true false r g m a f = absurd (f refl)
ladder_otherwise true true true false g m a f = refl
ladder_otherwise true true true true false m a f = refl
ladder_otherwise true true true true true false a f = absurd (a (omega arith))
ladder_otherwise true true true true true true a f = absurd (a (omega arith))

-- ---- the checks of get-indices before those of the list: two that give -3, one of the record that gives -3 and one of the edition that gives -4

abbrev pub steps : Bool → Bool → Bool → Bool → Status → Status
steps a l n c s = cond a (cond l (cond n (cond c s Changed) Parameter) Parameter) Parameter

abbrev pub is_changed : Status → Bool
is_changed s = eqb (status_word s) 0xffff_fffc

module _ (w g d m : Bool) where
  -- the checks of the list
  abbrev list : Status
  list = ladder true true w g d m

  ladder_unchanged : is_changed list ≡ false
  ladder_unchanged = go w g d m
    where
      go : (w g d m : Bool) → is_changed (ladder true true w g d m) ≡ false
      go false g d m = refl
      go true false d m = refl
      go true true false m = refl
      go true true true false = refl
      go true true true true = refl

  pub steps_passed : (a l n c : Bool) → is_answer (steps a l n c list) ≡ true → ((a ≡ true) × (l ≡ true) × (n ≡ true) × (c ≡ true)) × ((w ≡ true) × (g ≡ true) × (d ≡ true))
  steps_passed true true true true h = let t = ladder_passed true true w g d m h in ((refl, refl, refl, refl), (t.2, t.3, t.4))
  steps_passed false l n c h = absurd (false≢true h)
  steps_passed true false n c h = absurd (false≢true h)
  steps_passed true true false c h = absurd (false≢true h)
  steps_passed true true true false h = absurd (false≢true h)

  pub steps_malformed : (a l n c : Bool) → is_malformed (steps a l n c list) ≡ ((a && l) && (n && (c && not w)))
  steps_malformed true true true true = ladder_malformed true true w g d m
  steps_malformed false l n c = refl
  steps_malformed true false n c = refl
  steps_malformed true true false c = refl
  steps_malformed true true true false = refl

  pub steps_changed : (a l n c : Bool) → is_changed (steps a l n c list) ≡ ((a && l) && (n && not c))
  steps_changed true true true true = ladder_unchanged
  steps_changed false l n c = refl
  steps_changed true false n c = refl
  steps_changed true true false c = refl
  steps_changed true true true false = refl

  pub steps_otherwise : (a l n c : Bool) → let s = status_word (steps a l n c list) in (s ≤ 1 → ⊥) → (s ≡ minus 4 → ⊥) → (s ≡ minus 1 → ⊥) → s ≡ minus 3
  steps_otherwise true true true true x y z = ladder_otherwise true true w g d m x z
  steps_otherwise false l n c x y z = refl
  steps_otherwise true false n c x y z = refl
  steps_otherwise true true false c x y z = refl
  steps_otherwise true true true false x y z = absurd (y refl)
