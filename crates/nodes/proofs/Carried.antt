-- Laws of the carried head: a state, then zeros or the address of a unit.
use mathlib.Core.Path.{◌≡◌, refl, ap, ◌∙◌, sym}
use mathlib.Core.Bool.{Bool, true, false, cond}
use mathlib.Core.List.{List, [], ◌∷◌}
use Prim.Native.Nat.{ℕ, ◌/◌, ◌%◌, ◌<◌}
use native.Mathlib.Omega.{arith}
use native.Mathlib.Nat.{mod-eq_of_lt}
use lib.Dec.{eqb}
use lib.ListN.{drop}
use lib.Seq.{slice}
use Rattle.words.specs.Numbers.{be, be_bytes, word_bytes, zeros}
use Rattle.words.proofs.Numbers.{be_split, be_drop, be_take, be_bytes_lem}
use Rattle.journal.specs.declared.operation.Operation.{Operation}
use Rattle.journal.specs.declared.scope.Units.{Units}
use Rattle.journal.specs.declared.scope.Units.TheVariants.{All, One}
use Rattle.journal.specs.Scope.{units_of}
use Rattle.node_area.specs.Head.{head_size, head_of, head_words, carried_head, state_in, unit_in, is_reserved}
use Rattle.nodes.specs.Run.{next_state}
use Rattle.nodes.specs.Area.{answer, written}

-- an area that begins with it
module _ (l : List ℕ) (units : Units) (k : ℕ) (e : head_of l ≡ carried_head units k) where
  pub state_of_lem : k < 0x1_0000_0000 → state_in l ≡ k
  unfolding word_bytes
  state_of_lem h = sym (be_take 4 head_size l 0 (omega arith)) ∙ ap (λ (x : List ℕ). be 4 x 0) e ∙ be_bytes_lem 4 k (word_bytes (drop 1 (head_words units k))) ∙ mod-eq_of_lt h

-- its reserved bytes are zero
zero_behind : (l : List ℕ) (unit k : ℕ) (t : Bool) → head_of l ≡ carried_head (cond t (One unit) All) k → zeros (slice (cond t 12 4) head_size l) ≡ true
unfolding zeros word_bytes be_bytes
zero_behind l unit k true e = ap (λ (x : List ℕ). zeros (drop 12 x)) e
zero_behind l unit k false e = ap (λ (x : List ℕ). zeros (drop 4 x)) e

pub reserved_of : (l : List ℕ) (scope unit k : ℕ) → head_of l ≡ carried_head (units_of scope unit) k → is_reserved scope l ≡ true
unfolding is_reserved units_of
reserved_of l scope unit k e = zero_behind l unit k (eqb scope 3) e

-- the unit that it names is the one asked for
behind_word : (k : ℕ) (ws : List ℕ) → drop 4 (word_bytes (k ∷ ws)) ≡ word_bytes ws
unfolding word_bytes be_bytes
behind_word k ws = refl

second_word : (k w : ℕ) (ws : List ℕ) → be 4 (word_bytes (k ∷ w ∷ ws)) 4 ≡ w % 0x1_0000_0000
unfolding word_bytes
second_word k w ws = sym (be_drop 4 4 (word_bytes (k ∷ w ∷ ws)) 0) ∙ ap (λ (l : List ℕ). be 4 l 0) (behind_word k (w ∷ ws)) ∙ be_bytes_lem 4 w (word_bytes ws)

third_word : (k v w : ℕ) (ws : List ℕ) → be 4 (word_bytes (k ∷ v ∷ w ∷ ws)) 8 ≡ w % 0x1_0000_0000
third_word k v w ws = sym (be_drop 4 4 (word_bytes (k ∷ v ∷ w ∷ ws)) 4) ∙ ap (λ (l : List ℕ). be 4 l 4) (behind_word k (v ∷ w ∷ ws)) ∙ second_word v w ws

named_unit : (l : List ℕ) (unit k : ℕ) → unit < 0x1_0000_0000_0000_0000 → head_of l ≡ carried_head (One unit) k → unit_in l ≡ unit
named_unit l unit k small e =
    let high = unit / 0x1_0000_0000 in
    let low = unit % 0x1_0000_0000 in
    sym (be_take 8 head_size l 4 (omega arith)) ∙ ap (λ (x : List ℕ). be 8 x 4) e ∙ be_split 4 4 (word_bytes (k ∷ high ∷ low ∷ 0 ∷ [])) 4
    ∙ rw (second_word k high (low ∷ 0 ∷ []), third_word k high low (0 ∷ [])) (omega arith)

pub unit_of_lem : (l : List ℕ) (scope unit k : ℕ) → unit < 0x1_0000_0000_0000_0000 → head_of l ≡ carried_head (units_of scope unit) k → units_of scope (unit_in l) ≡ units_of scope unit
unfolding units_of
unit_of_lem l scope unit k small e = same (eqb scope 3) e
  where
    same : (t : Bool) → head_of l ≡ carried_head (cond t (One unit) All) k → cond t (One (unit_in l)) All ≡ cond t (One unit) All
    same true h = ap One (named_unit l unit k small h)
    same false h = refl

pub written_head : (units : Units) (area : List ℕ) (os : List Operation) (k : ℕ) → head_of (written units area os k) ≡ carried_head units (next_state os k)
unfolding written answer word_bytes be_bytes
written_head units area os k = refl
