-- An area by offsets: its pieces join to the changes up to what is due after it, and what is due at an offset behind that is due after it too.
use mathlib.Core.Path.{◌≡◌, refl, sym, ap, ◌∙◌}
use mathlib.Core.Bool.{true}
use mathlib.Core.List.{List, [], ◌∷◌, ◌++◌}
use Prim.Native.Nat.{ℕ, ◌+◌, ◌-◌, ◌≤◌, ◌<◌}
use native.Mathlib.Omega.{arith}
use lib.Dec.{leb, ltb}
use borrow.Author.Tests.{leb-true, leb-false, ltb-true, ltb-false, eq-eqb}
use lib.ListN.{take, drop}
use lib.Seq.{take-add, drop-drop}
use Rattle.words.proofs.Choice.{decide}
use Rattle.property_area.specs.Piece.{Piece}
use Rattle.properties.specs.Changes.{Change, stop, before, from, up_to, due_at, offset_or}
use Rattle.properties.specs.Filling.{same, onto, joined}
use Rattle.properties.proofs.Placing.{Placed, has_value, from_stop}
use Rattle.properties.proofs.Fills.{Fills, none, goes, splits, waits, due_behind}
use Rattle.properties.proofs.Offsets.{up_to_here, up_to_past, up_to_whole, up_to_none, due_here, due_in, due_past}

-- ---- a change that is divided at s, and an offset t behind that

module _ (s t : ℕ) (c : Change) (h : c.start ≤ s) (k : s ≤ t) where
  far : (s - c.start) + (t - s) ≡ t - c.start
  far = omega arith

  value_joins : take (s - c.start) c.value ++ take (t - s) (drop (s - c.start) c.value) ≡ take (t - c.start) c.value
  value_joins = sym (take-add (s - c.start) (t - s) c.value) ∙ ap (λ (n : ℕ). take n c.value) far

  from_from : from t (from s c) ≡ from t c
  from_from = rw (drop-drop (t - s) (s - c.start) c.value, far)

pub same_self : (l : List ℕ) → same l l ≡ true
unfolding same
same_self [] = refl
same_self (a ∷ l) = rw (eq-eqb a a refl) (same_self l)

module _ (lo hi s t : ℕ) (c : Change) (cs : List Change) (p : Placed lo hi (c ∷ cs)) (h : c.start < s) (k : s < stop c) (l : s ≤ t) where
  -- its first part goes onto what joins up to t
  onto_rest : onto (before s c) (up_to t (from s c ∷ cs)) ≡ up_to t (c ∷ cs)
  unfolding onto
  onto_rest =
      rw (up_to_past t c cs (omega (arith, p.1.inside)))
      (decide (ltb s t)
      (λ e. rw (up_to_past t (from s c) cs (ltb-true s t e), has_value c p.1 (omega arith), same_self c.name, value_joins s t c (omega arith) l))
      (λ e. let q : s ≡ t = omega (arith, ltb-false s t e) in rw (up_to_here t (from s c) cs (omega arith), up_to_none (stop c) hi t cs p.2 (omega arith), q)))

  -- and what is due at t is due of its rest
  due_rest : due_at t (c ∷ cs) ≡ due_at t (from s c ∷ cs)
  due_rest =
      let d = from s c in
      let past : c.at < t = omega (arith, p.1.inside) in
      let e = from_stop s c (omega arith) (omega arith) in
      decide (leb (stop c) t)
      (λ b. let a = leb-true _ _ b in due_past t c cs past a ∙ sym (due_past t d cs (omega arith) (omega arith)))
      (λ b. let a = leb-false _ _ b in due_in t c cs past a ∙ decide (ltb s t)
      (λ b. rw (due_in t d cs (ltb-true s t b) (omega arith), from_from s t c (omega arith) l))
      (λ b. let q : s ≡ t = omega (arith, ltb-false s t b) in rw (due_here t d cs (omega arith), q)))

-- ---- an area

-- pieces that give what is due after it up to an offset give, behind its own, all up to there
pub fills_joined : {room : ℕ} {cs es : List Change} {ps : List Piece} (lo hi s : ℕ) (qs : List Piece)
    → Fills room cs ps es → Placed lo hi cs → offset_or hi es ≤ s → joined qs ≡ up_to s es → joined (ps ++ qs) ≡ up_to s cs
unfolding joined
fills_joined lo hi s qs none p h q = q
fills_joined lo hi s qs (goes {c = c} {cs = cs} g f) p h q =
    let l = due_behind (stop c) hi f p.2 in
    rw (fills_joined (stop c) hi s qs f p.2 h q, up_to_whole s c cs (omega (arith, p.1.long)) (omega arith))
fills_joined lo hi s qs (splits {c = c} {cs = cs} t e g l) p h q = rw q (onto_rest lo hi t s c cs p (omega arith) (omega arith) h)
fills_joined lo hi s qs (waits g l) p h q = q

-- what is due at such an offset is due there after the area as before it
pub fills_due : {room : ℕ} {cs es : List Change} {ps : List Piece} (lo hi s : ℕ)
    → Fills room cs ps es → Placed lo hi cs → offset_or hi es ≤ s → due_at s cs ≡ due_at s es
fills_due lo hi s none p h = refl
fills_due lo hi s (goes {c = c} {cs = cs} g f) p h =
    let l = due_behind (stop c) hi f p.2 in
    due_past s c cs (omega (arith, p.1.long)) (omega arith) ∙ fills_due (stop c) hi s f p.2 h
fills_due lo hi s (splits {c = c} {cs = cs} t e g l) p h = due_rest lo hi t s c cs p (omega arith) (omega arith) h
fills_due lo hi s (waits g l) p h = refl
