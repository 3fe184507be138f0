-- The changes up to an offset, and what is due at it.
use mathlib.Core.Path.{◌≡◌, refl, ◌∙◌}
use mathlib.Core.Bool.{true, false, true≢false, false≢true}
use mathlib.Core.List.{List, [], ◌∷◌}
use Prim.Native.Nat.{ℕ, ◌+◌, ◌-◌, ◌≤◌, ◌<◌}
use native.Mathlib.Omega.{arith}
use lib.Dec.{leb}
use borrow.Author.Tests.{leb-true, leb-false, le-leb, lt-leb, lt-ltb, le-ltb}
use lib.ListN.{length-take, length-drop}
use lib.Seq.{take_all}
use Rattle.words.proofs.Choice.{decide}
use Rattle.properties.specs.Changes.{Change, property, properties, stop, before, from, up_to, due_at, is_due, offset_or}
use Rattle.properties.specs.Filling.{weight}
use Rattle.properties.proofs.Placing.{Placed, placed_le}

-- ---- one change: the offset does not reach it, lies in it, or is behind it

module _ (s : ℕ) (c : Change) (cs : List Change) where
  pub up_to_here : s ≤ c.at → up_to s (c ∷ cs) ≡ []
  unfolding up_to
  up_to_here h = rw (le-ltb c.at s h)

  pub up_to_past : c.at < s → up_to s (c ∷ cs) ≡ before s c ∷ up_to s cs
  unfolding up_to
  up_to_past h = rw (lt-ltb c.at s h)

  pub up_to_whole : c.at < s → stop c ≤ s → up_to s (c ∷ cs) ≡ property c ∷ up_to s cs
  up_to_whole h k = up_to_past h ∙ rw (take_all (s - c.start) c.value (omega arith))

  pub due_here : s ≤ c.at → due_at s (c ∷ cs) ≡ c ∷ cs
  unfolding due_at
  due_here h = rw (le-leb s c.at h)

  pub due_in : c.at < s → s < stop c → due_at s (c ∷ cs) ≡ from s c ∷ cs
  unfolding due_at
  due_in h k = rw (lt-leb s c.at h, lt-ltb s (stop c) k)

  pub due_past : c.at < s → stop c ≤ s → due_at s (c ∷ cs) ≡ due_at s cs
  unfolding due_at
  due_past h k = rw (lt-leb s c.at h, le-ltb s (stop c) k)

-- ---- all of them

pub up_to_none : (lo hi s : ℕ) (cs : List Change) → Placed lo hi cs → s ≤ lo → up_to s cs ≡ []
unfolding up_to
up_to_none lo hi s [] p h = refl
up_to_none lo hi s (c ∷ cs) p h = up_to_here s c cs (omega (arith, p.0))

pub up_to_all : (lo hi s : ℕ) (cs : List Change) → Placed lo hi cs → hi ≤ s → up_to s cs ≡ properties cs
unfolding properties up_to
up_to_all lo hi s [] p h = refl
up_to_all lo hi s (c ∷ cs) p h =
    let g = placed_le (stop c) hi cs p.2 in
    up_to_whole s c cs (omega (arith, p.1.long)) (omega arith) ∙ rw (up_to_all (stop c) hi s cs p.2 h)

-- before the offset of what is due nothing goes, and at it all is due
pub up_to_first : (hi : ℕ) (cs : List Change) → up_to (offset_or hi cs) cs ≡ []
unfolding up_to
up_to_first hi [] = refl
up_to_first hi (c ∷ cs) = up_to_here c.at c cs (omega arith)

pub due_first : (hi : ℕ) (cs : List Change) → due_at (offset_or hi cs) cs ≡ cs
unfolding due_at
due_first hi [] = refl
due_first hi (c ∷ cs) = due_here c.at c cs (omega arith)

pub due_start : (cs : List Change) → due_at 0 cs ≡ cs
unfolding due_at
due_start [] = refl
due_start (c ∷ cs) = due_here 0 c cs (omega arith)

-- what goes before an offset and what is due there weigh at least the whole
pub up_to_weight : (s : ℕ) (cs : List Change) → weight (properties cs) ≤ weight (up_to s cs) + weight (properties (due_at s cs))
unfolding weight properties
up_to_weight s [] = omega arith
up_to_weight s (c ∷ cs) =
    let n = s - c.start in
    decide (leb s c.at)
    (λ e. rw (due_here s c cs (leb-true _ _ e)) (omega arith))
    (λ e. let h = leb-false _ _ e in decide (leb (stop c) s)
    (λ d. rw (up_to_whole s c cs h (leb-true _ _ d), due_past s c cs h (leb-true _ _ d)) (omega (arith, up_to_weight s cs)))
    (λ d. rw (up_to_past s c cs h, due_in s c cs h (leb-false _ _ d)) (omega (arith, length-take n c.value, length-drop n c.value))))

-- ---- the offset of what is due

-- where something is due it does not matter what stands for nothing; where nothing is, it is that
pub offset_due : (a b : ℕ) (cs : List Change) → is_due cs ≡ true → offset_or a cs ≡ offset_or b cs
offset_due a b [] d = absurd (false≢true d)
offset_due a b (c ∷ cs) d = refl

pub offset_end : (b : ℕ) (cs : List Change) → is_due cs ≡ false → offset_or b cs ≡ b
offset_end b [] d = refl
offset_end b (c ∷ cs) d = absurd (true≢false d)

pub offset_least : (b : ℕ) (cs : List Change) → offset_or 0 cs ≤ offset_or b cs
offset_least b [] = omega arith
offset_least b (c ∷ cs) = omega arith
