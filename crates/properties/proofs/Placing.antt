-- Changes that stand in a journal one behind the other: what the laws of a session ask of a node's changes.
use mathlib.Core.Path.{◌≡◌, ◌∙◌, ap}
use mathlib.Core.Bool.{true, false, false≢true}
use mathlib.Core.List.{List, [], ◌∷◌}
use Prim.Native.Nat.{ℕ, ◌-◌, ◌≤◌, ◌<◌}
use native.Mathlib.Omega.{arith}
use lib.ListN.{length, drop, length-drop}
use lib.Seq.{drop-nil}
use Rattle.words.specs.Nul.{until_nul}
use Rattle.words.proofs.Choice.{decide}
use Rattle.journal.specs.Property.{name_limit}
use Rattle.properties.specs.Changes.{Change, stop, from, is_due, offset_or}

-- 02: "names have 1 to 31 non-zero bytes"; a deletion has no value. (No law needs the limit of a value's length.)
pub record Good (c : Change) : Type 0 where
  pub inside : c.at ≤ c.start
  pub long : c.at < stop c
  pub named : 1 ≤ length c.name
  pub short : length c.name ≤ name_limit
  pub non_zero : until_nul c.name ≡ c.name
  pub bare : c.deleted ≡ true → c.value ≡ []

-- changes in journal order between two offsets, each behind the last byte of the one before it
abbrev pub Placed : ℕ → ℕ → List Change → Type 0
Placed lo hi [] = lo ≤ hi
Placed lo hi (c ∷ cs) = (lo ≤ c.at) × Good c × Placed (stop c) hi cs

-- a change with a value is no deletion
pub has_value : (c : Change) → Good c → 0 < length c.value → c.deleted ≡ false
has_value c g h = decide c.deleted (λ d. absurd (omega (arith, ap length (g.bare d)))) (λ d. d)

pub placed_le : (lo hi : ℕ) (cs : List Change) → Placed lo hi cs → lo ≤ hi
placed_le lo hi [] p = p
placed_le lo hi (c ∷ cs) p = omega (arith, p.0, p.1.long, placed_le (stop c) hi cs p.2)

-- they are placed behind any lower offset too
pub placed_lower : (lo low hi : ℕ) (cs : List Change) → low ≤ lo → Placed lo hi cs → Placed low hi cs
placed_lower lo low hi [] h p = omega arith
placed_lower lo low hi (c ∷ cs) h p = (omega (arith, p.0), p.1, p.2)

-- what is due is behind the lower offset, and before the upper one where something is
pub placed_behind : (lo hi : ℕ) (cs : List Change) → Placed lo hi cs → lo ≤ offset_or hi cs
placed_behind lo hi [] p = p
placed_behind lo hi (c ∷ cs) p = p.0

pub placed_before : (lo hi : ℕ) (cs : List Change) → Placed lo hi cs → is_due cs ≡ true → offset_or hi cs < hi
placed_before lo hi [] p d = absurd (false≢true d)
placed_before lo hi (c ∷ cs) p d = omega (arith, p.1.long, placed_le (stop c) hi cs p.2)

-- what is due of a change from a value byte on is placed as the change was
pub from_stop : (s : ℕ) (c : Change) → c.start ≤ s → s ≤ stop c → stop (from s c) ≡ stop c
from_stop s c h k = omega (arith, length-drop (s - c.start) c.value)

pub placed_from : (lo hi s : ℕ) (c : Change) (cs : List Change) → c.start ≤ s → s < stop c → Placed lo hi (c ∷ cs) → Placed lo hi (from s c ∷ cs)
placed_from lo hi s c cs h k p =
    let g = p.1 in
    let e = from_stop s c h (omega arith) in
    let n = s - c.start in (
      omega (arith, p.0, g.inside),
      record {
        inside = omega arith;
        long = omega arith;
        named = g.named;
        short = g.short;
        non_zero = g.non_zero;
        bare = λ d. ap (drop n) (g.bare d) ∙ drop-nil n;
      },
      placed_lower (stop c) (stop (from s c)) hi cs (omega arith) p.2,
    )
