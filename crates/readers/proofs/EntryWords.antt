-- Entries of an area, stored in a buffer one after the other as so many words each.
use mathlib.Core.Path.{◌≡◌, refl, ap, ◌∙◌}
use mathlib.Core.List.{List, [], ◌++◌}
use Prim.Native.Nat.{ℕ, suc, ◌+◌, ◌*◌, ◌-◌, ◌<◌, ◌≤◌}
use native.Mathlib.Nat.{mul-zero, mul-suc}
use native.Mathlib.Numerals.{add-one}
use native.Mathlib.Omega.{arith}
use lib.ListN.{length}
use lib.Seq.{sets, length-sets}
use Rattle.words.proofs.Stores.{sets_behind}

-- `ahead n area at` tells that a check passed the n entries from a place of an area on, `words_of n area at` are their words.
module _ (width : ℕ) (ahead : ℕ → List ℕ → ℕ → Type 0) (words_of : ℕ → List ℕ → ℕ → List ℕ) (first : ℕ) (area start : List ℕ) (count : ℕ) where
  -- the words of the first i entries are stored, and those of the rest are to come, from a place on
  pub record Storing (l : List ℕ) (at i : ℕ) : Type 0 where
    pub few : i ≤ count
    pub passed : ahead (count - i) area at
    pub same : length l ≡ length start
    pub rest : sets l (width * i) (words_of (count - i) area at) ≡ sets start 0 (words_of count area first)

  pub storing_first : ahead count area first → Storing start first 0
  storing_first h =
      let all : count - 0 ≡ count = omega arith in
      record { few = omega arith; passed = rw all h; same = refl; rest = rw (all, mul-zero) }

module _ {width first count at i : ℕ} {ahead : ℕ → List ℕ → ℕ → Type 0} {words_of : ℕ → List ℕ → ℕ → List ℕ} {area start l : List ℕ}
    (t : Storing width ahead words_of first area start count l at i) where
  module _ (more : i < count) where
    left : count - i ≡ suc (count - (i + 1))
    left = omega arith

    pub storing_passed : ahead (suc (count - (i + 1))) area at
    storing_passed = rw left at t.passed

    -- the words of one more are stored
    pub storing_next : {m : List ℕ} (ws : List ℕ) (next : ℕ) → length ws ≡ width → words_of (suc (count - (i + 1))) area at ≡ ws ++ words_of (count - (i + 1)) area next
        → ahead (count - (i + 1)) area next → m ≡ sets l (width * i) ws → Storing width ahead words_of first area start count m next (i + 1)
    storing_next ws next wide one passed stored =
        let place : width * (i + 1) ≡ width * i + length ws = rw (wide, add-one i, mul-suc width i) in
        record {
          few = omega arith;
          passed = passed;
          same = ap length stored ∙ length-sets l (width * i) ws ∙ t.same;
          rest = rw stored (sets_behind l (width * i) (width * (i + 1)) ws (words_of (count - (i + 1)) area next) place ∙ (rw (left, one) at t.rest));
        }

  pub storing_end : words_of 0 area at ≡ [] → count ≤ i → l ≡ sets start 0 (words_of count area first)
  storing_end none h = let all : count - i ≡ 0 = omega arith in rw (all, none) at t.rest
