-- What stands at a place of a list, where it is known how the list goes on from there.
use mathlib.Core.Path.{◌≡◌, sym, ap, ◌∙◌}
use mathlib.Core.List.{List, ◌++◌}
use Prim.Native.Nat.{ℕ, ◌+◌, ◌<◌}
use native.Mathlib.Nat.{add-zero, mod-eq_of_lt}
use lib.ListN.{length, drop}
use lib.Seq.{drop_at, drop-drop}
use Rattle.words.specs.Numbers.{be, be32, be_bytes}
use Rattle.words.proofs.Numbers.{be_drop, be_bytes_lem}

-- a word
pub word_there : (area : List ℕ) (at v : ℕ) (r : List ℕ) → drop at area ≡ be_bytes 4 v ++ r → v < 0x1_0000_0000 → be32 area at ≡ v
word_there area at v r e h =
    let here : be 4 (drop at area) 0 ≡ be 4 area (at + 0) = be_drop 4 at area 0 in
    ap (λ (k : ℕ). be 4 area k) (sym (add-zero at)) ∙ sym here ∙ ap (λ (l : List ℕ). be 4 l 0) e ∙ be_bytes_lem 4 v r ∙ mod-eq_of_lt h

-- what follows behind n bytes
pub behind : (area : List ℕ) (at n k : ℕ) (p r : List ℕ) → k ≡ at + n → drop at area ≡ p ++ r → length p ≡ n → drop k area ≡ r
behind area at n k p r q e h = ap (λ (i : ℕ). drop i area) q ∙ sym (drop-drop n at area) ∙ ap (λ (l : List ℕ). drop n l) e ∙ drop_at p r n h
