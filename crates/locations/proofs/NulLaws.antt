-- Laws of the fixed list: the bytes behind so many NULs.
use mathlib.Core.Path.{◌≡◌, refl, sym, ap, ◌∙◌}
use mathlib.Core.Bool.{Bool, true, false, cond}
use mathlib.Core.List.{List, [], ◌∷◌, ◌++◌, append_assoc}
use Prim.Native.Nat.{ℕ, zero, suc, ◌+◌, ◌-◌, ◌<◌, ◌≤◌, min}
use native.Mathlib.Nat.{zero-add}
use native.Mathlib.Numerals.{add-one}
use native.Mathlib.Omega.{arith}
use lib.Dec.{ltb, eqb}
use lib.ListN.{length, get_or, take, drop, length-take, length-drop, length-append, take-append-drop, drop_of_length-le}
use lib.Seq.{slice, length-slice, drop-cons, take-length, drop-nil, drop-drop, drop-append-le, drop-append-add, take_at}
use borrow.Author.Tests.{eq-eqb, ne_eqb, eqb-true, eqb-false, lt-ltb, le-ltb, ltb-true, ltb-false}
use Rattle.words.specs.Nul.{until_nul}
use Rattle.words.proofs.Choice.{choose, decide}
use Rattle.words.proofs.Ranges.{range_is}
use Rattle.std.specs.Int.{from_bool}
use Rattle.words.proofs.Ends.{until-take, string_back}
use Rattle.locations.specs.declared.lookups.Location.TheVariants as location
use Rattle.locations.specs.Locations.{behind_nuls, fixed_part, fixed_location, code_of}
use Rattle.locations.specs.Inner.Terms.{nuls, Skips, entry_start}
use Rattle.locations.specs.Claims.Locations.{Plain, AllPlain, ended, EachFixed}

-- ---- counting the NULs of a block

-- the bytes up to a place are counted
pub record Counts (block : List ℕ) (i n : ℕ) : Type 0 where
  pub few : n ≤ i
  pub same : n + nuls (drop i block) ≡ nuls block

pub counts_start : (block : List ℕ) → Counts block 0 0
counts_start block = record { few = omega arith; same = zero-add _ }

pub one_nul : (b : Bool) → (from_bool b ≤ 1) × (from_bool b ≡ cond b 1 0)
one_nul true = (omega arith, refl)
one_nul false = (omega arith, refl)

module _ {block : List ℕ} {i n : ℕ} (c : Counts block i n) where
  pub counts_next : (k : ℕ) (b : Bool) → i < length block → b ≡ eqb (get_or block i 0) 0 → k ≡ from_bool b → Counts block (i + 1) (n + k)
  unfolding nuls
  counts_next k b h is e =
      let one = one_nul b in
      let counted : k ≡ cond (eqb (get_or block i 0) 0) 1 0 = e ∙ one.1 ∙ ap (λ (x : Bool). cond x 1 0) is in
      let next : nuls (drop i block) ≡ k + nuls (drop (i + 1) block) = rw (drop-cons block i 0 h, ← counted, add-one i) in
      record { few = omega (arith, c.few, one.0, e); same = omega (arith, c.same, next) }

  pub counts_end : length block ≤ i → n ≡ nuls block
  unfolding nuls
  counts_end h = let none : nuls (drop i block) ≡ 0 = rw (drop_of_length-le block h) in omega (arith, c.same)

-- ---- past NULs

behind-nil : (k : ℕ) → behind_nuls k [] ≡ []
unfolding behind_nuls
behind-nil zero = refl
behind-nil (suc k) = refl

-- past bytes that have fewer
behind_more : (p r : List ℕ) (k : ℕ) → nuls p < k → behind_nuls k (p ++ r) ≡ behind_nuls (k - nuls p) r
unfolding behind_nuls nuls
behind_more [] r k h = let all : k - 0 ≡ k = omega arith in rw all
behind_more (b ∷ p) r zero h = absurd (omega arith)
behind_more (b ∷ p) r (suc k) h =
    decide (eqb b 0)
    (λ t. let h₁ = rw t at h in let less : suc k - (1 + nuls p) ≡ k - nuls p = omega arith in rw (t, less) (behind_more p r k (omega arith)))
    (λ t. let h₁ = rw t at h in rw (t, zero-add (nuls p)) (behind_more p r (suc k) (omega arith)))

-- past the first, or past the end where there is none
behind_one : (k : ℕ) (l : List ℕ) → behind_nuls (suc k) l ≡ behind_nuls k (drop (suc (length (until_nul l))) l)
unfolding behind_nuls until_nul
behind_one k [] = sym (behind-nil k)
behind_one k (b ∷ bs) = decide (eqb b 0) (λ t. rw t) (λ t. rw t (behind_one k bs))

-- they are the end of the list
pub behind_short : (k : ℕ) (l : List ℕ) → length (behind_nuls k l) ≤ length l
unfolding behind_nuls
behind_short zero l = omega arith
behind_short (suc k) [] = omega arith
behind_short (suc k) (b ∷ bs) = choose (eqb b 0) (λ (r : List ℕ). length r ≤ suc (length bs)) (λ _. omega (arith, behind_short k bs)) (λ _. omega (arith, behind_short (suc k) bs))

later : (b : ℕ) (bs r : List ℕ) → length r ≤ length bs → drop (length bs - length r) bs ≡ r → drop (suc (length bs) - length r) (b ∷ bs) ≡ r
later b bs r h e = let less : suc (length bs) - length r ≡ suc (length bs - length r) = omega arith in rw less e

behind_place : (k : ℕ) (l : List ℕ) → drop (entry_start l k) l ≡ behind_nuls k l
unfolding behind_nuls
behind_place zero l = let none : length l - length l ≡ 0 = omega arith in rw none
behind_place (suc k) [] = drop-nil (0 - 0)
behind_place (suc k) (b ∷ bs) =
    decide (eqb b 0)
    (λ t. rw t (later b bs (behind_nuls k bs) (behind_short k bs) (behind_place k bs)))
    (λ t. rw t (later b bs (behind_nuls (suc k) bs) (behind_short (suc k) bs) (behind_place (suc k) bs)))

-- ---- the search for an entry

-- a search for a NUL stops at the list's end
-- the place of the NUL by the code's search behind a place
pub nul_place_lem : (l : List ℕ) (at n : ℕ) → n ≡ length (until_nul (take (length l - at) (drop at l))) → at + n ≡ at + length (until_nul (slice at (length l) l))
nul_place_lem l at n e = ap (λ (k : ℕ). at + k) (e ∙ ap (λ (b : List ℕ). length (until_nul b)) (range_is l at (length l)))

pub nul_inside : (l : List ℕ) (at nul : ℕ) → at ≤ length l → nul ≡ at + length (until_nul (slice at (length l) l)) → nul ≤ length l
nul_inside l at nul h e =
    let rest : List ℕ = slice at (length l) l in
    let short = rw (take-length rest) at (until-take (length rest) rest) in
    omega (arith, short, length-slice at (length l) l (omega arith))

abbrev pub Seeks : List ℕ → ℕ → ℕ → ℕ → Type 0
Seeks l index at left = Skips l index (record { at = at; left = left })

module _ {l : List ℕ} {index at left : ℕ} (s : Seeks l index at left) where
  block : (to : ℕ) → at ≤ to → to ≤ length l → drop at l ≡ slice at to l ++ drop to l
  block to h f = sym (ap (drop at) (take-append-drop to l)) ∙ drop-append-le at (take to l) (drop to l) (omega (arith, length-take to l))

  pub seeks_block : (n : ℕ) → at + 64 ≤ length l → n ≡ nuls (take (at + 64 - at) (drop at l)) → n < left → Seeks l index (at + 64) (left - n)
  seeks_block n f told h =
      let e : n ≡ nuls (slice at (at + 64) l) = told ∙ ap nuls (range_is l at (at + 64)) in
      record { inside = f; same = rw e (sym (behind_more (slice at (at + 64) l) (drop (at + 64) l) left (omega arith)) ∙ ap (behind_nuls left) (sym (block (at + 64) (omega arith) f)) ∙ s.same) }

  -- past the next NUL
  pub seeks_next : (nul to : ℕ) → 0 < left → nul ≡ at + length (until_nul (slice at (length l) l)) → to ≡ min (nul + 1) (length l) → Seeks l index to (left - 1)
  seeks_next nul to h e m =
      let rest : nul ≡ at + length (until_nul (drop at l)) = rw (take-length l) at e in
      let some : suc (left - 1) ≡ left = omega arith in
      let past : at + suc (length (until_nul (drop at l))) ≡ nul + 1 = omega arith in
      let cut : drop to l ≡ drop (nul + 1) l =
      decide (ltb (nul + 1) (length l))
      (λ t. let k : to ≡ nul + 1 = omega (arith, ltb-true (nul + 1) (length l) t) in rw k)
      (λ t. let k : to ≡ length l = omega (arith, ltb-false (nul + 1) (length l) t) in drop_of_length-le l {i = to} (omega arith) ∙ sym (drop_of_length-le l (ltb-false (nul + 1) (length l) t))) in
      record {
        inside = omega arith;
        same = ap (behind_nuls (left - 1)) (cut ∙ sym (ap (λ (k : ℕ). drop k l) past) ∙ sym (drop-drop (suc (length (until_nul (drop at l)))) at l)) ∙ sym (behind_one (left - 1) (drop at l)) ∙ ap (λ (k : ℕ). behind_nuls k (drop at l)) some ∙ s.same;
      }

  found : (behind_nuls left (drop at l) ≡ drop at l) → at ≡ entry_start l index
  found e = omega (arith, s.inside, ap length (sym e ∙ s.same), length-drop at l)

  pub seeks_none : left ≤ 0 → at ≡ entry_start l index
  unfolding behind_nuls
  seeks_none h = let none : left ≡ 0 = omega arith in found (rw none)

  pub seeks_end : length l ≤ at → at ≡ entry_start l index
  seeks_end h = found (rw (drop_of_length-le l h) (behind-nil left))

-- ---- the code of an entry, from its start up to its NUL
module _ (fixed : List ℕ) (index start end : ℕ) (begins : start ≡ entry_start fixed index) (ends : end ≡ start + length (until_nul (slice start (length fixed) fixed))) where
  code_end : end ≡ start + length (until_nul (behind_nuls index fixed))
  code_end = let e = rw (take-length fixed) at ends in e ∙ ap (λ (l : List ℕ). start + length (until_nul l)) (rw begins (behind_place index fixed))

  pub part_ended : end < length fixed → record { start = start; length = end - start } ≡ fixed_part fixed index
  unfolding fixed_part
  part_ended h =
      let long : end - start ≡ length (until_nul (behind_nuls index fixed)) = omega (arith, code_end) in
      rw (long, lt-ltb (length (until_nul (behind_nuls index fixed))) (length (behind_nuls index fixed)) (omega (arith, code_end, behind_short index fixed)), begins)

  pub part_open : length fixed ≤ end → record { start = start; length = 0 } ≡ fixed_part fixed index
  unfolding fixed_part
  part_open h = rw (le-ltb (length (until_nul (behind_nuls index fixed))) (length (behind_nuls index fixed)) (omega (arith, code_end, behind_short index fixed)), begins)

-- ---- codes with their NULs, one after the other

-- past a code
behind_code : (k : ℕ) (c r : List ℕ) → Plain c → behind_nuls (suc k) (c ++ (0 ∷ r)) ≡ behind_nuls k r
behind_code k c r h =
    behind_one k (c ++ (0 ∷ r)) ∙ rw (string_back (c ++ (0 ∷ r)) c r refl h, ← add-one (length c)) (ap (behind_nuls k) (drop-append-add c (0 ∷ r) 1))

-- at a code, and past all of them
behind_some : (codes : List (List ℕ)) (rest : List ℕ) (index : ℕ) → AllPlain codes → index < length codes
    → behind_nuls index (ended codes ++ rest) ≡ get_or codes index [] ++ (0 ∷ (ended (drop (suc index) codes) ++ rest))
unfolding ended behind_nuls
behind_some [] rest index h l = absurd (omega arith)
behind_some (c ∷ cs) rest zero h l = append_assoc c (0 ∷ ended cs) rest
behind_some (c ∷ cs) rest (suc index) h l = ap (behind_nuls (suc index)) (append_assoc c (0 ∷ ended cs) rest) ∙ behind_code index c (ended cs ++ rest) h.0 ∙ behind_some cs rest index h.1 (omega arith)

behind_all : (codes : List (List ℕ)) (rest : List ℕ) (index : ℕ) → AllPlain codes → length codes ≤ index → behind_nuls index (ended codes ++ rest) ≡ behind_nuls (index - length codes) rest
unfolding ended
behind_all [] rest index h l = let all : index - 0 ≡ index = omega arith in rw all
behind_all (c ∷ cs) rest zero h l = absurd (omega arith)
behind_all (c ∷ cs) rest (suc index) h l =
    let less : suc index - suc (length cs) ≡ index - length cs = omega arith in
    rw less (ap (behind_nuls (suc index)) (append_assoc c (0 ∷ ended cs) rest) ∙ behind_code index c (ended cs ++ rest) h.0 ∙ behind_all cs rest index h.1 (omega arith))

-- where a code begins
before_some : (codes : List (List ℕ)) (index : ℕ) → index < length codes → length (ended codes) ≡ length (ended (take index codes)) + (length (get_or codes index []) + suc (length (ended (drop (suc index) codes))))
unfolding ended
before_some [] index l = absurd (omega arith)
before_some (c ∷ cs) zero l = omega (arith, length-append c (0 ∷ ended cs))
before_some (c ∷ cs) (suc index) l = omega (arith, before_some cs index (omega arith), length-append c (0 ∷ ended cs), length-append c (0 ∷ ended (take index cs)))

code_start : (codes : List (List ℕ)) (rest : List ℕ) (index : ℕ) → AllPlain codes → index < length codes → entry_start (ended codes ++ rest) index ≡ length (ended (take index codes))
code_start codes rest index h l =
    let after : List ℕ = ended (drop (suc index) codes) in
    omega (arith, before_some codes index l, ap length (behind_some codes rest index h l), length-append (ended codes) rest, length-append (get_or codes index []) (0 ∷ (after ++ rest)), length-append after rest)

each_plain : (codes : List (List ℕ)) (index : ℕ) → AllPlain codes → Plain (get_or codes index [])
unfolding until_nul
each_plain [] index h = refl
each_plain (c ∷ cs) zero h = h.0
each_plain (c ∷ cs) (suc index) h = each_plain cs index h.1

-- no bytes are behind the last of no NULs
behind_plain_lem : (rest : List ℕ) (k : ℕ) → Plain rest → length (behind_nuls k rest) ≤ length (until_nul (behind_nuls k rest))
unfolding behind_nuls
behind_plain_lem rest zero h = rw h (omega arith)
behind_plain_lem rest (suc k) h =
    rw (behind_one k rest, h, drop_of_length-le {A = ℕ} rest {i = suc (length rest)} (omega arith), behind-nil k) (omega arith)

-- ---- where a code of the fixed list is found

module _ (fixed : List ℕ) (index : ℕ) where
  open_none : length (behind_nuls index fixed) ≤ length (until_nul (behind_nuls index fixed)) → fixed_location fixed index ≡ location.NotFound
  unfolding fixed_location fixed_part
  open_none h = rw (le-ltb (length (until_nul (behind_nuls index fixed))) (length (behind_nuls index fixed)) h)

  module _ (c r : List ℕ) (stands : behind_nuls index fixed ≡ c ++ (0 ∷ r)) (plain : Plain c) where
    there : fixed_part fixed index ≡ record { start = entry_start fixed index; length = length c }
    unfolding fixed_part
    there = rw (ap until_nul stands ∙ string_back (c ++ (0 ∷ r)) c r refl plain, lt-ltb (length c) (length (behind_nuls index fixed)) (omega (arith, ap length stands, length-append c (0 ∷ r))))

    code_none : length c ≡ 0 → fixed_location fixed index ≡ location.NotFound
    unfolding fixed_location
    code_none h = rw (there, eq-eqb (length c) 0 h)

    code_some : (length c ≡ 0 → ⊥) → fixed_location fixed index ≡ location.InFixed (record { start = entry_start fixed index; length = length c })
    unfolding fixed_location
    code_some h = rw (there, ne_eqb (length c) 0 h)

    code_there : take (length c) (drop (entry_start fixed index) fixed) ≡ c
    code_there = rw (behind_place index fixed, stands) (take_at c (0 ∷ r) (length c) refl)

nothing : (c : List ℕ) → length c ≡ 0 → c ≡ []
nothing [] h = refl
nothing (b ∷ bs) h = absurd (omega arith)

pub each_fixed : EachFixed
each_fixed codes rest area index plain =
    let fixed : List ℕ = ended codes ++ rest in
    let c : List ℕ = get_or codes index [] in
    let r : List ℕ = ended (drop (suc index) codes) ++ rest in
    let none : index < length codes → length c ≡ 0 → fixed_location fixed index ≡ location.NotFound = λ l. code_none fixed index c r (behind_some codes rest index plain l) (each_plain codes index plain) in
    let some : index < length codes → (length c ≡ 0 → ⊥) → fixed_location fixed index ≡ location.InFixed (record { start = entry_start fixed index; length = length c }) = λ l. code_some fixed index c r (behind_some codes rest index plain l) (each_plain codes index plain) in
    record {
      code = λ l.
          decide (eqb (length c) 0)
          (λ t. let z = eqb-true (length c) 0 t in ap (code_of area fixed) (none l z) ∙ sym (nothing c z))
          (λ t. ap (code_of area fixed) (some l (eqb-false (length c) 0 t)) ∙ code_there fixed index c r (behind_some codes rest index plain l) (each_plain codes index plain));
      place = λ l h. rw (← code_start codes rest index plain l) (some l (λ z. h (nothing c z)));
      empty = λ l h. none l (ap length h);
      past = λ p l. open_none fixed index (rw (behind_all codes rest index plain l) (behind_plain_lem rest (index - length codes) p));
    }
