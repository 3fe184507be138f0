-- What is due of a change, by where it stands in the journal.
use mathlib.Core.Path.{◌≡◌, refl, sym, ap, ◌∙◌}
use mathlib.Core.Bool.{Bool}
use mathlib.Core.List.{List, [], ◌∷◌}
use mathlib.Core.Logic.{inl, inr}
use Prim.Native.Nat.{ℕ, ◌+◌, ◌-◌, ◌≤◌, max}
use native.Mathlib.Omega.{arith}
use lib.Dec.{eqb}
use lib.ListN.{length, take, drop, length-drop}
use lib.Seq.{length-take-le, take-add, take-take, drop_at, drop-drop}
use borrow.Author.Tests.{le-leb, lt-leb}
use Rattle.words.specs.Nul.{until_nul}
use Rattle.words.proofs.Choice.{choose}
use Rattle.records.specs.Records.{kind_of, size_of, first_record}
use Rattle.journal.specs.Property.{name_of, value_of}
use Rattle.journal.specs.Holding.{HoldsProperty, property_in}
use Rattle.journal.specs.declared.property.PropertyRecord.{PropertyRecord}
use Rattle.journal.proofs.GoodLaws.{property_good}
use Rattle.journal.proofs.Sizes.{sized_here, kind_read}
use Rattle.properties.specs.declared.writing.Portion.{Portion}
use Rattle.properties.specs.Changes.{Change}
use Rattle.properties.specs.Inner.Following.{Within}
use Rattle.properties.specs.Inner.Writing.{change_at, due_of, portion_at}
use Rattle.properties.proofs.Steps.{ChangeStands, change_good}

-- a name is the front of the bytes that its NUL ends
until_front : (l : List ℕ) → until_nul l ≡ take (length (until_nul l)) l
unfolding until_nul
until_front [] = refl
until_front (b ∷ bs) = choose (eqb b 0) (λ (l : List ℕ). l ≡ take (length l) (b ∷ bs)) (λ _. refl) (λ _. ap (λ (l : List ℕ). b ∷ l) (until_front bs))

-- a portion by its parts
abbrev portion : ℕ → ℕ → ℕ → Bool → ℕ → ℕ → ℕ → Portion
portion at name named deleted value n end =
    record { at = at; name = name; name_length = named; deleted = deleted; value = value; length = n; end = end }

same_portion : {a b m n v w l k e f : ℕ} {c d : Bool} (name : ℕ) → a ≡ b → m ≡ n → c ≡ d → v ≡ w → l ≡ k → e ≡ f
    → portion a name m c v l e ≡ portion b name n d w k f
same_portion name p q r s t u = rw (p, q, r, s, t, u)

module _ (j : List ℕ) (at : ℕ) (h : HoldsProperty j at) where
  abbrev here : List ℕ
  here = first_record (drop at j)

  abbrev size : ℕ
  size = size_of (drop at j)

  abbrev named : ℕ
  named = length (name_of here)

  -- ---- its record

  pub stands : ChangeStands j at (change_at j at)
  stands = change_good j at h.inside h.good

  pub record_fits : at + size ≤ length j
  record_fits = (sized_here j at (property_good j at h.good)).1

  kind_is : eqb (kind_of here) 6 ≡ eqb (kind_of (drop at j)) 6
  kind_is = ap (λ (k : ℕ). eqb k 6) (kind_read j at (property_good j at h.good))

  -- the record from a byte on, its name, and its value from a byte on
  rest_at : (k : ℕ) → k ≤ size → drop k here ≡ take (size - k) (drop (at + k) j)
  rest_at k l =
      let n = size - k in
      let there = drop at j in
      let parts : size ≡ k + n = omega arith in
      ap (λ (m : ℕ). drop k (take m there)) parts ∙ ap (drop k) (take-add k n there)
      ∙ drop_at (take k there) _ k (length-take-le k there (omega (arith, length-drop at j, record_fits))) ∙ ap (take n) (drop-drop k at j)

  pub name_at_lem : name_of here ≡ take named (drop (at + 8) j)
  unfolding name_of
  name_at_lem =
      let n = length (until_nul (drop 8 here)) in
      until_front (drop 8 here) ∙ ap (take n) (rest_at 8 (omega (arith, stands.within))) ∙ take-take n (size - 8) (drop (at + 8) j) (omega (arith, stands.within))

  value_part : (k n s : ℕ) → 9 + named + k ≤ size → n ≡ size - (9 + named) - k → s ≡ at + (9 + named) + k → drop k (value_of here) ≡ take n (drop s j)
  unfolding value_of
  value_part k n s l p q =
      let a : size - (8 + named + 1 + k) ≡ n = omega arith in
      let b : at + (8 + named + 1 + k) ≡ s = omega arith in
      drop-drop k (8 + named + 1) here ∙ rest_at (8 + named + 1 + k) (omega arith) ∙ rw (a, b)

  -- ---- what is due of it

  module _ (s : ℕ) where
    abbrev due : Change
    due = due_of s (change_at j at)

    -- its offset and its value's by the code's choices, where its value ends, and the rest of it
    pub record DueHere : Type 0 where
      pub place : max at s ≡ due.at
      pub starts : max (at + 9 + named) s ≡ due.start
      pub behind : at + 9 + named ≤ due.start
      pub ends : due.start + length due.value ≡ at + size
      pub name : due.name ≡ name_of here
      pub kind : due.deleted ≡ eqb (kind_of here) 6
      pub value : due.value ≡ take (length due.value) (drop due.start j)
      pub inside : due.at ≤ due.start
      pub reached : s ≤ at + size

    pub due_here : Within s (change_at j at) → DueHere
    due_here (inl k) =
        let a = le-leb s at k in
        let c = stands in
        record {
          place = rw a (omega arith);
          starts = rw a (omega arith);
          behind = rw a (omega arith);
          ends = rw a c.ends;
          name = rw a;
          kind = rw a;
          value = rw a (value_part 0 (length (value_of here)) (at + (8 + named + 1)) (omega (arith, c.within)) (omega (arith, c.counts)) (omega arith));
          inside = rw a (omega arith);
          reached = omega arith;
        }
    due_here (inr (k, l)) =
        let a = lt-leb s at (omega arith) in
        let c = stands in
        let d = s - (at + (8 + named + 1)) in
        let n = length-drop d (value_of here) in
        record {
          place = rw a (omega arith);
          starts = rw a (omega arith);
          behind = rw a (omega arith);
          ends = rw a (omega (arith, n, c.ends));
          name = rw a;
          kind = rw a;
          value = rw a (value_part d (length (drop d (value_of here))) s (omega (arith, c.counts)) (omega (arith, c.counts, n)) (omega arith));
          inside = rw a (omega arith);
          reached = omega (arith, c.ends);
        }

    -- what the code reads is what is due
    module _ (w : Within s (change_at j at)) (p : PropertyRecord) (e : p ≡ property_in j at) (value place : ℕ)
        (f : value ≡ max (at + 9 + p.name_length) s) (g : place ≡ max at s) where
      value_starts : value ≡ due.start
      value_starts = f ∙ rw e (due_here w).starts

      pub portion_inside : value ≤ at + p.size
      portion_inside = rw e (omega (arith, value_starts, (due_here w).ends))

      pub portion_is : portion place (at + 8) p.name_length p.deleted value (at + p.size - value) (at + p.size) ≡ portion_at j at s
      portion_is =
          let d = due_here w in
          let size_is : p.size ≡ size = ap (λ (r : PropertyRecord). r.size) e in
          same_portion (at + 8) (g ∙ d.place) (ap (λ (r : PropertyRecord). r.name_length) e ∙ ap length (sym d.name))
          (ap (λ (r : PropertyRecord). r.deleted) e ∙ sym (d.kind ∙ kind_is)) value_starts (omega (arith, value_starts, d.ends)) (omega arith)
