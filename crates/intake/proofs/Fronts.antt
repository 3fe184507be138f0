-- Laws of good fronts, and of what is due.
use mathlib.Core.Path.{◌≡◌, refl, sym, ap, ap₂, ◌∙◌}
use mathlib.Core.Bool.{true, false, or-true, or-false, and-false, true≢false}
use mathlib.Core.List.{List}
use mathlib.Core.Logic.{inl, inr}
use Prim.Native.Nat.{ℕ, ◌+◌, ◌<◌, ◌≤◌}
use native.Mathlib.Omega.{arith}
use lib.Dec.{leb, eqb}
use lib.ListN.{length, take, drop, take-append-drop}
use lib.Seq.{length-take-le}
use borrow.Author.Tests.{le-leb, eqb-true, eqb-false}
use Rattle.words.proofs.Choice.{decide, and_left}
use Rattle.records.specs.Records.{length_of, kind_of, size_of, whole}
use Rattle.records.specs.Cutting.{due}
use Rattle.records.proofs.Due.{length_append_of, kind_append_of}
use Rattle.journal.specs.Journal.{good_frame, good_node, good_record}
use Rattle.journal.specs.Property.{value_most, property_frame, good_property}
use Rattle.journal.specs.Terms.{IsKind}
use Rattle.journal.specs.Inner.Terms.{length_for}
use Rattle.journal.proofs.Opcodes.{each_kind}
use Rattle.journal.proofs.RecordLaws.{frame_is, frame_none, framed}
use Rattle.journal.proofs.PropertyLaws.{value_most_le, property_framed, frame_kind, frame_above, frame_length}
use Rattle.tallies.specs.Keeping.{one_record}
use Rattle.intake.specs.Taking.{good_front}
use Rattle.intake.specs.Claims.Intake.{Fronts, FrontExactly}

-- ---- length and kind

module _ (len kind : ℕ) where
  front_other : (IsKind kind → ⊥) → good_front len kind ≡ property_frame len kind
  unfolding good_front
  front_other n = rw (frame_none len kind n)

  pub front_zero : kind < 1 → false ≡ good_front len kind
  front_zero h = sym (front_other (λ o. omega (arith, o.low)) ∙ frame_kind len kind (omega arith))

  pub front_node : 1 ≤ kind → kind < 5 → (n : ℕ) → n ≡ length_for kind → eqb len n ≡ good_front len kind
  unfolding good_front
  front_node l h n e = rw (frame_is len kind (record { low = l; high = omega arith }), frame_kind len kind h) (ap (eqb len) e ∙ sym (or-false (eqb len (length_for kind))))

  module _ (five : 5 ≤ kind) where
    front_property : good_front len kind ≡ property_frame len kind
    front_property = front_other (λ o. omega (arith, o.high))

    pub front_short : len < 8 → false ≡ good_front len kind
    front_short h = decide (property_frame len kind) (λ e. absurd (omega (arith, (property_framed len kind e).large))) (λ e. sym (front_property ∙ e))

    pub front_above : 6 < kind → false ≡ good_front len kind
    front_above h = sym (front_property ∙ frame_above len kind h)

    front_length : kind ≤ 6 → 8 ≤ len → leb len (38 + value_most kind) ≡ good_front len kind
    front_length h l = sym (front_property ∙ frame_length len kind five h ∙ rw (le-leb 8 len l))

    pub front_changed : kind ≡ 5 → 8 ≤ len → leb len 32_806 ≡ good_front len kind
    front_changed e l = ap (λ (k : ℕ). leb len (38 + value_most k)) (sym e) ∙ front_length (omega arith) l

    pub front_gone : kind ≡ 6 → 8 ≤ len → leb len 38 ≡ good_front len kind
    front_gone e l = ap (λ (k : ℕ). leb len (38 + value_most k)) (sym e) ∙ front_length (omega arith) l

  front_bounds : good_front len kind ≡ true → (8 ≤ len) × (len ≤ 32_806)
  unfolding good_front
  front_bounds good = decide (good_frame len kind)
      (λ e. omega (arith, framed len kind e))
      (λ e. omega (arith, property_framed len kind (rw e at good), value_most_le kind))

-- ---- the good fronts one by one

node_fronts : (len kind : ℕ) → IsKind kind → len ≡ length_for kind → Fronts len kind
node_fronts len = each_kind (λ (k : ℕ). len ≡ length_for k → Fronts len k)
    (λ e. inl (refl, e)) (λ e. inr (inl (refl, e))) (λ e. inr (inr (inl (refl, e)))) (λ e. inr (inr (inr (inl (refl, e)))))

property_fronts : (len kind : ℕ) → property_frame len kind ≡ true → Fronts len kind
property_fronts len kind good =
    let f = property_framed len kind good in
    decide (eqb kind 5)
    (λ e. inr (inr (inr (inr (inl (eqb-true kind 5 e, (f.large, rw e at f.small)))))))
    (λ e. inr (inr (inr (inr (inr (omega (arith, f.low, f.high, eqb-false kind 5 e), (f.large, rw e at f.small)))))))

told_front : (len kind : ℕ) → good_front len kind ≡ true → Fronts len kind
unfolding good_front
told_front len kind good = decide (good_frame len kind)
    (λ e. let f = framed len kind e in node_fronts len kind f.of f.length_is)
    (λ e. property_fronts len kind (rw e at good))

front_told : (len kind : ℕ) → Fronts len kind → good_front len kind ≡ true
unfolding good_front good_frame property_frame
front_told len kind (inl p) = rw (p.0, p.1)
front_told len kind (inr (inl p)) = rw (p.0, p.1)
front_told len kind (inr (inr (inl p))) = rw (p.0, p.1)
front_told len kind (inr (inr (inr (inl p)))) = rw (p.0, p.1)
front_told len kind (inr (inr (inr (inr (inl p))))) = rw (p.0, le-leb 8 len p.1.0, le-leb len 32_806 p.1.1)
front_told len kind (inr (inr (inr (inr (inr p))))) = rw (p.0, le-leb 8 len p.1.0, le-leb len 38 p.1.1)

pub front_exactly : FrontExactly
front_exactly len kind = (told_front len kind, front_told len kind)

-- what is due: the record where its front is good, else the four bytes
pub due_size : (b : List ℕ) → good_front (length_of b) (kind_of b) ≡ true → due good_front b ≡ size_of b
unfolding due
due_size b e = rw e (omega (arith, front_bounds (length_of b) (kind_of b) e))

pub due_four : (b : List ℕ) → good_front (length_of b) (kind_of b) ≡ false → due good_front b ≡ 4
unfolding due
due_four b e = rw e

-- no record is longer than the buffer that holds it
pub due_most : (r : List ℕ) → due good_front r ≤ 32_808
unfolding due
due_most r = decide (good_front (length_of r) (kind_of r)) (λ e. rw e (omega (arith, front_bounds (length_of r) (kind_of r) e))) (λ e. rw e (omega arith))

-- a good record has a good front
pub good_front_lem : (r : List ℕ) → good_record r ≡ true → good_front (length_of r) (kind_of r) ≡ true
unfolding good_record good_node good_property good_front
good_front_lem r good = decide (good_node r)
    (λ n. rw (and_left (good_frame (length_of r) (kind_of r)) _ n))
    (λ n. rw (and_left (property_frame (length_of r) (kind_of r)) _ (rw n at good), or-true (good_frame (length_of r) (kind_of r))))

-- four bytes with a bad front are no record
pub bad_front : (b : List ℕ) → 4 ≤ length b → good_front (length_of b) (kind_of b) ≡ false → one_record (take 4 b) ≡ false
unfolding one_record
bad_front b l e =
    let four : length (take 4 b) ≡ 4 = length-take-le 4 b l in
    let all = take-append-drop 4 b in
    let len : length_of (take 4 b) ≡ length_of b = sym (length_append_of (take 4 b) (drop 4 b) (omega arith)) ∙ ap length_of all in
    let kind : kind_of (take 4 b) ≡ kind_of b = sym (kind_append_of (take 4 b) (drop 4 b) (omega arith)) ∙ ap kind_of all in
    decide (good_record (take 4 b))
    (λ g. absurd (true≢false (sym (good_front_lem (take 4 b) g) ∙ ap₂ good_front len kind ∙ e)))
    (λ g. rw (g, and-false (whole (take 4 b))))
