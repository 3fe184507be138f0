-- What one record adds to a node's changes, and what an area holds of them: the claims hold.
use mathlib.Core.Path.{◌≡◌, refl, sym, ap, ◌∙◌}
use mathlib.Core.Bool.{Bool, true, false, ◌&&◌, not, and-false, false≢true}
use mathlib.Core.List.{List, [], ◌∷◌, ◌++◌}
use mathlib.Core.Logic.{◌⊎◌, ⊎_elim}
use Prim.Native.Nat.{ℕ, ◌+◌, ◌-◌, ◌<◌, ◌≤◌}
use native.Mathlib.Omega.{arith}
use lib.Dec.{eqb}
use lib.ListN.{length, drop}
use lib.Seq.{drop-drop}
use borrow.Author.Tests.{eq-eqb, ne_eqb, eqb-true, le-leb, lt-leb, le-ltb, lt-ltb}
use Rattle.words.proofs.Choice.{decide, and_left, and_right}
use Rattle.words.specs.Numbers.{le}
use Rattle.words.specs.Claims.Exactly.{Named}
use Rattle.words.proofs.Named.{named_until, named_rest}
use Rattle.records.specs.Records.{kind_of, records, whole}
use Rattle.records.proofs.Joining.{records_join, one_record_lem, one_good}
use Rattle.records.proofs.Whole.{records_none}
use Rattle.journal.specs.Property.{name_of, value_of}
use Rattle.property_area.specs.Piece.{Property, Piece}
use Rattle.properties.specs.Changes.{Change, change_of, is_of, changes_from, property, properties, stop, due_at, up_to}
use Rattle.properties.specs.Filling.{header, whole as whole_of, weight, parts, same, onto, joined}
use Rattle.properties.specs.Session.{after, state}
use Rattle.properties.specs.Claims.Changes.{changes_in, ChangeExactly, ChangesExactly, AllThatFits, FillExactly, all, some, none}
use Rattle.properties.specs.Claims.Changes.{DueExactly, JoinedParts, SessionExactly}
use Rattle.properties.proofs.Joins.{same_self}
use Rattle.properties.proofs.Fills.{Fills, none as nothing, goes, splits, waits, fill_is}

-- ---- one record at the front

-- a whole record and bytes after it: the record, then the records of these
records_whole : (r rest : List ℕ) → whole r ≡ true → records (r ++ rest) ≡ r ∷ records rest
records_whole r rest w =
    let any : List ℕ → Bool = λ _. true in
    records_join any r rest (one_good r any (rw w)) ∙ rw (one_record_lem r w)

same_change : {m n v w : List ℕ} {d e : Bool} {s t : ℕ} (at : ℕ) → m ≡ n → d ≡ e → s ≡ t → v ≡ w
    → ◌≡◌ {A = Change} (record { at = at; name = m; deleted = d; start = s; value = v }) (record { at = at; name = n; deleted = e; start = t; value = w })
same_change at p q a b = rw (p, q, a, b)

module _ (phandle at : ℕ) (r rest : List ℕ) (w : whole r ≡ true) where
  -- it holds a change of the node, or none
  change_yes : is_of phandle r ≡ true → changes_in phandle at (r ++ rest) ≡ change_of at r ∷ changes_in phandle (at + length r) rest
  unfolding changes_from
  change_yes e = ap (changes_from phandle at) (records_whole r rest w) ∙ rw e

  change_no : is_of phandle r ≡ false → changes_in phandle at (r ++ rest) ≡ changes_in phandle (at + length r) rest
  unfolding changes_from
  change_no e = ap (changes_from phandle at) (records_whole r rest w) ∙ rw e

  of_node : 5 ≤ le 2 r 2 → le 4 r 4 ≡ phandle → is_of phandle r ≡ true
  unfolding is_of kind_of
  of_node k p = rw (le-leb 5 (le 2 r 2) k, eq-eqb (le 4 r 4) phandle p)

  of_none : (le 2 r 2 < 5) ⊎ (le 4 r 4 ≡ phandle → ⊥) → is_of phandle r ≡ false
  unfolding is_of kind_of
  of_none = ⊎_elim
      (λ (k : le 2 r 2 < 5). rw (lt-leb 5 (le 2 r 2) k))
      (λ (p : le 4 r 4 ≡ phandle → ⊥). rw (ne_eqb (le 4 r 4) phandle p, and-false))

  -- what it holds, by its name and what follows
  held : (kind : ℕ) (name value : List ℕ) → le 2 r 2 ≡ kind → Named 31 (drop 8 r) name value
      → change_of at r ≡ record { at = at; name = name; deleted = eqb kind 6; start = at + (9 + length name); value = value }
  unfolding name_of value_of kind_of
  held kind name value k n =
      let there : 8 + length (name_of r) + 1 ≡ 8 + (length name + 1) = omega (arith, ap length (named_until n)) in
      same_change at (named_until n) (ap (λ (x : ℕ). eqb x 6) k) (omega (arith, there)) (rw there (sym (drop-drop (length name + 1) 8 r) ∙ named_rest n))

  exactly : ChangeExactly phandle at r rest
  exactly = record {
    changed = λ k p name value n. change_yes (of_node (omega arith) p) ∙ rw (held 5 name value k n);
    removed = λ k p name n. change_yes (of_node (omega arith) p) ∙ rw (held 6 name [] k n);
    other = λ o. change_no (of_none o);
  }

pub changes_exactly : ChangesExactly
unfolding changes_from
changes_exactly = record { all = λ phandle j. refl; none = λ phandle at. rw records_none; each = exactly }

-- ---- what an area holds

-- one whole change more in front
one_more : {room : ℕ} {cs es : List Change} {ps : List Piece} (c : Change) → whole_of c ≤ room → AllThatFits (room - whole_of c) cs ps es
    → AllThatFits room (c ∷ cs) (record { part = property c; more = false } ∷ ps) es
unfolding weight properties
one_more c h (all p d w) = all (rw p) d (omega arith)
one_more c h (some bs b after n e p d l u w) = some (c ∷ bs) b after n (rw e) (rw p) d l u (omega arith)
one_more c h (none bs b after e p d l u) = none (c ∷ bs) b after (rw e) (rw p) d (omega arith) (omega arith)

fills_exactly : {room : ℕ} {cs es : List Change} {ps : List Piece} → Fills room cs ps es → AllThatFits room cs ps es
unfolding weight properties
fills_exactly nothing = all refl refl (omega arith)
fills_exactly (goes {c = c} h f) = one_more c h (fills_exactly f)
fills_exactly {room} (splits {c = c} {cs = cs} s e h g) =
    let n = room - header c in
    let same : s - c.start ≡ n = omega arith in
    some [] c cs n refl (rw same) (rw (same, e)) (omega arith) (omega arith) (omega arith)
fills_exactly (waits {c = c} {cs = cs} h g) = none [] c cs refl refl refl (omega arith) (omega arith)

pub fill_exactly : FillExactly
fill_exactly room cs = fills_exactly (fill_is room cs)

-- ---- a session

same_eq : (l m : List ℕ) → same l m ≡ true → l ≡ m
unfolding same
same_eq [] [] e = refl
same_eq [] (b ∷ m) e = absurd (false≢true e)
same_eq (a ∷ l) [] e = absurd (false≢true e)
same_eq (a ∷ l) (b ∷ m) e = rw (eqb-true a b (and_left _ _ e), same_eq l m (and_right (eqb a b) _ e))

not_same : (l m : List ℕ) → (l ≡ m → ⊥) → same l m ≡ false
not_same l m n = decide (same l m) (λ t. absurd (n (same_eq l m t))) (λ f. f)

-- a name that differs, or a deletion, is joined to nothing
apart : (p q : Property) → (p.name ≡ q.name → ⊥) ⊎ (q.deleted ≡ true) → (not q.deleted && same p.name q.name) ≡ false
apart p q e = ⊎_elim (λ n. simp (not_same p.name q.name n, and-false)) (λ d. rw d) e

due_exactly : (s : ℕ) (c : Change) (cs : List Change) → DueExactly s c cs
unfolding due_at up_to
due_exactly s c cs = record {
  whole = λ h. (rw (le-leb s c.at h), rw (le-ltb c.at s h));
  within = λ h g. rw (lt-leb s c.at h, lt-ltb s (stop c) g);
  past = λ h g. rw (lt-leb s c.at h, le-ltb s (stop c) g);
  told = λ h. rw (lt-ltb c.at s h);
}

joined_parts : (p : Piece) (q : Property) (ps : List Piece) (qs : List Property) → JoinedParts p q ps qs
unfolding joined onto
joined_parts p q ps qs = record {
  whole = λ e. rw e;
  last = λ e n. rw (e, n);
  onward = λ e n m d. rw (e, n, d, m, same_self q.name);
  other = λ e n a. rw (e, n, apart p.part q a);
}

pub session_exactly : SessionExactly
unfolding after state due_at up_to joined properties weight parts
session_exactly = record {
  first = λ cs. (refl, refl);
  next = λ n cs. (refl, refl);
  offset = λ e c cs. (refl, refl);
  nothing = λ s. (refl, (refl, refl));
  due = due_exactly;
  joins = joined_parts;
  carried = λ cs s. ((λ h. h), (λ h. h));
  is_due_claim = (refl, λ c cs. refl);
  properties_told = λ c cs. refl;
  no_bytes = refl;
  bytes = λ p ps. refl;
}
