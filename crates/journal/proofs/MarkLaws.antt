-- Laws of marks: what a mark resumes, and where the operation due is sought.
use mathlib.Core.Path.{◌≡◌, refl}
use mathlib.Core.List.{List, [], ◌∷◌}
use Prim.Native.Nat.{ℕ, ◌-◌, ◌≤◌}
use native.Mathlib.Omega.{arith}
use lib.Dec.{leb}
use borrow.Author.Tests.{leb-true}
use Rattle.std.proofs.Common.{Option, Some, reverse, All}
use Rattle.std.specs.List.{find}
use Rattle.std.proofs.lemmas.List.{reverse-append}
use Rattle.std.proofs.lemmas.List.Elements.{All-nil, All-head, All-tail, All-push}
use Rattle.words.proofs.Choice.{choose, decide}
use Rattle.journal.specs.Scope.{Selection}
use Rattle.journal.specs.declared.marks.Mark.{Mark}
use Rattle.journal.specs.declared.marks.Marks.{Marks}
use Rattle.journal.specs.Journal.{IsOpcode}
use Rattle.journal.specs.Reportable.{operation, reports}
use Rattle.journal.specs.Marks.{count, listed, Resumes, Marked}
use Rattle.journal.specs.Inner.Terms.{Before, last_before, place_from, sought}
use Rattle.records.proofs.Choosing.{before_later}
use Rattle.journal.proofs.Entries.{each_entry}

-- what holds of each element holds of each of the list the other way round
all_reverse : {X : Type 0} (P : X → Type 0) (xs : List X) → All P xs → All P (reverse xs)
all_reverse P [] h = All-nil P
all_reverse P (x ∷ xs) h = rw (reverse-append (x ∷ []) xs) (All-push P (reverse xs) x (all_reverse P xs (All-tail P x xs h)) (All-head P x xs h))

-- a place that resumes a list from a number on resumes it from a later one
later : (sel : Selection) (j : List ℕ) (code n k at : ℕ) → Resumes sel j code n at 0 → n ≤ k → Resumes sel j code k at (k - n)
later sel j code n k at r h =
    let before : Before sel j at code n = record { number = omega (arith, r.number); rest = r.same } in
    record {
      inside = r.inside;
      sound = r.sound;
      number = omega (arith, r.number);
      same = before_later (reports sel code) operation each_entry j at n before k h;
    }

-- a mark that a search finds has no more than k operations before it
found_before : (code k : ℕ) (ms : List Mark) (m : Mark) → Some m ≡ find (λ (m : Mark). leb (count code m.counts) k) ms → count code m.counts ≤ k
found_before code k [] m e = cc
found_before code k (x ∷ ms) m e = decide (leb (count code x.counts) k)
    (λ t. let q : Some m ≡ Some x = rw t at e in let s : m ≡ x = cc in rw s (leb-true _ k t))
    (λ t. found_before code k ms m (rw t at e))

pub last_before_few : (code k : ℕ) (ms : List Mark) (m : Mark) → Some m ≡ last_before code k ms → count code m.counts ≤ k
last_before_few code k ms m e = found_before code k (reverse ms) m e

module _ (sel : Selection) (j : List ℕ) (code k : ℕ) where
  -- what a search of the marks finds resumes the list from number k on
  found_resumes : (ms : List Mark) → All (λ (m : Mark). Resumes sel j code (count code m.counts) m.at 0) ms
      → let p = place_from code k (find (λ (m : Mark). leb (count code m.counts) k) ms) in Resumes sel j code k p.at p.skip
  found_resumes [] h = record { inside = omega arith; sound = λ w. w; number = omega arith; same = refl }
  found_resumes (m ∷ ms) h =
      choose (leb (count code m.counts) k) (λ (o : Option Mark). Resumes sel j code k (place_from code k o).at (place_from code k o).skip)
      (λ t. later sel j code _ k _ (All-head (λ (m : Mark). Resumes sel j code (count code m.counts) m.at 0) m ms h) (leb-true _ k t))
      (λ _. found_resumes ms (All-tail (λ (m : Mark). Resumes sel j code (count code m.counts) m.at 0) m ms h))

  -- and so what is sought, for the writer that starts there
  pub sought_resumes : (marks : Marks) → Marked sel j marks → IsOpcode code → Resumes sel j code k (sought code k (listed marks)).at (sought code k (listed marks)).skip
  sought_resumes marks marked o = found_resumes _ (all_reverse (λ (m : Mark). Resumes sel j code (count code m.counts) m.at 0) (listed marks) (marked.each code o))
