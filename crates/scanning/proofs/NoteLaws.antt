-- Laws of marks noted: the marks stay true.
use Rattle.std.proofs.Common.{◌≡◌, ℕ, List, sym, ◌∙◌, arith}
use Rattle.std.proofs.lemmas.List.Elements.{All-nil, All-push, All-same}
use Rattle.journal.specs.Scope.{Selection}
use Rattle.journal.specs.declared.marks.Mark.{Mark}
use Rattle.journal.specs.declared.marks.Marks.{Marks}
use Rattle.journal.specs.Journal.{IsOpcode}
use Rattle.journal.specs.Marks.{count, listed, Resumes, Marked, Noted, unchanged, added}
use Rattle.scanning.specs.Inner.Terms.{Reached}

-- that a mark resumes the list of an opcode
abbrev Resumed : Selection → List ℕ → ℕ → Mark → Type 0
Resumed sel j code m = Resumes sel j code (count code m.counts) m.at 0

-- no marks are true marks: the scan's start
pub marked_none : (sel : Selection) (j : List ℕ) (marks : Marks) → marks.noted ≡ 0 → Marked sel j marks
marked_none sel j marks e = record { few = omega arith; each = λ code o. rw e (All-nil (Resumed sel j code)) }

-- a place that the scan came to resumes the list of each opcode
reached_resumes : (sel : Selection) (j : List ℕ) (p : Mark) (code : ℕ) → Reached sel j p → IsOpcode code → Resumed sel j code p
reached_resumes sel j p code r o = record {
  inside = r.inside;
  sound = λ w. sym r.good ∙ w;
  number = omega (arith, (r.before code o).number);
  same = (r.before code o).rest;
}

-- the marks stay true when such a place is noted: the scan's turn
pub marked_note : (sel : Selection) (j : List ℕ) (marks : Marks) (p : Mark) (after : Marks) → Reached sel j p → Marked sel j marks → Noted marks p after → Marked sel j after
marked_note sel j marks p after reached marked (unchanged e) = rw e marked
marked_note sel j marks p after reached marked (added n few e) = record {
  few = omega arith;
  each = λ code o. All-same (Resumed sel j code) (listed after) _ e (All-push (Resumed sel j code) (listed marks) p (marked.each code o) (reached_resumes sel j p code reached o));
}
