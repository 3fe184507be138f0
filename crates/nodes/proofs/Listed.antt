-- What a reportable list is, opcode by opcode, and the run of a call from the three counts and the state.
use mathlib.Core.Path.{◌≡◌, ap, ◌∙◌, sym}
use mathlib.Core.Bool.{Bool, true, cond}
use mathlib.Core.List.{List, [], ◌∷◌, ◌++◌}
use Prim.Native.Nat.{ℕ, zero, suc, ◌+◌, ◌*◌, ◌-◌, ◌≤◌}
use native.Mathlib.Omega.{arith}
use native.Mathlib.Nat.{sub-zero, zero-sub, suc-sub-suc}
use lib.Dec.{leb, ltb, eqb}
use borrow.Author.Tests.{eqb-true}
use lib.ListN.{length, take, drop, length-append, length-drop}
use lib.Seq.{drop-nil, length-take-le}
use Rattle.journal.specs.Scope.{Selection}
use Rattle.records.specs.Choosing.{chosen_by}
use Rattle.journal.specs.declared.operation.Operation.{Operation}
use Rattle.journal.specs.declared.counts.Counts.{Counts}
use Rattle.journal.specs.Journal.{Entry, opcode, entries}
use Rattle.journal.specs.Reportable.{asks, reports, chosen, reportable, counts_of}
use Rattle.words.proofs.Choice.{choose, and_left, and_right}
use Rattle.nodes.specs.Run.{area_words, run, remains, next_state, part_words, cut}
use Rattle.nodes.specs.Claims.Longest.{AllOf}
use Rattle.node_area.specs.State.{total, remaining_of}
use Rattle.nodes.specs.Area.{part, body}
use Rattle.nodes.specs.Inner.Terms.{words_of}
use Rattle.nodes.proofs.Runs.{longest_one, longest_run, run_facts}
use Rattle.nodes.proofs.Cut.{code_take, code_drop, body_split, Parts, parts_in, Cut, cut_is, cut_longest}

-- an entry that is reported under an opcode is an operation of it
pub report_code : (selection : Selection) (code : ℕ) (e : Entry) → reports selection code e ≡ true → opcode e.operation ≡ code
unfolding reports
report_code selection code e h = eqb-true _ _ (and_left (eqb (opcode e.operation) code) _ (and_left _ (asks selection.units e) (and_right (leb 1 e.node) _ h)))

pub chosen_code : (selection : Selection) (code : ℕ) (es : List Entry) → AllOf code (chosen selection code es)
unfolding chosen_by
chosen_code selection code [] = tt
chosen_code selection code (e ∷ es) =
    choose (reports selection code e) (AllOf code) {x = e.operation ∷ chosen selection code es} {y = chosen selection code es}
    (λ h. (report_code selection code e h, chosen_code selection code es))
    (λ _. chosen_code selection code es)

pub drop_append : (n : ℕ) (xs ys : List Operation) → drop n (xs ++ ys) ≡ drop n xs ++ drop (n - length xs) ys
drop_append n [] ys = rw (drop-nil n, sub-zero n)
drop_append zero (x ∷ xs) ys = rw (zero-sub (suc (length xs)))
drop_append (suc n) (x ∷ xs) ys = rw suc-sub-suc (drop_append n xs ys)

pub total-is : (selection : Selection) (j : List ℕ) → total (counts_of selection j) ≡ length (reportable selection j)
unfolding reportable
total-is selection j = simp length-append (omega arith)

-- ---- what is left of an opcode

-- the operations of an opcode that a selection reports, after the first `skip`
abbrev pub later : Selection → List ℕ → ℕ → ℕ → List Operation
later selection j code skip = drop skip (chosen selection code (entries j))

module _ (selection : Selection) (j : List ℕ) (code skip : ℕ) where
  pub later_code : AllOf code (later selection j code skip)
  later_code = code_drop code skip (chosen selection code (entries j)) (chosen_code selection code (entries j))

  later_length : (n : ℕ) → n ≡ length (chosen selection code (entries j)) → length (later selection j code skip) ≡ n - skip
  later_length n e = length-drop skip (chosen selection code (entries j)) ∙ rw (← e)

  pub first_code : (n : ℕ) → AllOf code (take n (later selection j code skip))
  first_code n = code_take code n (later selection j code skip) later_code

-- ---- the run of a call

module _ (selection : Selection) (j : List ℕ) (c : Counts) (k : ℕ) (counted : c ≡ counts_of selection j) (inside : k ≤ total c) (r : Counts) (fitting : r ≡ cut (remaining_of c k)) where
  abbrev ds : List Operation
  ds = later selection j 1 k

  abbrev us : List Operation
  us = later selection j 2 (k - c.deletes)

  abbrev adds : List Operation
  adds = later selection j 3 (k - c.deletes - c.updates)

  deletes_are : c.deletes ≡ length (chosen selection 1 (entries j))
  deletes_are = ap (λ (x : Counts). x.deletes) counted

  updates_are : c.updates ≡ length (chosen selection 2 (entries j))
  updates_are = ap (λ (x : Counts). x.updates) counted

  additions_are : c.additions ≡ length (chosen selection 3 (entries j))
  additions_are = ap (λ (x : Counts). x.additions) counted

  rest : drop k (reportable selection j) ≡ ds ++ (us ++ adds)
  unfolding reportable
  rest =
      drop_append k (chosen selection 1 (entries j)) (chosen selection 2 (entries j) ++ chosen selection 3 (entries j))
      ∙ rw (← deletes_are, drop_append (k - c.deletes) (chosen selection 2 (entries j)) (chosen selection 3 (entries j)), ← updates_are)

  cut_here : Cut (length ds) (length us) (length adds) r.deletes r.updates r.additions
  cut_here =
      rw (
        later_length selection j 1 k c.deletes deletes_are,
        later_length selection j 2 (k - c.deletes) c.updates updates_are,
        later_length selection j 3 (k - c.deletes - c.updates) c.additions additions_are,
        fitting,
      )
      (cut_is (remaining_of c k))

  -- the run takes no more of an opcode than are left
  pub parts : Parts (length ds) (length us) (length adds) r.deletes r.updates r.additions
  parts = parts_in cut_here.inside

  pub run_parts : run (reportable selection j) k ≡ take r.deletes ds ++ (take r.updates us ++ take r.additions adds)
  run_parts =
      longest_one (drop k (reportable selection j)) _ _ (longest_run (reportable selection j) k)
      (rw rest
      (cut_longest ds us adds (later_code selection j 1 k) (later_code selection j 2 (k - c.deletes)) (later_code selection j 3 (k - c.deletes - c.updates)) r.deletes r.updates r.additions cut_here))

  pub run_length : length (run (reportable selection j) k) ≡ total r
  run_length =
      rw run_parts
      (simp (length-append, length-take-le r.deletes ds parts.x_in, length-take-le r.updates us parts.y_in, length-take-le r.additions adds parts.z_in) (omega arith))

  all : length (reportable selection j) ≡ total c
  all = sym (total-is selection j) ∙ ap total (sym counted)

  -- whether operations remain and the next state, from the number of operations reported by then
  pub remains_is : (after : ℕ) → after ≡ k + total r → ltb after (total c) ≡ remains (reportable selection j) k
  unfolding remains
  remains_is after e = rw (e, run_length, all)

  pub next-is : (after next : ℕ) (more : Bool) → after ≡ k + total r → more ≡ ltb after (total c) → next ≡ cond more after 0 → next ≡ next_state (reportable selection j) k
  unfolding next_state
  next-is after next more e m f = f ∙ rw (m, remains_is after e, e, run_length)

  pub fits : part_words r.deletes + part_words r.updates + part_words (2 * r.additions) ≤ area_words
  fits = cut_here.fits

  pub few : k + total r ≤ total c
  few = rw (← run_length, ← all) (run_facts (reportable selection j) k (rw all inside)).within

  code_ds : AllOf 1 (take r.deletes ds)
  code_ds = first_code selection j 1 k r.deletes

  code_us : AllOf 2 (take r.updates us)
  code_us = first_code selection j 2 (k - c.deletes) r.updates

  code_adds : AllOf 3 (take r.additions adds)
  code_adds = first_code selection j 3 (k - c.deletes - c.updates) r.additions

  pub body_is : body (run (reportable selection j) k)
      ≡ part 1 (words_of (take r.deletes ds)) ++ (part 2 (words_of (take r.updates us)) ++ part 3 (words_of (take r.additions adds)))
  body_is =
      rw run_parts
      (body_split (take r.deletes ds) (take r.updates us) (take r.additions adds) code_ds code_us code_adds)
