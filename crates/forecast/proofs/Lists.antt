-- Three counts answer as a list with so many deletes, then updates, then additions.
use mathlib.Core.Path.{◌≡◌, refl, ap, ◌∙◌}
use mathlib.Core.Bool.{Bool, true, false, cond}
use mathlib.Core.List.{List, ◌++◌}
use Prim.Native.Nat.{ℕ, ◌+◌, ◌-◌}
use native.Mathlib.Omega.{arith}
use lib.ListN.{length, take, drop, length-append, length-drop}
use lib.Seq.{length-take-le}
use Rattle.journal.specs.declared.operation.Operation.{Operation}
use Rattle.journal.specs.declared.counts.Counts.{Counts}
use Rattle.node_area.specs.State.{total, is_within, remaining_of}
use Rattle.nodes.specs.Run.{cut, run, remains, next_state}
use Rattle.nodes.specs.Claims.Longest.{AllOf}
use Rattle.nodes.proofs.Runs.{longest_one, longest_run}
use Rattle.nodes.proofs.Cut.{code_drop, parts_in, Cut, cut_is, cut_longest}
use Rattle.nodes.proofs.Listed.{drop_append}
use Rattle.calls.specs.Status.{status_word}
use Rattle.forecast.specs.Forecast.{refused, answer_from}
use Rattle.forecast.specs.Claims.Forecast.{AsTheList}
use Rattle.forecast.proofs.Told.{answered}

-- as a status word and a next state
answered_is : (more : Bool) (after : ℕ) → (status_word (answered more after).status ≡ cond more 1 0) × ((answered more after).next ≡ cond more after 0)
answered_is true after = (refl, refl)
answered_is false after = (refl, refl)

module _ (ds us adds : List Operation) (state : ℕ) where
  abbrev os : List Operation
  os = ds ++ (us ++ adds)

  abbrev counts : Counts
  counts = record { deletes = length ds; updates = length us; additions = length adds }

  -- what is behind the state, opcode by opcode, and the run of it
  abbrev ds_left : List Operation
  ds_left = drop state ds

  abbrev us_left : List Operation
  us_left = drop (state - length ds) us

  abbrev adds_left : List Operation
  adds_left = drop (state - length ds - length us) adds

  abbrev handed : Counts
  handed = cut (remaining_of counts state)

  rest : drop state os ≡ ds_left ++ (us_left ++ adds_left)
  rest = drop_append state ds (us ++ adds) ∙ ap (λ (l : List Operation). ds_left ++ l) (drop_append (state - length ds) us adds)

  cut_here : Cut (length ds_left) (length us_left) (length adds_left) handed.deletes handed.updates handed.additions
  cut_here = rw (length-drop state ds, length-drop (state - length ds) us, length-drop (state - length ds - length us) adds) (cut_is (remaining_of counts state))

  all : length os ≡ total counts
  all = simp length-append (omega arith)

  module _ (deletes : AllOf 1 ds) (updates : AllOf 2 us) (additions : AllOf 3 adds) where
    -- the run from the state on is what the arithmetic hands out
    run_parts : run os state ≡ take handed.deletes ds_left ++ (take handed.updates us_left ++ take handed.additions adds_left)
    run_parts =
        longest_one (drop state os) _ _ (longest_run os state)
        (rw rest
        (cut_longest ds_left us_left adds_left (code_drop 1 state ds deletes) (code_drop 2 (state - length ds) us updates) (code_drop 3 (state - length ds - length us) adds additions) handed.deletes handed.updates handed.additions cut_here))

    run_length : length (run os state) ≡ total handed
    run_length =
        let p = parts_in cut_here.inside in
        rw run_parts
        (simp (length-append, length-take-le handed.deletes ds_left p.x_in, length-take-le handed.updates us_left p.y_in, length-take-le handed.additions adds_left p.z_in) (omega arith))

    told_is : answer_from counts state ≡ cond (is_within state (length os)) (answered (remains os state) (state + length (run os state))) refused
    unfolding answer_from remains
    told_is = rw (run_length, all)

pub as_the_list : AsTheList
unfolding next_state
as_the_list ds us adds deletes updates additions state =
    let os = ds ++ (us ++ adds) in
    let is = told_is ds us adds state deletes updates additions in
    record { outside = λ e. rw (is, e) (refl, refl); inside = λ e. rw (is, e) (answered_is (remains os state) (state + length (run os state))) }
