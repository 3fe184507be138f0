-- `judging::judge` meets its contract.
use mathlib.Core.Path.{sym, ◌∙◌}
use Rattle.std.proofs.lemmas.Result.{err_from_is_err_and}
use Rattle.month_table.proofs.Whole.{head_wrong}
use Rattle.month_table.proofs.Parts.{rest_part}
use Rattle.month_reading.proofs.Searches.{begins_is}
use Rattle.month_reading.proofs.Turns.{head_length, judges_rows, judges_sessions, judges_table}
use Rattle.month_reading.proofs.judging.judge.Goals as goal

pub returns-then-not-starts_with : goal.returns-then-not-starts_with
returns-then-not-starts_with c =
    head_wrong _ (sym (c.starts_with.ensures.value ∙ begins_is _ _) ∙ c.if-not-starts_with.true)

pub read_rows-requires : goal.read_rows-requires
read_rows-requires c =
    head_length _ (sym (c.starts_with.ensures.value ∙ begins_is _ _) ∙ c.if-not-starts_with.false)

pub returns-in_err-rows : goal.returns-in_err-rows
returns-in_err-rows c =
    let p = err_from_is_err_and c.from_residual.result c.from_residual.ensures.1 in
    rw (p.1, p.2) (judges_rows _ (sym (c.starts_with.ensures.value ∙ begins_is _ _) ∙ c.if-not-starts_with.false) _ c.in_err-rows.ensures)

pub slice_bounds-read_sessions-start : goal.slice_bounds-read_sessions-start
slice_bounds-read_sessions-start c =
    c.in_ok-rows.ensures.inside

pub returns-in_err-sessions : goal.returns-in_err-sessions
returns-in_err-sessions c =
    let p = err_from_is_err_and c.from_residual-in_err-sessions.result c.from_residual-in_err-sessions.ensures.1 in
    rw (p.1, p.2) (judges_sessions _ (sym (c.starts_with.ensures.value ∙ begins_is _ _) ∙ c.if-not-starts_with.false) c.in_ok-rows.ensures _ (rw (rest_part c.in_ok-rows.rows.at c.args.text.now) at c.in_err-sessions.ensures))

pub returns : goal.returns
returns c =
    judges_table _ (sym (c.starts_with.ensures.value ∙ begins_is _ _) ∙ c.if-not-starts_with.false) c.in_ok-rows.ensures _ (rw (rest_part c.in_ok-rows.rows.at c.args.text.now) at c.in_ok-sessions.ensures)
