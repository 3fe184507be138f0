-- `reading::read_table` meets its contract.
use mathlib.Core.Path.{ap, ◌∙◌}
use native.Mathlib.Omega.{arith}
use lib.ListN.{length, length-drop}
use lib.Seq.{length-sets}
use Rattle.month_table.proofs.Parts.{rest_part}
use Rattle.month_reading.proofs.ReadAnswers.{wrong_answer, wrong_buffer, little_answer, little_buffer, read_answer, read_buffer}
use Rattle.month_reading.proofs.Answered.{answer_claims}
use Rattle.month_reading.proofs.reading.read_table.Goals as goal

pub returns-in-Err : goal.returns-in-Err
returns-in-Err c =
    record {
      value = c.no_table.ensures ∙ wrong_answer _ _ c.in-Err.ensures _;
      digests_after = wrong_buffer _ _ c.in-Err.ensures _;
      claims = answer_claims;
    }

pub returns-then-digests-sessions : goal.returns-then-digests-sessions
returns-then-digests-sessions c =
    record {
      value = c.no_table-then-digests-sessions.ensures ∙ little_answer c.in-Ok.ensures _ c.if-digests-sessions.true;
      digests_after = little_buffer c.in-Ok.ensures _ c.if-digests-sessions.true;
      claims = answer_claims;
    }

pub store_digests-requires : goal.store_digests-requires
store_digests-requires c =
    let rest = rest_part c.in-Ok.judged.rows.at c.args.text.now in
    (rw (rest, length-drop) (omega (arith, c.in-Ok.ensures.inside)), omega (arith, c.if-digests-sessions.false))

pub shape_of-digests : goal.shape_of-digests
shape_of-digests c =
    ap length c.store_digests.ensures ∙ simp length-sets

pub returns : goal.returns
returns c =
    record {
      value = read_answer c.in-Ok.ensures _ c.if-digests-sessions.false;
      digests_after =
          (rw (rest_part c.in-Ok.judged.rows.at c.args.text.now) at c.store_digests.ensures) ∙ read_buffer c.in-Ok.ensures _ c.if-digests-sessions.false;
      claims = answer_claims;
    }
