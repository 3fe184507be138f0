-- `bursts::finish` meets its contract.
use mathlib.Core.Path.{refl, sym, ap, ◌∙◌}
use mathlib.Core.Bool.{not}
use native.Mathlib.Omega.{arith}
use lib.Seq.{length-take-le}
use Rattle.records.proofs.Behind.{not_ripe, is_ripe}
use Rattle.records.proofs.Holding.{Gathered}
use Rattle.intake.specs.Taking.{good_front}
use Rattle.intake.proofs.Fronts.{due_most}
use Rattle.intake.proofs.Standings.{gathers, finish_none, finish_inside, finish_done}
use Rattle.intake.proofs.bursts.finish.Goals as goal

pub returns-then-had-eq0 : goal.returns-then-had-eq0
returns-then-had-eq0 c =
    finish_none c.requires _ c.if-had-eq0.true

pub gather-at-requires : goal.gather-at-requires
gather-at-requires c =
    (c.requires.inside, λ r. omega (arith, due_most r, c.requires.room))

pub slice_bounds-ripe_at-end : goal.slice_bounds-ripe_at-end
slice_bounds-ripe_at-end c =
    let gathered : Gathered good_front c.args.store.now c.args.from.held c.args.bytes.now c.gather-at.new.buffer c.gather-at.result =
    gathers c.requires _ _ _ c.if-had-eq0.false c.gather-at.auto.buffer c.gather-at.ensures in
    gathered.inside

pub slice_bounds-ripe_at-end-2 : goal.slice_bounds-ripe_at-end-2
slice_bounds-ripe_at-end-2 c =
    let gathered : Gathered good_front c.args.store.now c.args.from.held c.args.bytes.now c.gather-at.new.buffer c.gather-at.result =
    gathers c.requires _ _ _ c.if-had-eq0.false c.gather-at.auto.buffer c.gather-at.ensures in
    sym (length-take-le _ _ gathered.inside)

pub returns-then-is_none : goal.returns-then-is_none
returns-then-is_none c =
    let gathered : Gathered good_front c.args.store.now c.args.from.held c.args.bytes.now c.gather-at.new.buffer c.gather-at.result =
    gathers c.requires _ _ _ c.if-had-eq0.false c.gather-at.auto.buffer c.gather-at.ensures in
    finish_inside c.requires _ (gathered) _ (not_ripe good_front _ _ c.ripe_at.ensures (c.is_none.ensures ∙ ap not c.if-is_none.true)) refl

pub slice_bounds-take-end : goal.slice_bounds-take-end
slice_bounds-take-end c =
    let gathered : Gathered good_front c.args.store.now c.args.from.held c.args.bytes.now c.gather-at.new.buffer c.gather-at.result =
    gathers c.requires _ _ _ c.if-had-eq0.false c.gather-at.auto.buffer c.gather-at.ensures in
    gathered.inside

pub slice_bounds-take-end-2 : goal.slice_bounds-take-end-2
slice_bounds-take-end-2 c =
    let gathered : Gathered good_front c.args.store.now c.args.from.held c.args.bytes.now c.gather-at.new.buffer c.gather-at.result =
    gathers c.requires _ _ _ c.if-had-eq0.false c.gather-at.auto.buffer c.gather-at.ensures in
    sym (length-take-le _ _ gathered.inside)

pub returns : goal.returns
returns c =
    let gathered : Gathered good_front c.args.store.now c.args.from.held c.args.bytes.now c.gather-at.new.buffer c.gather-at.result =
    gathers c.requires _ _ _ c.if-had-eq0.false c.gather-at.auto.buffer c.gather-at.ensures in
    let ripe = is_ripe good_front _ _ c.ripe_at.ensures (c.is_none.ensures ∙ ap not c.if-is_none.false) in
    finish_done c.requires _ (gathered) _ ripe.0 ripe.1 _ _ c.take-next.ensures
