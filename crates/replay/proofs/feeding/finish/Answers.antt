-- `feeding::finish` meets its contract.
use mathlib.Core.Path.{refl, sym, ◌∙◌}
use native.Mathlib.Omega.{arith}
use borrow.Author.Tests.{ltb-true}
use lib.Seq.{length-take-le}
use Rattle.words.proofs.Choice.{and_right}
use Rattle.records.proofs.Holding.{Gathered}
use Rattle.trace.specs.Trace.{good_frame}
use Rattle.counting.proofs.Growing.{within_later}
use Rattle.std.specs.Prelude.{is_some}
use Rattle.playing.proofs.Parts.{within_is}
use Rattle.replay.proofs.Standings.{gathers, gathered_playable, finish_none, finish_inside, finish_done}
use Rattle.replay.proofs.feeding.finish.Goals as goal

pub returns-then-had-eq0 : goal.returns-then-had-eq0
returns-then-had-eq0 c =
    finish_none c.requires _ _ _ c.if-had-eq0.true

pub slice_bounds-ripe_at-end : goal.slice_bounds-ripe_at-end
slice_bounds-ripe_at-end c =
    let gathered : Gathered good_frame c.args.held.now c.args.from.held c.args.bytes.now c.gather-at.new.buffer c.gather-at.result =
    gathers c.requires _ _ _ c.if-had-eq0.false c.gather-at.auto.buffer c.gather-at.ensures in
    gathered.inside

pub slice_bounds-ripe_at-end-2 : goal.slice_bounds-ripe_at-end-2
slice_bounds-ripe_at-end-2 c =
    let gathered : Gathered good_frame c.args.held.now c.args.from.held c.args.bytes.now c.gather-at.new.buffer c.gather-at.result =
    gathers c.requires _ _ _ c.if-had-eq0.false c.gather-at.auto.buffer c.gather-at.ensures in
    sym (length-take-le _ _ gathered.inside)

pub returns-then-ripe_at-eq0 : goal.returns-then-ripe_at-eq0
returns-then-ripe_at-eq0 c =
    let gathered : Gathered good_frame c.args.held.now c.args.from.held c.args.bytes.now c.gather-at.new.buffer c.gather-at.result =
    gathers c.requires _ _ _ c.if-had-eq0.false c.gather-at.auto.buffer c.gather-at.ensures in
    finish_inside c.requires _ _ _ (gathered) _ c.ripe_at.ensures c.if-ripe_at-eq0.true

pub slice_bounds-play-end : goal.slice_bounds-play-end
slice_bounds-play-end c =
    let gathered : Gathered good_frame c.args.held.now c.args.from.held c.args.bytes.now c.gather-at.new.buffer c.gather-at.result =
    gathers c.requires _ _ _ c.if-had-eq0.false c.gather-at.auto.buffer c.gather-at.ensures in
    gathered.inside

pub slice_bounds-play-end-2 : goal.slice_bounds-play-end-2
slice_bounds-play-end-2 c =
    let gathered : Gathered good_frame c.args.held.now c.args.from.held c.args.bytes.now c.gather-at.new.buffer c.gather-at.result =
    gathers c.requires _ _ _ c.if-had-eq0.false c.gather-at.auto.buffer c.gather-at.ensures in
    sym (length-take-le _ _ gathered.inside)

pub play-next-requires : goal.play-next-requires
play-next-requires c =
    let gathered : Gathered good_frame c.args.held.now c.args.from.held c.args.bytes.now c.gather-at.new.buffer c.gather-at.result =
    gathers c.requires _ _ _ c.if-had-eq0.false c.gather-at.auto.buffer c.gather-at.ensures in
    gathered_playable c.requires (gathered) _ c.ripe_at.ensures c.if-ripe_at-eq0.false

-- a call was made, so that one record more was taken
pub count_front-counts-requires : goal.count_front-counts-requires
count_front-counts-requires c =
    let made = sym (rw c.is_some.ensures at c.is_call.ensures) ∙ c.if-is_call.true in
    let more = ltb-true c.args.from.playing.records c.play-next.result.records (and_right (is_some c.args.from.playing.waiting) _ made) in
    (within_later _ _ c.requires.counted 0xffff_fffe (omega (arith, more, c.play-next.ensures.steady.few)), rw c.unwrap_or.ensures (omega (arith, within_is _ c.requires.steady.inside, c.play-next.ensures.steady.room)))

pub returns-then-is_call : goal.returns-then-is_call
returns-then-is_call c =
    let gathered : Gathered good_frame c.args.held.now c.args.from.held c.args.bytes.now c.gather-at.new.buffer c.gather-at.result =
    gathers c.requires _ _ _ c.if-had-eq0.false c.gather-at.auto.buffer c.gather-at.ensures in
    let made = sym (rw c.is_some.ensures at c.is_call.ensures) ∙ c.if-is_call.true in
    finish_done c.requires _ _ _ (gathered) _ c.ripe_at.ensures c.if-ripe_at-eq0.false _ _ _ _ c.play-next.ensures (rw made (rw c.unwrap_or.ensures at c.count_front-counts.ensures))

pub returns-else-is_call : goal.returns-else-is_call
returns-else-is_call c =
    let gathered : Gathered good_frame c.args.held.now c.args.from.held c.args.bytes.now c.gather-at.new.buffer c.gather-at.result =
    gathers c.requires _ _ _ c.if-had-eq0.false c.gather-at.auto.buffer c.gather-at.ensures in
    let not = sym (rw c.is_some.ensures at c.is_call.ensures) ∙ c.if-is_call.false in
    finish_done c.requires _ _ _ (gathered) _ c.ripe_at.ensures c.if-ripe_at-eq0.false _ _ _ _ c.play-next.ensures (rw not refl)
