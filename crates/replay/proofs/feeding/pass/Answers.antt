use mathlib.Core.Path.{◌≡◌, sym, ◌∙◌}
use mathlib.Core.Bool.{false}
use mathlib.Core.Logic.{⊎_elim}
use borrow.Author.Tests.{not-true, not-false, ltb-true}
use native.Mathlib.Omega.{arith}
use Rattle.words.proofs.Choice.{and_right}
use Rattle.records.proofs.Behind.{Ripe, ripe_is}
use Rattle.trace.specs.Trace.{good_frame}
use Rattle.trace.specs.Playing.{is_over}
use Rattle.counting.proofs.Growing.{within_later}
use Rattle.std.specs.Prelude.{is_some}
use lib.Dec.{ltb}
use Rattle.playing.proofs.Parts.{within_is}
use Rattle.replay.specs.Inner.Terms.{counted_by}
use Rattle.replay.proofs.Standings.{part_playable, pass_starts, pass_over, pass_held, pass_on}
use Rattle.replay.proofs.feeding.pass.Goals as goal

pub loop-playing-init : goal.loop-playing-init
loop-playing-init c =
    pass_starts _ _ _ _ _ c.requires

pub shape_of-args-then-not-is_going : goal.shape_of-args-then-not-is_going
shape_of-args-then-not-is_going c =
    c.loop-playing.invariant.args_long

pub shape_of-memory-then-not-is_going : goal.shape_of-memory-then-not-is_going
shape_of-memory-then-not-is_going c =
    c.loop-playing.invariant.memory_long

pub returns-then-not-is_going : goal.returns-then-not-is_going
returns-then-not-is_going c =
    pass_over c.loop-playing.invariant (not-false _ (sym c.is_going.ensures ∙ c.if-not-is_going.true))

pub ripe_at-n-requires : goal.ripe_at-n-requires
ripe_at-n-requires c =
    c.loop-playing.invariant.place

pub shape_of-args-then-n-eq0 : goal.shape_of-args-then-n-eq0
shape_of-args-then-n-eq0 c =
    c.loop-playing.invariant.args_long

pub shape_of-memory-then-n-eq0 : goal.shape_of-memory-then-n-eq0
shape_of-memory-then-n-eq0 c =
    c.loop-playing.invariant.memory_long

pub returns-then-n-eq0 : goal.returns-then-n-eq0
returns-then-n-eq0 c =
    let goes : is_over c.loop-playing.playing.report ≡ false =
    not-true _ (sym c.is_going.ensures ∙ c.if-not-is_going.false) in
    pass_held c.loop-playing.invariant (goes) _ c.ripe_at-n.ensures c.if-n-eq0.true

pub overflow_add-at : goal.overflow_add-at
overflow_add-at c =
    let ripe : Ripe good_frame c.args.bytes.now c.loop-playing.at c.ripe_at-n.result =
    ripe_is good_frame _ _ _ c.loop-playing.invariant.place c.ripe_at-n.ensures c.if-n-eq0.false in
    omega (arith, ripe.fits)

pub slice_bounds-play-count : goal.slice_bounds-play-count
slice_bounds-play-count c =
    omega arith

pub slice_bounds-play-end : goal.slice_bounds-play-end
slice_bounds-play-end c =
    let ripe : Ripe good_frame c.args.bytes.now c.loop-playing.at c.ripe_at-n.result =
    ripe_is good_frame _ _ _ c.loop-playing.invariant.place c.ripe_at-n.ensures c.if-n-eq0.false in
    omega (arith, ripe.fits)

pub play-playing-requires : goal.play-playing-requires
play-playing-requires c =
    let ripe : Ripe good_frame c.args.bytes.now c.loop-playing.at c.ripe_at-n.result =
    ripe_is good_frame _ _ _ c.loop-playing.invariant.place c.ripe_at-n.ensures c.if-n-eq0.false in
    let goes : is_over c.loop-playing.playing.report ≡ false =
    not-true _ (sym c.is_going.ensures ∙ c.if-not-is_going.false) in
    part_playable _ _ _ (ripe) _ _ c.loop-playing.invariant.steady (goes)

-- a call was made, so that one record more was taken
pub count_front-counts-requires : goal.count_front-counts-requires
count_front-counts-requires c =
    let now = c.loop-playing.invariant in
    let made = sym (rw c.is_some.ensures at c.is_call.ensures) ∙ c.if-is_call.true in
    let more = ltb-true c.loop-playing.playing.records c.play-playing.result.records (and_right (is_some c.loop-playing.playing.waiting) _ made) in
    (within_later _ _ now.counted 0xffff_fffe (omega (arith, more, c.play-playing.ensures.steady.few)), rw c.unwrap_or.ensures (omega (arith, within_is _ now.steady.inside, c.play-playing.ensures.steady.room)))

pub loop-playing-smaller : goal.loop-playing-smaller
loop-playing-smaller c =
    let ripe : Ripe good_frame c.args.bytes.now c.loop-playing.at c.ripe_at-n.result =
    ripe_is good_frame _ _ _ c.loop-playing.invariant.place c.ripe_at-n.ensures c.if-n-eq0.false in
    omega (arith, ripe.fits, ripe.some)

pub loop-playing-preserved : goal.loop-playing-preserved
loop-playing-preserved c =
    let ripe : Ripe good_frame c.args.bytes.now c.loop-playing.at c.ripe_at-n.result =
    ripe_is good_frame _ _ _ c.loop-playing.invariant.place c.ripe_at-n.ensures c.if-n-eq0.false in
    let called = rw c.is_some.ensures at c.is_call.ensures in
    let counts_by : c.if-is_call.counts ≡ counted_by c.loop-playing.counts c.loop-playing.playing.waiting (ltb c.loop-playing.playing.records c.play-playing.result.records) c.play-playing.new.args c.play-playing.new.memory =
    ⊎_elim (λ w. w.counts-is ∙ rw (sym called ∙ w.if-is_call.true) (rw w.unwrap_or.ensures at w.count_front-counts.ensures)) (λ w. w.counts-is ∙ rw (sym called ∙ w.if-is_call.false)) c.if-is_call.branch-raw in
    pass_on c.loop-playing.invariant (ripe) _ _ _ _ c.play-playing.auto.args c.play-playing.auto.memory c.play-playing.ensures counts_by
