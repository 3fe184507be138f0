-- `sweeping::begin_stretch` meets its contract.
use mathlib.Core.Path.{refl, sym}
use native.Mathlib.Omega.{arith}
use lib.Seq.{length-take-le}
use Rattle.intake.proofs.Completing.{completed_far}
use Rattle.intake.proofs.Covering.{Stored, begins_none, judged_inside, begins_not, begun_known, begun_size, begins}
use Rattle.intake.proofs.sweeping.begin_stretch.Goals as goal

-- without bytes behind the held ones
pub returns-then-held-eq0 : goal.returns-then-held-eq0
returns-then-held-eq0 c =
    begins_none refl refl (completed_far _ _ _ (λ some _ _. some c.if-held-eq0.true)) _ c.nothing.ensures

pub returns-then-held-ge-NODE_LIMIT : goal.returns-then-held-ge-NODE_LIMIT
returns-then-held-ge-NODE_LIMIT c =
    begins_none refl refl (completed_far _ _ _ (λ _ low _. omega (arith, low, c.if-held-ge-NODE_LIMIT.true))) _ c.nothing-then-held-ge-NODE_LIMIT.ensures

pub returns-then-bytes-lt-NODE_LIMIT : goal.returns-then-bytes-lt-NODE_LIMIT
returns-then-bytes-lt-NODE_LIMIT c =
    begins_none refl refl (completed_far _ _ _ (λ _ _ long. omega (arith, long, c.if-bytes-lt-NODE_LIMIT.true))) _ c.nothing-then-bytes-lt-NODE_LIMIT.ensures

pub slice_bounds-judge-end-2 : goal.slice_bounds-judge-end-2
slice_bounds-judge-end-2 c =
    let stored : Stored c.args.store.now c.args.held c.args.bytes.now c.store.new.s =
    record {
      holds = c.requires;
      some = c.if-held-eq0.false;
      low = c.if-held-ge-NODE_LIMIT.false;
      long = c.if-bytes-lt-NODE_LIMIT.false;
      is = c.store.ensures;
    } in
    sym (length-take-le _ _ (judged_inside (stored)))

pub overflow_sub-result : goal.overflow_sub-result
overflow_sub-result c =
    let stored : Stored c.args.store.now c.args.held c.args.bytes.now c.store.new.s =
    record {
      holds = c.requires;
      some = c.if-held-eq0.false;
      low = c.if-held-ge-NODE_LIMIT.false;
      long = c.if-bytes-lt-NODE_LIMIT.false;
      is = c.store.ensures;
    } in
    omega (arith, begun_size (stored) _ _ c.in-Some.is c.judge.ensures)

pub weights_for-requires : goal.weights_for-requires
weights_for-requires c =
    let stored : Stored c.args.store.now c.args.held c.args.bytes.now c.store.new.s =
    record {
      holds = c.requires;
      some = c.if-held-eq0.false;
      low = c.if-held-ge-NODE_LIMIT.false;
      long = c.if-bytes-lt-NODE_LIMIT.false;
      is = c.store.ensures;
    } in
    begun_known (stored) _ _ c.in-Some.is c.judge.ensures

pub returns-in_default : goal.returns-in_default
returns-in_default c =
    let stored : Stored c.args.store.now c.args.held c.args.bytes.now c.store.new.s =
    record {
      holds = c.requires;
      some = c.if-held-eq0.false;
      low = c.if-held-ge-NODE_LIMIT.false;
      long = c.if-bytes-lt-NODE_LIMIT.false;
      is = c.store.ensures;
    } in
    begins_not (stored) _ c.nothing-in_default.ensures

pub returns : goal.returns
returns c =
    let stored : Stored c.args.store.now c.args.held c.args.bytes.now c.store.new.s =
    record {
      holds = c.requires;
      some = c.if-held-eq0.false;
      low = c.if-held-ge-NODE_LIMIT.false;
      long = c.if-bytes-lt-NODE_LIMIT.false;
      is = c.store.ensures;
    } in
    begins (stored) _ _ c.in-Some.is c.judge.ensures _ c.weights_for.ensures
