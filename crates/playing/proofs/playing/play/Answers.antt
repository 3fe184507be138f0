-- `playing::play` meets its contract.
use mathlib.Core.Bool.{true}
use mathlib.Core.Path.{◌≡◌, sym, ap, ◌∙◌}
use Prim.Native.Nat.{◌≤◌}
use native.Mathlib.Omega.{arith}
use lib.ListN.{length}
use Rattle.records.specs.declared.framing.Frame.{Frame}
use Rattle.records.specs.Records.{length_of, kind_of}
use Rattle.trace.specs.Trace.{good_frame}
use Rattle.playing.specs.Played.{platform_of}
use Rattle.playing.proofs.Plays.{plays_last, plays_bad, plays_call, plays_unanswered, plays_keep, plays_set, plays_other, item_size}
use Rattle.playing.proofs.playing.play.Goals as goal

pub read_frame-frame-requires : goal.read_frame-frame-requires
read_frame-frame-requires c =
    omega (arith, c.requires.four)

pub fault-requires : goal.fault-requires
fault-requires c =
    omega (arith, c.requires.steady.few)

pub returns-then-from-gt4294967294 : goal.returns-then-from-gt4294967294
returns-then-from-gt4294967294 c =
    rw c.fault.ensures (plays_last (platform_of c.args.journal.now c.args.inventory.now c.args.from) c.args.args.now c.args.memory.now c.args.from c.args.item.now c.requires (omega (arith, c.if-from-gt4294967294.true)))

pub fault-requires-then-not-is_good_frame : goal.fault-requires-then-not-is_good_frame
fault-requires-then-not-is_good_frame c =
    omega (arith, c.requires.steady.few)

pub returns-then-not-is_good_frame : goal.returns-then-not-is_good_frame
returns-then-not-is_good_frame c =
    rw c.fault-then-not-is_good_frame.ensures (plays_bad (platform_of c.args.journal.now c.args.inventory.now c.args.from) c.args.args.now c.args.memory.now c.args.from c.args.item.now c.requires (sym (rw c.read_frame-frame.ensures at c.is_good_frame.ensures) ∙ c.if-not-is_good_frame.true))

pub fault-requires-then-frame-ne33 : goal.fault-requires-then-frame-ne33
fault-requires-then-frame-ne33 c =
    omega (arith, c.requires.steady.few)

pub returns-then-frame-ne33 : goal.returns-then-frame-ne33
returns-then-frame-ne33 c =
    let few : c.args.from.records ≤ 0xffff_fffe =
    omega (arith, c.if-from-gt4294967294.false) in
    let good : let item = c.args.item.now in good_frame (length_of item) (kind_of item) ≡ true =
    sym (rw c.read_frame-frame.ensures at c.is_good_frame.ensures) ∙ c.if-not-is_good_frame.false in
    let kind_is : c.read_frame-frame.result.kind ≡ kind_of c.args.item.now =
    ap (λ (f : Frame). f.kind) c.read_frame-frame.ensures in
    rw c.fault-then-frame-ne33.ensures (plays_unanswered (platform_of c.args.journal.now c.args.inventory.now c.args.from) c.args.args.now c.args.memory.now c.args.from c.args.item.now c.requires (few) (good) c.in-Some.size c.in-Some.is (λ e. c.if-frame-ne33.true (kind_is ∙ e)))

pub run_call-requires : goal.run_call-requires
run_call-requires c =
    let few : c.args.from.records ≤ 0xffff_fffe =
    omega (arith, c.if-from-gt4294967294.false) in
    let good : let item = c.args.item.now in good_frame (length_of item) (kind_of item) ≡ true =
    sym (rw c.read_frame-frame.ensures at c.is_good_frame.ensures) ∙ c.if-not-is_good_frame.false in
    let small : length c.args.item.now ≤ 4104 =
    item_size (platform_of c.args.journal.now c.args.inventory.now c.args.from) c.args.args.now c.args.memory.now c.args.from c.args.item.now c.requires (few) (good) in
    (c.requires.steady, c.in-Some.is, few, c.requires.four, small)

pub returns-in-Some : goal.returns-in-Some
returns-in-Some c =
    let few : c.args.from.records ≤ 0xffff_fffe =
    omega (arith, c.if-from-gt4294967294.false) in
    let good : let item = c.args.item.now in good_frame (length_of item) (kind_of item) ≡ true =
    sym (rw c.read_frame-frame.ensures at c.is_good_frame.ensures) ∙ c.if-not-is_good_frame.false in
    let kind_is : c.read_frame-frame.result.kind ≡ kind_of c.args.item.now =
    ap (λ (f : Frame). f.kind) c.read_frame-frame.ensures in
    plays_call (platform_of c.args.journal.now c.args.inventory.now c.args.from) c.args.args.now c.args.memory.now c.args.from c.args.item.now c.requires (few) (good) c.in-Some.size c.in-Some.is _ _ _ (sym (kind_is) ∙ c.if-frame-ne33.false) c.run_call.ensures.value c.run_call.ensures.memory_after c.run_call.ensures.args_after

pub keep-requires : goal.keep-requires
keep-requires c =
    let few : c.args.from.records ≤ 0xffff_fffe =
    omega (arith, c.if-from-gt4294967294.false) in
    let good : let item = c.args.item.now in good_frame (length_of item) (kind_of item) ≡ true =
    sym (rw c.read_frame-frame.ensures at c.is_good_frame.ensures) ∙ c.if-not-is_good_frame.false in
    let small : length c.args.item.now ≤ 4104 =
    item_size (platform_of c.args.journal.now c.args.inventory.now c.args.from) c.args.args.now c.args.memory.now c.args.from c.args.item.now c.requires (few) (good) in
    (few, c.requires.four, omega (arith, small, c.requires.steady.room))

pub returns-then-frame-eq32 : goal.returns-then-frame-eq32
returns-then-frame-eq32 c =
    let few : c.args.from.records ≤ 0xffff_fffe =
    omega (arith, c.if-from-gt4294967294.false) in
    let good : let item = c.args.item.now in good_frame (length_of item) (kind_of item) ≡ true =
    sym (rw c.read_frame-frame.ensures at c.is_good_frame.ensures) ∙ c.if-not-is_good_frame.false in
    let kind_is : c.read_frame-frame.result.kind ≡ kind_of c.args.item.now =
    ap (λ (f : Frame). f.kind) c.read_frame-frame.ensures in
    plays_keep (platform_of c.args.journal.now c.args.inventory.now c.args.from) c.args.args.now c.args.memory.now c.args.from c.args.item.now c.requires (few) (good) c.in_default.is _ _ (sym (kind_is) ∙ c.if-frame-eq32.true) c.keep.ensures.args_after c.keep.ensures.value

pub set_memory-requires : goal.set_memory-requires
set_memory-requires c =
    let few : c.args.from.records ≤ 0xffff_fffe =
    omega (arith, c.if-from-gt4294967294.false) in
    let good : let item = c.args.item.now in good_frame (length_of item) (kind_of item) ≡ true =
    sym (rw c.read_frame-frame.ensures at c.is_good_frame.ensures) ∙ c.if-not-is_good_frame.false in
    let small : length c.args.item.now ≤ 4104 =
    item_size (platform_of c.args.journal.now c.args.inventory.now c.args.from) c.args.args.now c.args.memory.now c.args.from c.args.item.now c.requires (few) (good) in
    (few, c.requires.four, small)

pub returns-then-frame-eq34 : goal.returns-then-frame-eq34
returns-then-frame-eq34 c =
    let few : c.args.from.records ≤ 0xffff_fffe =
    omega (arith, c.if-from-gt4294967294.false) in
    let good : let item = c.args.item.now in good_frame (length_of item) (kind_of item) ≡ true =
    sym (rw c.read_frame-frame.ensures at c.is_good_frame.ensures) ∙ c.if-not-is_good_frame.false in
    let kind_is : c.read_frame-frame.result.kind ≡ kind_of c.args.item.now =
    ap (λ (f : Frame). f.kind) c.read_frame-frame.ensures in
    plays_set (platform_of c.args.journal.now c.args.inventory.now c.args.from) c.args.args.now c.args.memory.now c.args.from c.args.item.now c.requires (few) (good) c.in_default.is _ _ (λ e. c.if-frame-eq32.false (kind_is ∙ e)) (sym (kind_is) ∙ c.if-frame-eq34.true) c.set_memory.ensures.memory_after c.set_memory.ensures.value

pub fault-requires-2 : goal.fault-requires-2
fault-requires-2 c =
    omega (arith, c.requires.steady.few)

pub returns : goal.returns
returns c =
    let few : c.args.from.records ≤ 0xffff_fffe =
    omega (arith, c.if-from-gt4294967294.false) in
    let good : let item = c.args.item.now in good_frame (length_of item) (kind_of item) ≡ true =
    sym (rw c.read_frame-frame.ensures at c.is_good_frame.ensures) ∙ c.if-not-is_good_frame.false in
    let kind_is : c.read_frame-frame.result.kind ≡ kind_of c.args.item.now =
    ap (λ (f : Frame). f.kind) c.read_frame-frame.ensures in
    rw c.fault-2.ensures (plays_other (platform_of c.args.journal.now c.args.inventory.now c.args.from) c.args.args.now c.args.memory.now c.args.from c.args.item.now c.requires (few) (good) c.in_default.is (λ e. c.if-frame-eq32.false (kind_is ∙ e)) (λ e. c.if-frame-eq34.false (kind_is ∙ e)))
