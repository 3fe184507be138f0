-- `judging::judge` meets its contract.
use mathlib.Core.Bool.{◌&&◌}
use mathlib.Core.Path.{◌≡◌, sym, ap, ◌∙◌}
use Prim.Native.Nat.{ℕ}
use lib.Dec.{leb}
use lib.ListN.{drop}
use Rattle.records.specs.Records.{kind_of}
use Rattle.records.specs.declared.framing.Frame.{Frame}
use Rattle.journal.specs.Terms.{node_here}
use Rattle.journal.proofs.RecordLaws.{test_read, test_short, test_bad, test_good}
use Rattle.journal.proofs.judging.judge.Goals as goal

pub returns-then-left-lt10 : goal.returns-then-left-lt10
returns-then-left-lt10 c =
    test_short c.args.j.now c.args.at (leb (kind_of (drop c.args.at c.args.j.now)) c.args.most) c.if-left-lt10.true

pub returns-then-not-is_good : goal.returns-then-not-is_good
returns-then-not-is_good c =
    let told : (leb (kind_of (drop c.args.at c.args.j.now)) c.args.most && node_here c.args.j.now c.args.at) ≡ c.is_good.result =
    let frame = c.read_frame-frame.ensures in
    test_read c.args.j.now c.args.at (λ (k : ℕ). leb k c.args.most) _ _ _ (ap (λ (f : Frame). f.length) frame) (ap (λ (f : Frame). f.kind) frame)
    c.read_type-node.ensures ∙ sym c.is_good.ensures in
    test_bad c.args.j.now c.args.at
    (leb (kind_of (drop c.args.at c.args.j.now)) c.args.most) (told ∙ c.if-not-is_good.true)

pub returns : goal.returns
returns c =
    let told : (leb (kind_of (drop c.args.at c.args.j.now)) c.args.most && node_here c.args.j.now c.args.at) ≡ c.is_good.result =
    let frame = c.read_frame-frame.ensures in
    test_read c.args.j.now c.args.at (λ (k : ℕ). leb k c.args.most) _ _ _ (ap (λ (f : Frame). f.length) frame) (ap (λ (f : Frame). f.kind) frame)
    c.read_type-node.ensures ∙ sym c.is_good.ensures in
    test_good c.args.j.now c.args.at (leb (kind_of (drop c.args.at c.args.j.now)) c.args.most) _
    (rw (c.record_size.ensures, c.read_frame-frame.ensures, c.read_type-node.ensures))
    (told ∙ c.if-not-is_good.false)
