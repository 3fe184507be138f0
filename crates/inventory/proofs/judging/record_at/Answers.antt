-- `judging::record_at` meets its contract.
use mathlib.Core.Path.{◌≡◌, refl, sym, ap, ◌∙◌}
use mathlib.Core.Bool.{Bool, ◌&&◌, and-false}
use Prim.Native.Nat.{◌+◌, ◌-◌, ◌≤◌}
use native.Mathlib.Omega.{arith}
use lib.ListN.{length, take, drop}
use Rattle.records.specs.Records.{size_of}
use Rattle.records.specs.declared.framing.Frame.{Frame}
use Rattle.inventory.specs.Inventory.{code_limit, head_size, all_non_zero}
use Rattle.inventory.proofs.RecordLaws.{good_here, framed_bounds, good_read, short_bad}
use Rattle.inventory.proofs.judging.record_at.Goals as goal

pub returns-then-left-lt-LEAST_SIZE : goal.returns-then-left-lt-LEAST_SIZE
returns-then-left-lt-LEAST_SIZE c =
    rw (short_bad c.args.s.now c.args.at c.if-left-lt-LEAST_SIZE.true)

pub returns-then-not-is_framed : goal.returns-then-not-is_framed
returns-then-not-is_framed c =
    let size_is : c.record_size-size.result ≡ size_of (drop c.args.at c.args.s.now) =
    c.record_size-size.ensures ∙ ap (λ (f : Frame). f.length + 2) c.read_frame-frame.ensures in
    let judged : (code : Bool) → code ≡ all_non_zero (take (c.args.at + c.record_size-size.result - (c.args.at + head_size)) (drop (c.args.at + head_size) c.args.s.now)) → good_here c.args.s.now c.args.at ≡ (c.is_framed.result && code) =
    λ code z. good_read c.args.s.now c.args.at _ _ _ _ code (size_is) (ap (λ (f : Frame). f.kind) c.read_frame-frame.ensures) c.read_le16.ensures c.is_framed.ensures z in
    rw (judged _ refl, c.if-not-is_framed.true)

pub overflow_add-at-2 : goal.overflow_add-at-2
overflow_add-at-2 c =
    let fits : (head_size + 1 ≤ c.record_size-size.result) × (c.record_size-size.result ≤ head_size + code_limit) × (c.record_size-size.result ≤ length c.args.s.now - c.args.at) =
    framed_bounds _ _ c.read_frame-frame.result.kind c.read_le16.result (sym c.is_framed.ensures ∙ c.if-not-is_framed.false) in
    omega (arith, fits)

pub overflow_add-at-3 : goal.overflow_add-at-3
overflow_add-at-3 c =
    let fits : (head_size + 1 ≤ c.record_size-size.result) × (c.record_size-size.result ≤ head_size + code_limit) × (c.record_size-size.result ≤ length c.args.s.now - c.args.at) =
    framed_bounds _ _ c.read_frame-frame.result.kind c.read_le16.result (sym c.is_framed.ensures ∙ c.if-not-is_framed.false) in
    omega (arith, fits)

pub is_code-requires : goal.is_code-requires
is_code-requires c =
    let fits : (head_size + 1 ≤ c.record_size-size.result) × (c.record_size-size.result ≤ head_size + code_limit) × (c.record_size-size.result ≤ length c.args.s.now - c.args.at) =
    framed_bounds _ _ c.read_frame-frame.result.kind c.read_le16.result (sym c.is_framed.ensures ∙ c.if-not-is_framed.false) in
    omega (arith, fits)

pub returns-then-not-is_code : goal.returns-then-not-is_code
returns-then-not-is_code c =
    let size_is : c.record_size-size.result ≡ size_of (drop c.args.at c.args.s.now) =
    c.record_size-size.ensures ∙ ap (λ (f : Frame). f.length + 2) c.read_frame-frame.ensures in
    let judged : (code : Bool) → code ≡ all_non_zero (take (c.args.at + c.record_size-size.result - (c.args.at + head_size)) (drop (c.args.at + head_size) c.args.s.now)) → good_here c.args.s.now c.args.at ≡ (c.is_framed.result && code) =
    λ code z. good_read c.args.s.now c.args.at _ _ _ _ code (size_is) (ap (λ (f : Frame). f.kind) c.read_frame-frame.ensures) c.read_le16.ensures c.is_framed.ensures z in
    rw (judged _ c.is_code.ensures, c.if-not-is_code.true, and-false)

pub returns : goal.returns
returns c =
    let size_is : c.record_size-size.result ≡ size_of (drop c.args.at c.args.s.now) =
    c.record_size-size.ensures ∙ ap (λ (f : Frame). f.length + 2) c.read_frame-frame.ensures in
    let judged : (code : Bool) → code ≡ all_non_zero (take (c.args.at + c.record_size-size.result - (c.args.at + head_size)) (drop (c.args.at + head_size) c.args.s.now)) → good_here c.args.s.now c.args.at ≡ (c.is_framed.result && code) =
    λ code z. good_read c.args.s.now c.args.at _ _ _ _ code (size_is) (ap (λ (f : Frame). f.kind) c.read_frame-frame.ensures) c.read_le16.ensures c.is_framed.ensures z in
    let good = judged _ c.is_code.ensures in
    rw (good, c.if-not-is_framed.false, c.if-not-is_code.false, size_is)
