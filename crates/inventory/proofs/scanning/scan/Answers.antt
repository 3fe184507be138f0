use Rattle.std.proofs.Common.{◌≤◌, ◌≡◌, sym, ap, ◌∙◌, arith}
use mathlib.Core.Logic.{⊎_elim}
use borrow.Author.Tests.{eqb-true, eqb-false}
use Rattle.inventory.proofs.Claims.{inventory_claims}
use Rattle.records.proofs.Choosing.{one_if_lem, one_if_le}
use Rattle.inventory.proofs.Entries.{test_number, too_large, from_bad, scanned_start, found_here, found_before, scanned_step, scanned_end}
use Rattle.inventory.proofs.RecordLaws.{stands, none_stands, readable}
use Rattle.inventory.proofs.scanning.scan.Goals as goal

pub returns-then-inventory-gt-SIZE_LIMIT : goal.returns-then-inventory-gt-SIZE_LIMIT
returns-then-inventory-gt-SIZE_LIMIT c =
    record { scan_finds = too_large c.args.inventory.now c.if-inventory-gt-SIZE_LIMIT.true; rules = inventory_claims }

pub loop-at-init : goal.loop-at-init
loop-at-init c =
    scanned_start _ _ _ _

pub returns-in_err-size : goal.returns-in_err-size
returns-in_err-size c =
    let bad = none_stands c.args.inventory.now c.loop-at.at (sym c.in_err-size.ensures) in
    record { scan_finds = rw c.from_residual.ensures (from_bad c.loop-at.invariant.passed c.loop-at-test.true bad); rules = inventory_claims }

pub is_at-requires : goal.is_at-requires
is_at-requires c =
    readable (stands {s = c.args.inventory.now} (sym c.in_ok-size.ensures))

pub overflow_add-count : goal.overflow_add-count
overflow_add-count c =
    let added : c.from-count.result ≡ one_if_lem c.is_at.result = c.from-count.ensures ∙ test_number c.is_at.result in
    let one : c.from-count.result ≤ 1 = rw added (one_if_le c.is_at.result) in
    omega (arith, one, c.loop-at.invariant.few)

pub overflow_add-at : goal.overflow_add-at
overflow_add-at c =
    omega (arith, (stands {s = c.args.inventory.now} (sym c.in_ok-size.ensures)).fits)

pub loop-at-smaller : goal.loop-at-smaller
loop-at-smaller c =
    let standing = stands {s = c.args.inventory.now} (sym c.in_ok-size.ensures) in
    omega (arith, standing.fits, standing.large)

pub loop-at-preserved : goal.loop-at-preserved
loop-at-preserved c =
    let added : c.from-count.result ≡ one_if_lem c.is_at.result = c.from-count.ensures ∙ test_number c.is_at.result in
    let one : c.from-count.result ≤ 1 = rw added (one_if_le c.is_at.result) in
    let scanned = c.loop-at.invariant in
    let next = sym c.is_next.ensures in
    scanned_step scanned _ _ _ c.loop-at-test.true (stands {s = c.args.inventory.now} (sym c.in_ok-size.ensures)) (added ∙ ap one_if_lem c.is_at.ensures)
    (λ a b. ⊎_elim (λ w. rw w.due-is (found_here scanned (eqb-true _ _ (next ∙ w.if-is_next.true)))) (λ w. rw w.due-is (found_before scanned _ (one) (eqb-false _ _ (next ∙ w.if-is_next.false)) a b)) c.if-is_next.branch-raw)

pub returns : goal.returns
returns c =
    record { scan_finds = scanned_end c.loop-at.invariant c.if-inventory-gt-SIZE_LIMIT.false c.loop-at-test.false; rules = inventory_claims }
