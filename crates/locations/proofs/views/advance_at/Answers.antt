-- `views::advance_at` meets its contract.
use mathlib.Core.Path.{sym, ◌∙◌}
use native.Mathlib.Omega.{arith}
use Rattle.locations.proofs.Stepping.{advance_short, advance_end, advance_set}
use Rattle.locations.proofs.ViewClaims.{view_claims}
use Rattle.locations.proofs.views.advance_at.Goals as goal

pub returns-then-area-lt4 : goal.returns-then-area-lt4
returns-then-area-lt4 c =
    record { value = advance_short _ _ c.if-area-lt4.true; claims = view_claims }

pub returns-then-cursor-eq0 : goal.returns-then-cursor-eq0
returns-then-cursor-eq0 c =
    record { value = advance_end _ _ c.if-area-lt4.false c.if-cursor-eq0.true; claims = view_claims }

pub pass_set-requires : goal.pass_set-requires
pass_set-requires c =
    (sym c.fault_at.ensures ∙ c.in-Ok.is, omega (arith, c.if-cursor-eq0.false))

pub returns-in-Err : goal.returns-in-Err
returns-in-Err c =
    record { value = advance_set _ _ c.if-area-lt4.false _ c.if-cursor-eq0.false (sym c.in-Err.is ∙ c.fault_at.ensures); claims = view_claims }

pub returns-in-Ok : goal.returns-in-Ok
returns-in-Ok c =
    record { value = c.pass_set.ensures ∙ advance_set _ _ c.if-area-lt4.false _ c.if-cursor-eq0.false (sym c.in-Ok.is ∙ c.fault_at.ensures); claims = view_claims }
