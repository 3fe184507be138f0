-- `counts::handed_out` meets its contract.
use mathlib.Core.Path.{sym, ap, ◌∙◌}
use native.Mathlib.Omega.{arith}
use Rattle.calls.specs.Status.{is_given}
use Rattle.calls.proofs.Heads.{Whole, whole_buffer, asked}
use Rattle.counting.proofs.Ways.{handed_not, handed_is}
use Rattle.counting.proofs.counts.handed_out.Goals as goal
use Rattle.counting.proofs.counts.handed_out.Goals.{then-token-ne1-via-then-token-ne1, then-token-ne1-via-else-token-ne1+then-inputs-ne2, then-token-ne1-via-else-token-ne1+else-inputs-ne2+then-outputs-ne1, then-token-ne1-via-else-token-ne1+else-inputs-ne2+else-outputs-ne1+then-status-gt1}

pub read_be32-token-requires : goal.read_be32-token-requires
read_be32-token-requires c =
    let whole : Whole c.args.args.now =
    whole_buffer c.args.args.now (ap is_given c.requires) in
    omega (arith, whole)

pub read_be32-inputs-requires : goal.read_be32-inputs-requires
read_be32-inputs-requires c =
    let whole : Whole c.args.args.now =
    whole_buffer c.args.args.now (ap is_given c.requires) in
    omega (arith, whole)

pub read_be32-outputs-requires : goal.read_be32-outputs-requires
read_be32-outputs-requires c =
    let whole : Whole c.args.args.now =
    whole_buffer c.args.args.now (ap is_given c.requires) in
    omega (arith, whole)

pub read_be32-requires : goal.read_be32-requires
read_be32-requires c =
    let whole : Whole c.args.args.now =
    whole_buffer c.args.args.now (ap is_given c.requires) in
    omega (arith, whole)

pub read_be32-requires-2 : goal.read_be32-requires-2
read_be32-requires-2 c =
    let whole : Whole c.args.args.now =
    whole_buffer c.args.args.now (ap is_given c.requires) in
    omega (arith, whole)

pub returns-then-token-ne1 : goal.returns-then-token-ne1
returns-then-token-ne1 c =
    let args = c.args.args.now in
    elim c.then-token-ne1.branch [
      | then-token-ne1-via-then-token-ne1 w ↦ c.no_tally.ensures ∙ handed_not args _ _ (λ e l. omega (arith, asked 1 2 1 args e))
      | then-token-ne1-via-else-token-ne1+then-inputs-ne2 w ↦ c.no_tally.ensures ∙ handed_not args _ _ (λ e l. omega (arith, asked 1 2 1 args e))
      | then-token-ne1-via-else-token-ne1+else-inputs-ne2+then-outputs-ne1 w ↦ c.no_tally.ensures ∙ handed_not args _ _ (λ e l. omega (arith, asked 1 2 1 args e))
      | then-token-ne1-via-else-token-ne1+else-inputs-ne2+else-outputs-ne1+then-status-gt1 w ↦ c.no_tally.ensures ∙ handed_not args _ _ (λ e l. omega (arith, asked 1 2 1 args e))
    ]

pub returns : goal.returns
returns c =
    let args = c.args.args.now in
    c.tally_at.ensures
    ∙ rw (c.read_be32-2.ensures, c.read_be32.ensures) (sym (handed_is args _ _ (omega arith) (omega arith) (omega arith) (omega arith)))
