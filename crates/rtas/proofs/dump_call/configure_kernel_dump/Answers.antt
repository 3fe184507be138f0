-- `dump_call::configure_kernel_dump` meets its contract.
use mathlib.Core.Path.{ap, ◌∙◌}
use Rattle.dump.specs.declared.registration.Configured.{Configured}
use Rattle.calls.specs.ConfigureDump.{verdict_status, dump_status}
use Rattle.rtas.proofs.dump_call.configure_kernel_dump.Goals as goal

pub returns : goal.returns
unfolding dump_status
returns c =
    (c.status_of.ensures ∙ ap (λ (x : Configured). verdict_status x.verdict) c.configure-configured.ensures, ap (λ (x : Configured). x.next) c.configure-configured.ensures)
