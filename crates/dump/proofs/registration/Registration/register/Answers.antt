-- `registration::Registration::register` meets its contract.
use mathlib.Core.Path.{◌≡◌, sym, ◌∙◌}
use mathlib.Core.Bool.{true}
use borrow.Author.Rules.{rules}
use Rattle.dump.specs.Registration.{acceptable, verdict_of, registration_after}
use Rattle.dump.proofs.Verdicts.{acceptable_short, acceptable_inside, registered_is}
use Rattle.dump.proofs.registration.Registration.register.Goals as goal

pub returns-then-not-is_acceptable : goal.returns-then-not-is_acceptable
unfolding verdict_of registration_after
returns-then-not-is_acceptable c =
    c.refused-then-not-is_acceptable.ensures ∙ rw (c.in-Unregistered.is, ← c.is_acceptable.ensures, c.if-not-is_acceptable.true)

pub slice_bounds-copied-end : goal.slice_bounds-copied-end
slice_bounds-copied-end c =
    let good : acceptable c.args.memory.now c.args.address c.args.len ≡ true =
    sym c.is_acceptable.ensures ∙ c.if-not-is_acceptable.false in
    let h = acceptable_inside _ _ _ (good) in search rules

pub copied-requires : goal.copied-requires
copied-requires c =
    let good : acceptable c.args.memory.now c.args.address c.args.len ≡ true =
    sym c.is_acceptable.ensures ∙ c.if-not-is_acceptable.false in
    let h = acceptable_short _ _ _ (good) in search rules

pub returns-else-not-is_acceptable : goal.returns-else-not-is_acceptable
unfolding verdict_of registration_after
returns-else-not-is_acceptable c =
    let good : acceptable c.args.memory.now c.args.address c.args.len ≡ true =
    sym c.is_acceptable.ensures ∙ c.if-not-is_acceptable.false in
    c.done.ensures ∙ rw (registered_is _ _ _ (good) _ c.copied.ensures, c.in-Unregistered.is, good)
