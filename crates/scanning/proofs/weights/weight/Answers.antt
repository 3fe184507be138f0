-- `weights::weight` meets its contract.
use Rattle.std.proofs.Common.{◌≡◌, ℕ, refl, arith}
use Rattle.journal.specs.Terms.{opcode_for}
use Rattle.journal.proofs.Opcodes.{each_kind}
use Rattle.scanning.proofs.WeightLaws.{weight_is}
use Rattle.scanning.proofs.weights.weight.Goals as goal

pub returns-then-kind-eq1 : goal.returns-then-kind-eq1
returns-then-kind-eq1 c =
    rw c.if-kind-eq1.true (weight_is c.args.set 1 _ (omega arith))

pub returns-then-kind-eq3 : goal.returns-then-kind-eq3
returns-then-kind-eq3 c =
    rw (c.if-kind-eq3.true, c.from-then-kind-eq3.ensures) (weight_is c.args.set 3 _ refl)

pub returns : goal.returns
returns c =
    let update : opcode_for c.args.kind ≡ 2 =
    each_kind (λ (k : ℕ). (k ≡ 1 → ⊥) → (k ≡ 3 → ⊥) → opcode_for k ≡ 2) (λ n _. absurd (n refl)) (λ _ _. refl) (λ _ n. absurd (n refl)) (λ _ _. refl) c.args.kind c.requires c.if-kind-eq1.false c.if-kind-eq3.false in
    rw (update, c.from-2.ensures) (weight_is c.args.set 2 _ refl)
