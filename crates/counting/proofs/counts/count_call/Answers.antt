-- `counts::count_call` meets its contract.
use mathlib.Core.Path.{◌≡◌, sym, ap, ◌∙◌}
use mathlib.Core.Bool.{true, true≢false}
use native.Mathlib.Omega.{arith}
use Prim.Native.Nat.{◌<◌}
use Rattle.words.specs.Numbers.{be32}
use Rattle.calls.specs.Status.{is_given}
use Rattle.calls.specs.Buffer.{status_at}
use Rattle.calls.proofs.Heads.{Whole, whole_buffer, given_number}
use Rattle.counting.specs.Counts.{place_of}
use Rattle.counting.specs.Claims.Counts.{CountClaims}
use Rattle.counting.specs.Claims.CountsCame.{TraceCountClaims}
use Rattle.counting.proofs.Tallies.{handed_small}
use Rattle.counting.proofs.Ways.{counted_not, counted_is}
use Rattle.counting.proofs.Claims.{count_claims}
use Rattle.counting.proofs.CountsCame.{trace_count_claims}
use Rattle.counting.proofs.counts.count_call.Goals as goal
use Rattle.counting.proofs.counts.count_call.Goals.{then-token-lt1-via-then-token-lt1, then-token-lt1-via-else-token-lt1+then-token-gt4}

claims : CountClaims × TraceCountClaims
claims = (count_claims, trace_count_claims)

pub returns-then-not-is_given : goal.returns-then-not-is_given
returns-then-not-is_given c =
    record { value = counted_not _ _ _ _ (λ e _ _ _. true≢false (sym (c.is_given.ensures ∙ e) ∙ c.if-not-is_given.true)); claims = claims }

pub read_be32-token-requires : goal.read_be32-token-requires
read_be32-token-requires c =
    let given : is_given c.args.number ≡ true =
    sym c.is_given.ensures ∙ c.if-not-is_given.false in
    let whole : Whole c.args.args.now =
    whole_buffer c.args.args.now (ap is_given (sym c.requires.1) ∙ given) in
    omega (arith, whole)

pub read_be32-requires : goal.read_be32-requires
read_be32-requires c =
    let given : is_given c.args.number ≡ true =
    sym c.is_given.ensures ∙ c.if-not-is_given.false in
    let whole : Whole c.args.args.now =
    whole_buffer c.args.args.now (ap is_given (sym c.requires.1) ∙ given) in
    omega (arith, whole)

pub read_be32-status-requires : goal.read_be32-status-requires
read_be32-status-requires c =
    let given : is_given c.args.number ≡ true =
    sym c.is_given.ensures ∙ c.if-not-is_given.false in
    let whole : Whole c.args.args.now =
    whole_buffer c.args.args.now (ap is_given (sym c.requires.1) ∙ given) in
    omega (arith, whole)

pub returns-in_default : goal.returns-in_default
returns-in_default c =
    let status_is : let args = c.args.args.now in c.read_be32-status.result ≡ be32 args (status_at args) =
    c.read_be32-status.ensures ∙ rw c.read_be32.ensures in
    let not = rw c.in_default.is at c.place_of.ensures in
    record { value = counted_not c.args.args.now _ _ _ (λ _ l m p. not (rw status_is p)); claims = claims }

pub returns-then-token-lt1 : goal.returns-then-token-lt1
returns-then-token-lt1 c =
    elim c.then-token-lt1.branch [
      | then-token-lt1-via-then-token-lt1 w ↦ record { value = counted_not c.args.args.now _ _ _ (λ _ l m p. omega arith); claims = claims }
      | then-token-lt1-via-else-token-lt1+then-token-gt4 w ↦ record { value = counted_not c.args.args.now _ _ _ (λ _ l m p. omega arith); claims = claims }
    ]

pub handed_out-requires : goal.handed_out-requires
handed_out-requires c =
    let given : is_given c.args.number ≡ true =
    sym c.is_given.ensures ∙ c.if-not-is_given.false in
    sym c.requires.1 ∙ given_number _ (given)

pub count_as-requires : goal.count_as-requires
count_as-requires c =
    let place = rw c.in-Some.is at c.place_of.ensures in
    (c.requires.0, (omega (arith, place.0, place.1), rw c.handed_out.ensures (handed_small _ c.args.args.now _)))

pub returns : goal.returns
returns c =
    let status_is : let args = c.args.args.now in c.read_be32-status.result ≡ be32 args (status_at args) =
    c.read_be32-status.ensures ∙ rw c.read_be32.ensures in
    let place : (place_of c.read_be32-status.result < 7) × (c.in-Some.place ≡ place_of c.read_be32-status.result) =
    rw c.in-Some.is at c.place_of.ensures in
    let place_is : let args = c.args.args.now in c.in-Some.place ≡ place_of (be32 args (status_at args)) =
    place.1 ∙ ap place_of (status_is) in
    let given : is_given c.args.number ≡ true =
    sym c.is_given.ensures ∙ c.if-not-is_given.false in
    record {
      value = c.count_as.ensures
          ∙ rw (c.handed_out.ensures, place_is, status_is, c.read_be32-token.ensures)
          (sym (counted_is c.args.args.now _ _ _ (given) (omega arith) (omega arith) (omega (arith, place.0, place.1, place_is))));
      claims = claims;
    }
