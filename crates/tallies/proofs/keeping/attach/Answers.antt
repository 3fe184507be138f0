-- `keeping::attach` meets its contract.
use mathlib.Core.Path.{◌≡◌, refl, sym, ap, ◌∙◌}
use mathlib.Core.Bool.{Bool, true, false}
use mathlib.Core.List.{List}
use Prim.Native.Nat.{ℕ, ◌+◌, ◌≤◌}
use native.Mathlib.Omega.{arith}
use lib.Dec.{leb}
use lib.ListN.{length}
use lib.Seq.{sets}
use borrow.Author.Tests.{leb-true}
use Rattle.std.specs.Prelude.{Some, None, is_some}
use Rattle.words.proofs.Choice.{and_left, and_right}
use Rattle.tallies.specs.declared.tallies.Tallies.{Tallies}
use Rattle.tallies.specs.declared.keeping.Tallied.{Tallied}
use Rattle.tallies.specs.declared.keeping.Kept.{Kept}
use Rattle.tallies.specs.declared.keeping.Refusal.{Refusal}
use Rattle.tallies.specs.declared.keeping.Refusal.TheVariants.{Malformed, NoRoom, Unfit}
use Rattle.tallies.specs.Tallies.{recount_of, tally_sum, tallies_within}
use Rattle.tallies.specs.Keeping.{fits, has_room, outcome_of, leaves, attached}
use Rattle.tallies.proofs.Recounts.{tallies_few, recount_few, tallies_fit}
use Rattle.tallies.proofs.Outcomes.{room_told}
use Rattle.tallies.proofs.keeping.attach.Goals as goal

module _ (buffer : List ℕ) (t : Tallied) (part : List ℕ) (good : Bool) where
  -- by a refusal
  refusal : (o : Refusal) (k : Kept) → outcome_of (length buffer) t (length part) good ≡ Some o → k ≡ record { next = t; outcome = Some o } → leaves buffer k ≡ attached buffer t part good
  unfolding attached
  refusal o k e p = rw (e, p)

  -- by a part that is put
  growth : (b : List ℕ) (s : Tallies) → outcome_of (length buffer) t (length part) good ≡ None → b ≡ sets buffer t.used part → s ≡ tally_sum t.tallies (recount_of part)
      → leaves b (record { next = record { used = t.used + length part; tallies = s }; outcome = None }) ≡ attached buffer t part good
  unfolding attached
  growth b s e p q = rw (e, p, q)

within : (size : ℕ) (t : Tallied) → fits size t ≡ true → (t.used ≤ size) × (tallies_within t.used t.tallies ≡ true)
unfolding fits
within size t e = (leb-true _ _ (and_left _ _ e), and_right (leb t.used size) _ e)

pub returns-then-not-is_fit : goal.returns-then-not-is_fit
unfolding outcome_of
returns-then-not-is_fit c =
    let a = c.args in
    let unfit = sym c.is_fit.ensures ∙ c.if-not-is_fit.true in
    refusal a.buffer.now a.journal a.part.now (is_some a.counted) Unfit _ (rw unfit) c.refused.ensures

pub returns-in_default : goal.returns-in_default
unfolding outcome_of
returns-in_default c =
    let a = c.args in
    let fit_here : fits (length a.buffer.now) a.journal ≡ true =
    sym c.is_fit.ensures ∙ c.if-not-is_fit.false in
    refusal a.buffer.now a.journal a.part.now (is_some a.counted) Malformed _ (rw (fit_here, c.in_default.is)) c.refused-in_default.ensures

pub has_room-requires : goal.has_room-requires
has_room-requires c =
    let fit_here : fits (length c.args.buffer.now) c.args.journal ≡ true =
    sym c.is_fit.ensures ∙ c.if-not-is_fit.false in
    (within _ _ (fit_here)).0

pub returns-then-not-has_room : goal.returns-then-not-has_room
unfolding outcome_of
returns-then-not-has_room c =
    let a = c.args in
    let fit_here : fits (length a.buffer.now) a.journal ≡ true =
    sym c.is_fit.ensures ∙ c.if-not-is_fit.false in
    let counted_here : a.counted ≡ Some c.in-Some.tallies = c.in-Some.is in
    let full = sym c.has_room.ensures ∙ c.if-not-has_room.true in
    refusal a.buffer.now a.journal a.part.now (is_some a.counted) NoRoom _ (rw (fit_here, counted_here, full)) c.refused-then-not-has_room.ensures

pub store-requires : goal.store-requires
store-requires c =
    let room_here : has_room (length c.args.buffer.now) c.args.journal.used (length c.args.part.now) ≡ true =
    sym c.has_room.ensures ∙ c.if-not-has_room.false in
    (room_told _ _ _ (room_here)).0

pub overflow_add-result : goal.overflow_add-result
overflow_add-result c =
    let room_here : has_room (length c.args.buffer.now) c.args.journal.used (length c.args.part.now) ≡ true =
    sym c.has_room.ensures ∙ c.if-not-has_room.false in
    omega (arith, room_told _ _ _ (room_here))

pub add-requires : goal.add-requires
add-requires c =
    let a = c.args in
    let fit_here : fits (length a.buffer.now) a.journal ≡ true =
    sym c.is_fit.ensures ∙ c.if-not-is_fit.false in
    let counted_here : a.counted ≡ Some c.in-Some.tallies = c.in-Some.is in
    let told : c.in-Some.tallies ≡ recount_of a.part.now = rw counted_here at c.requires in
    let room_here : has_room (length a.buffer.now) a.journal.used (length a.part.now) ≡ true =
    sym c.has_room.ensures ∙ c.if-not-has_room.false in
    let few = tallies_few a.journal.used a.journal.tallies (within _ _ (fit_here)).1 in
    rw told (tallies_fit a.journal.used (length a.part.now) (omega (arith, room_told _ _ _ (room_here))) _ _ few (recount_few a.part.now))

pub returns : goal.returns
unfolding outcome_of
returns c =
    let a = c.args in
    let fit_here : fits (length a.buffer.now) a.journal ≡ true =
    sym c.is_fit.ensures ∙ c.if-not-is_fit.false in
    let counted_here : a.counted ≡ Some c.in-Some.tallies = c.in-Some.is in
    let told : c.in-Some.tallies ≡ recount_of a.part.now = rw counted_here at c.requires in
    let room_here : has_room (length a.buffer.now) a.journal.used (length a.part.now) ≡ true =
    sym c.has_room.ensures ∙ c.if-not-has_room.false in
    growth a.buffer.now a.journal a.part.now (is_some a.counted) _ _ (rw (fit_here, counted_here, room_here))
    c.store.ensures
    (c.add.ensures ∙ ap (tally_sum a.journal.tallies) told)
