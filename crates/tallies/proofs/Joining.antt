-- What is claimed of journals that are joined end to end holds.
use mathlib.Core.Path.{◌≡◌, refl, sym, ap, ◌∙◌}
use mathlib.Core.Bool.{true, true≢false}
use mathlib.Core.List.{List, [], ◌∷◌, ◌++◌, append_assoc, append-nil}
use Prim.Native.Nat.{ℕ, ◌+◌, ◌≤◌}
use native.Mathlib.Nat.{add_assoc, add-zero, zero-add}
use native.Mathlib.Omega.{arith}
use lib.ListN.{length, length-append}
use lib.Seq.{sets, length-sets, length-take-le}
use borrow.Author.Tests.{le-leb}
use Rattle.std.specs.Prelude.{None, IfSome, is_some}
use Rattle.words.specs.Numbers.{le}
use Rattle.words.specs.Nul.{until_nul, is_ended}
use Rattle.words.proofs.Choice.{decide}
use Rattle.words.proofs.Stores.{sets_append}
use Rattle.records.specs.Records.{length_of, kind_of, records_from, records, whole, all_good, well_formed_by}
use Rattle.records.specs.Choosing.{chosen_by}
use Rattle.records.proofs.Joining.{records_join}
use Rattle.journal.specs.declared.operation.Operation.{Operation}
use Rattle.journal.specs.Property.{name_of, value_of, property_frame, good_property}
use Rattle.journal.specs.Journal.{good_frame, node_type, good_node, good_record, well_formed, opcode, operation_of, unit_of, entries}
use Rattle.journal.specs.Scope.{rows, negative, row_of, units_of, selection_of}
use Rattle.journal.specs.Reportable.{reports, reportable}
use Rattle.journal.proofs.Walks.{all_good_lem, within_limit}
use Rattle.journal.proofs.Joins.{well_formed_join, list_join, none_formed}
use Rattle.tallies.specs.Tallies.{recount_of, recount_for, tally_sum, tallies_within}
use Rattle.tallies.specs.Keeping.{fits, has_room, outcome_of, attached}
use Rattle.tallies.specs.Sessions.{Standing, standing_as, in_use, fresh, joining}
use Rattle.tallies.specs.Claims.Sessions.{Counted}
use Rattle.tallies.specs.Claims.Joining.{EachJoined, EndToEnd, ListsDiffer, EachJoin, Room, JoinedInTurn, JoinTaken, NothingJoined, JoinedToNothing, JoinReadings, JoinClaims}
use Rattle.tallies.proofs.Joins.{recount_none, recount_join}
use Rattle.tallies.proofs.Outcomes.{came, attach_judged, attach_done}
use Rattle.tallies.proofs.KeptLaws.{use_grown, join_keeps, fresh_counted, attach_is_fit}
use Rattle.tallies.proofs.Claims.{attached_exactly}

-- ---- buffers end to end

each_joined : EachJoined
each_joined a b first second h =
    record {
      cut = records_join good_record a b (all_good_lem a first);
      well_formed_claim = well_formed_join a b first second h;
      lists = λ scope address code. list_join a b first (selection_of scope address) code;
      tallies = recount_join a b first;
    }

end_to_end : EndToEnd
end_to_end = record { associative = append_assoc; empty_first = λ a. refl; empty_last = append-nil }

-- the opcode of the first operation
first_code : List Operation → ℕ
first_code [] = 0
first_code (o ∷ os) = opcode o

lists_differ : ListsDiffer
unfolding le length_of kind_of records_from records chosen_by node_type operation_of unit_of entries rows negative row_of units_of reports reportable first_code
lists_differ e = let z : ◌≡◌ {A = ℕ} 1 2 = ap first_code e in omega arith

-- ---- a part that is well formed and has room is taken

-- what is left then
unfoldable behind : List ℕ → Standing → Standing
behind part s = standing_as (sets s.buffer s.journal.used part) (record { used = s.journal.used + length part; tallies = tally_sum s.journal.tallies (recount_of part) })

module _ (s : Standing) (k : Counted s) (part : List ℕ) (formed : well_formed part ≡ true) (room : Room s (length part)) where
  roomy : has_room (length s.buffer) s.journal.used (length part) ≡ true
  unfolding has_room
  roomy = rw (le-leb (s.journal.used + length part) (length s.buffer) room.lent) (le-leb (s.journal.used + length part) 1_048_576 room.limit)

  taken : came s.buffer s.journal part (well_formed part) ≡ None
  taken =
      let j = attach_judged s.buffer s.journal part (well_formed part) in
      let fit = attach_is_fit s k part (well_formed part) in
      j.otherwise fit (λ e. true≢false (sym formed ∙ (j.malformed fit).0 e)) (λ e. true≢false (sym roomy ∙ (j.no_room fit formed).0 e))

  joined_is : joining part s ≡ behind part s
  unfolding behind
  joined_is = rw (attach_done s.buffer s.journal part (well_formed part) taken)

join_taken : JoinTaken
unfolding behind
join_taken s k b formed room = (taken s k b formed room, ap in_use (joined_is s k b formed room) ∙ use_grown s.buffer b s.journal.used room.lent)

-- ---- one after the other

turns_are_one : (s : Standing) (b c : List ℕ) → well_formed b ≡ true → behind c (behind b s) ≡ behind (b ++ c) s
unfolding behind
turns_are_one s b c first = simp (sets_append, length-append, recount_join b c first, add_assoc)

joined_in_turn : JoinedInTurn
unfolding behind
joined_in_turn s k b c first second room =
    let one = joined_is s k b first (record { lent = omega (arith, room.lent); limit = omega (arith, room.limit) }) in
    let used : (joining b s).journal.used ≡ s.journal.used + length b = ap (λ (x : Standing). x.journal.used) one in
    let size : length (joining b s).buffer ≡ length s.buffer = ap (λ (x : Standing). length x.buffer) one ∙ length-sets s.buffer s.journal.used b in
    let two = joined_is (joining b s) ((join_keeps b).counted s k) c second (record { lent = omega (arith, room.lent, used, size); limit = omega (arith, room.limit, used) }) in
    let n = length-append b c in
    let both = joined_is s k (b ++ c) (well_formed_join b c first second (omega (arith, room.limit))) (record { lent = omega (arith, room.lent, n); limit = omega (arith, room.limit, n) }) in
    two ∙ ap (behind c) one ∙ turns_are_one s b c first ∙ sym both

-- ---- nothing, on either side

use_limited : (s : Standing) → Counted s → s.journal.used ≤ 1_048_576
use_limited s k = omega (arith, within_limit (in_use s) k.well_formed_claim, length-take-le s.journal.used s.buffer k.inside)

nothing_joined : NothingJoined
unfolding behind
nothing_joined s k =
    let room : Room s 0 = record { lent = omega (arith, k.inside); limit = omega (arith, use_limited s k) } in
    (taken s k [] none_formed room, joined_is s k [] none_formed room ∙ simp (recount_none, add-zero))

joined_to_nothing : JoinedToNothing
unfolding behind
joined_to_nothing buffer b formed h =
    let k = fresh_counted buffer in
    let room : Room (fresh buffer) (length b) = record { lent = omega arith; limit = omega (arith, within_limit b formed) } in
    (taken (fresh buffer) k b formed room, ((join_taken (fresh buffer) k b formed room).1, ap (λ (s : Standing). s.journal.tallies) (joined_is (fresh buffer) k b formed room) ∙ simp zero-add))

-- ---- a part that was counted

pub counted_good : (j : List ℕ) → is_some (recount_for j) ≡ well_formed j
unfolding recount_for
counted_good j = decide (well_formed j) (λ e. rw e refl) (λ e. rw e refl)

pub counted_tallies : (j : List ℕ) → IfSome (recount_for j) (λ t. t ≡ recount_of j)
unfolding recount_for
counted_tallies j = decide (well_formed j) (λ e. rw e refl) (λ e. rw e tt)

-- ---- all of it

each_join : EachJoin
each_join b t part = attached_exactly (well_formed part ≡ true) part (well_formed part) (λ e. e, λ e. e) b t

join_readings : JoinReadings
unfolding le until_nul is_ended length_of kind_of records_from records whole all_good well_formed_by chosen_by name_of value_of property_frame good_property good_frame node_type good_node good_record
    well_formed operation_of unit_of entries rows negative row_of units_of reports recount_of tallies_within fits has_room outcome_of attached
join_readings = tt

pub join_claims : JoinClaims
join_claims = record {
  each_joined = each_joined;
  end_to_end = end_to_end;
  lists_differ = lists_differ;
  each_join = each_join;
  joined_in_turn = joined_in_turn;
  join_taken = join_taken;
  nothing_joined = nothing_joined;
  joined_to_nothing = joined_to_nothing;
  kept_is_fit_to_join = λ s k part. attach_is_fit s k part (well_formed part);
  readings = join_readings;
}
