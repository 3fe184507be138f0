-- The area that an update-properties call leaves: it fits, reads back, carries the session on, and keeps what is behind its properties.
use mathlib.Core.Path.{◌≡◌, refl, ap, ◌∙◌}
use mathlib.Core.Bool.{true, false, ◌&&◌}
use mathlib.Core.List.{List, [], ◌∷◌}
use Prim.Native.Nat.{ℕ, suc, ◌+◌, ◌≤◌, ◌<◌}
use native.Mathlib.Omega.{arith}
use lib.ListN.{length, get_or}
use Rattle.words.specs.Numbers.{be32, be_bytes, word_bytes, zeros}
use Rattle.words.specs.Reading.{read}
use Rattle.words.proofs.Places.{word_there}
use Rattle.words.proofs.Choice.{decide, and_left, and_right}
use Rattle.journal.specs.Journal.{well_formed}
use Rattle.journal.proofs.Walks.{all_good_lem, within_limit}
use Rattle.node_area.specs.Head.{head_of}
use Rattle.property_area.specs.Head.{state_in, is_reserved, carried_head}
use Rattle.property_area.specs.Piece.{Piece}
use Rattle.property_area.specs.Reading.{reading}
use Rattle.property_area.specs.Area.{answer, written}
use Rattle.property_area.specs.Claims.PropertyArea.{Sound}
use Rattle.property_area.proofs.Claims.{area_claims}
use Rattle.properties.specs.Changes.{Change, due_at, is_due, offset_or}
use Rattle.properties.specs.Filling.{area_room, Filled, fill, weight, parts}
use Rattle.properties.specs.Session.{after, state, states, member}
use Rattle.properties.specs.Claims.Session.{Carried}
use Rattle.properties.specs.Answer.{changes_for, carries, handed, area_after}
use Rattle.properties.proofs.Placing.{Placed}
use Rattle.properties.proofs.Offsets.{offset_end}
use Rattle.properties.proofs.Fills.{fill_is, fills_fit}
use Rattle.properties.proofs.Pieces.{pieces_length}
use Rattle.properties.proofs.Sessions.{SessionOf, session_of, carried_sound}
use Rattle.properties.proofs.Steps.{placed_all}
use Rattle.calls.proofs.Memory.{front_length, front_behind}

answer_length : (phandle state : ℕ) (ps : List Piece) → length (answer phandle state ps) ≡ 20 + weight (parts ps)
unfolding answer word_bytes be_bytes
answer_length phandle state ps = omega (arith, pieces_length ps)

-- every property takes bytes
parts_few : (ps : List Piece) → length ps ≤ weight (parts ps)
unfolding weight parts
parts_few [] = omega arith
parts_few (p ∷ ps) = omega (arith, parts_few ps)

-- where nothing is due after an area, the state is 0
state_end : (n : ℕ) (cs : List Change) → is_due (after (suc n) cs) ≡ false → state (suc n) cs ≡ 0
unfolding state
state_end n cs d = offset_end 0 (after (suc n) cs) d

module _ (area j : List ℕ) where
  abbrev cs : List Change
  cs = changes_for area j

  abbrev filled : Filled
  filled = handed area j

  abbrev next : ℕ
  next = offset_or 0 filled.due

  abbrev front : List ℕ
  front = answer (be32 area 0) next filled.pieces

  abbrev pub left : List ℕ
  left = written area (be32 area 0) next filled.pieces

  -- ---- the bytes that it takes

  fits : length front ≤ 4096
  unfolding handed
  fits = omega (arith, answer_length (be32 area 0) next filled.pieces, fills_fit (fill_is area_room (due_at (state_in area) cs)))

  pub left_length : length area ≡ 4096 → length left ≡ 4096
  unfolding written
  left_length size = front_length front area (omega (arith, fits)) ∙ size

  pub after_length : length area ≡ 4096 → length (area_after area j) ≡ 4096
  unfolding area_after
  after_length size = decide (well_formed j && carries area j) (λ e. rw e (left_length size)) (λ e. rw e size)

  pub left_behind : (k : ℕ) → 20 + weight (parts filled.pieces) ≤ k → get_or left k 0 ≡ get_or area k 0
  unfolding written
  left_behind k h = front_behind front area k (omega (arith, answer_length (be32 area 0) next filled.pieces))

  -- ---- its head

  pub left_head : head_of left ≡ carried_head (be32 area 0) next
  unfolding written answer word_bytes be_bytes
  left_head = refl

  pub left_reserved : is_reserved left ≡ true
  unfolding written answer word_bytes be_bytes is_reserved zeros
  left_reserved = refl

  pub left_phandle : be32 area 0 < 0x1_0000_0000 → be32 left 0 ≡ be32 area 0
  unfolding written answer word_bytes be_bytes
  left_phandle h = word_there left 0 (be32 area 0) _ refl h

  pub left_state : next < 0x1_0000_0000 → be32 left 4 ≡ next
  unfolding written answer word_bytes be_bytes
  left_state h = word_there left 4 next _ refl h

  pub left_number : be32 left 16 ≡ length filled.pieces
  unfolding written answer word_bytes be_bytes
  left_number =
      word_there left 16 (length filled.pieces) _ refl (omega (arith, fits, answer_length (be32 area 0) next filled.pieces, parts_few filled.pieces))

  -- ---- where the checks are passed

  module _ (formed : well_formed j ≡ true) (known : carries area j ≡ true) where
    named : (is_due cs && member (state_in area) (states cs)) ≡ true
    unfolding carries
    named = and_right (is_reserved area) _ known

    pub some : is_due cs ≡ true
    some = and_left _ _ named

    listed : member (state_in area) (states cs) ≡ true
    listed = and_right (is_due cs) _ named

    in_journal : Placed 0 (length j) cs
    in_journal = placed_all (be32 area 0) j (all_good_lem j formed)

    pub session : SessionOf (length j) cs
    session = session_of 0 (length j) cs in_journal some

    pub state_carried : Carried cs (state_in area)
    state_carried = (session.carried (state_in area)).0 listed

    -- the new state is a place of the journal, or 0
    pub next_small : next < 0x1_0000_0000
    unfolding handed
    next_small =
        let q = state_carried in
        let n = q.0 in
        let is : state (suc n) cs ≡ next = session.next n q.1 ∙ ap (λ (s : ℕ). offset_or 0 (fill area_room (due_at s cs)).due) q.2 in
        decide (is_due (after (suc n) cs))
        (λ d. omega (arith, is, session.inside (suc n) d, within_limit j formed))
        (λ d. omega (arith, is, state_end n cs d))

    sound : Sound filled.pieces
    unfolding handed
    sound = carried_sound 0 (length j) cs in_journal some (state_in area) listed

    pub left_reads : length area ≡ 4096 → reading left ≡ read filled.pieces
    left_reads size = area_claims.1 area (be32 area 0) next filled.pieces size sound fits
