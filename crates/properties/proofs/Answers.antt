-- An answer: its area and what it comes to, by what the pass finds and the writer hands out.
use mathlib.Core.Path.{◌≡◌, refl, ap, ◌∙◌}
use mathlib.Core.Bool.{Bool, true, false, and-false}
use mathlib.Core.List.{List, [], ◌∷◌, ◌++◌, append_assoc}
use Prim.Native.Nat.{ℕ, ◌≤◌}
use native.Mathlib.Nat.{zero-add}
use native.Mathlib.Omega.{arith}
use lib.ListN.{length, length-append}
use lib.Seq.{sets, sets-eq}
use Rattle.std.specs.Prelude.{Result, Ok, Err, is_some, unwrap_or}
use Rattle.words.specs.Numbers.{be_bytes}
use Rattle.words.proofs.Numbers.{length_be_bytes}
use Rattle.words.proofs.Stores.{sets_behind, sets_swap, length_word_bytes}
use Rattle.journal.specs.Journal.{well_formed}
use Rattle.node_area.specs.Head.{area_size}
use Rattle.property_area.specs.Head.{phandle_in, state_in, is_reserved, carried_head, head_words, first_at}
use Rattle.property_area.specs.Piece.{Piece, pieces_bytes}
use Rattle.property_area.specs.Area.{answer, written}
use Rattle.properties.specs.declared.writing.Handed.{Handed}
use Rattle.properties.specs.declared.following.Refusal.{Refusal}
use Rattle.properties.specs.declared.following.Refusal.TheVariants.{Malformed, Carried}
use Rattle.properties.specs.Changes.{Change, changes, due_at, is_due, offset_or}
use Rattle.properties.specs.Filling.{area_room, Filled, fill}
use Rattle.properties.specs.Inner.Following.{is_carried, FollowFinds}
use Rattle.properties.specs.Answer.{carries, handed, outcome_of, area_after}
use Rattle.properties.specs.Inner.Writing.{HandsOut, first_due, answered}
use Rattle.properties.proofs.Fills.{fill_is, fills_fit}
use Rattle.properties.proofs.Pieces.{pieces_length}

-- ---- the answer in its area

-- the head is stored after the pieces
head_stored : (area : List ℕ) (phandle state : ℕ) (ps : List Piece) → length area ≡ area_size → length (pieces_bytes ps) ≤ area_room
    → sets (sets area first_at (pieces_bytes ps)) 0 (carried_head phandle state ++ be_bytes 4 (length ps)) ≡ written area phandle state ps
unfolding written answer
head_stored area phandle state ps h k =
    let carried = carried_head phandle state in
    let count = be_bytes 4 (length ps) in
    let bytes = pieces_bytes ps in
    let front : length (carried ++ count) ≡ first_at = length-append carried count ∙ omega (arith, length_word_bytes (head_words phandle state), length_be_bytes 4 (length ps)) in
    sets_swap (carried ++ count) bytes area 0 first_at (omega arith) ∙ sets_behind area 0 first_at (carried ++ count) bytes (omega arith)
    ∙ sets-eq ((carried ++ count) ++ bytes) area 0 (omega (arith, length-append (carried ++ count) bytes)) ∙ rw (zero-add, append_assoc carried count bytes)

-- what is due first, told by an option
offset_is : (cs : List Change) → unwrap_or (first_due cs) 0 ≡ offset_or 0 cs
offset_is [] = refl
offset_is (c ∷ cs) = refl

some_due : (cs : List Change) → is_some (first_due cs) ≡ is_due cs
some_due [] = refl
some_due (c ∷ cs) = refl

module _ {phandle s : ℕ} {j area left : List ℕ} {h : Handed} (d : HandsOut phandle s j area left h) where
  abbrev filled : Filled
  filled = fill area_room (due_at s (changes phandle j))

  pub answer_stored : (end : List ℕ) (n : ℕ) → length area ≡ area_size → n ≡ unwrap_or h.due 0 → end ≡ sets left 0 (carried_head phandle n ++ be_bytes 4 h.count)
      → end ≡ answered area phandle filled
  answer_stored end n k z e =
      let fits = fills_fit (fill_is area_room (due_at s (changes phandle j))) in
      e ∙ rw (z, d.stored, d.counted, d.next, offset_is filled.due) (head_stored area phandle (offset_or 0 filled.due) filled.pieces k (omega (arith, fits, pieces_length filled.pieces)))

  pub answer_more : is_some h.due ≡ is_due filled.due
  answer_more = rw (d.next, some_due filled.due)

-- ---- the call

module _ (area j : List ℕ) where
  abbrev Answered : Result Bool Refusal → List ℕ → Type 0
  Answered r left = (r ≡ outcome_of area j) × (left ≡ area_after area j)

  answer_malformed : well_formed j ≡ false → Answered (Err Malformed) area
  unfolding outcome_of area_after
  answer_malformed e = rw e (refl, refl)

  module _ (good : well_formed j ≡ true) where
    refused : carries area j ≡ false → Answered (Err Carried) area
    unfolding outcome_of area_after
    refused e = rw (good, e) (refl, refl)

    pub answer_reserved : is_reserved area ≡ false → Answered (Err Carried) area
    unfolding carries
    answer_reserved e = refused (rw e)

    -- by the phandle and the state that were read
    module _ (phandle s : ℕ) (p : phandle ≡ phandle_in area) (q : s ≡ state_in area) where
      answer_unknown : is_carried phandle s j ≡ false → Answered (Err Carried) area
      unfolding carries
      answer_unknown e = refused (rw (rw (p, q) at e) (and-false (is_reserved area)))

      pub answer_given : is_reserved area ≡ true → is_carried phandle s j ≡ true → (r : Bool) (left : List ℕ)
          → let f = fill area_room (due_at s (changes phandle j)) in r ≡ is_due f.due → left ≡ answered area phandle f → Answered (Ok r) left
      unfolding outcome_of area_after carries handed
      answer_given e k r left a b = rw (good, e, rw (p, q) at k) (ap Ok (rw (p, q) at a), rw (p, q) at b)

  pub answer_refused : (phandle s : ℕ) → phandle ≡ phandle_in area → s ≡ state_in area → (e : Refusal) → FollowFinds phandle s j (Err e) → Answered (Err e) area
  answer_refused phandle s p q Malformed f = answer_malformed f
  answer_refused phandle s p q Carried f = answer_unknown f.0 phandle s p q f.1
