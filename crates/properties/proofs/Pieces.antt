-- The pieces of an area: what they hold of the changes, and the bytes that they take.
use mathlib.Core.Path.{◌≡◌, refl, sym, ◌∙◌}
use mathlib.Core.Bool.{Bool, true, false, false≢true}
use mathlib.Core.List.{List, [], ◌∷◌}
use Prim.Native.Nat.{ℕ, ◌+◌, ◌-◌, ◌≤◌}
use native.Mathlib.Omega.{arith}
use lib.ListN.{length, take, length-append, length-take}
use Rattle.words.proofs.Numbers.{length_be_bytes}
use Rattle.property_area.specs.Piece.{Piece, descriptor_of, piece_bytes, pieces_bytes}
use Rattle.property_area.specs.Claims.PropertyArea.{SoundPiece, Sound}
use Rattle.properties.specs.Changes.{Change, stop}
use Rattle.properties.specs.Filling.{weight, parts}
use Rattle.properties.proofs.Placing.{Good, Placed, has_value}
use Rattle.properties.proofs.Fills.{Fills, none, goes, splits, waits}

-- a part of a good change: all of it where it is a deletion, and a byte of it where more follows
part_sound : (c : Change) (v : List ℕ) (more : Bool) → Good c → (c.deleted ≡ true → (v ≡ []) × (more ≡ false)) → (more ≡ true → 1 ≤ length v)
    → SoundPiece (record { part = record { name = c.name; deleted = c.deleted; value = v }; more = more })
part_sound c v more g bare some =
    record { named = g.named; short = g.short; non_zero = g.non_zero; bare = λ d. (bare d).0; whole = λ d. (bare d).1; some = some }

-- what the reader asks of the pieces of an area that it is to read back
pub pieces_from_lem : {room : ℕ} {cs es : List Change} {ps : List Piece} (lo hi : ℕ) → Fills room cs ps es → Placed lo hi cs → Sound ps
pieces_from_lem lo hi none p = tt
pieces_from_lem lo hi (goes {c = c} h f) p =
    (part_sound c c.value false p.1 (λ d. (p.1.bare d, refl)) (λ m. absurd (false≢true m)), pieces_from_lem (stop c) hi f p.2)
pieces_from_lem lo hi (splits {c = c} s e h k) p =
    let n = s - c.start in
    let kept = has_value c p.1 (omega arith) in
    (part_sound c (take n c.value) true p.1 (λ d. absurd (false≢true (sym kept ∙ d))) (λ _. omega (arith, length-take n c.value)), tt)
pieces_from_lem lo hi (waits h k) p = tt

-- the weight of the parts is the bytes that the pieces take of an area
pub piece_length : (p : Piece) → length (piece_bytes p) ≡ length p.part.name + 5 + length p.part.value
unfolding piece_bytes
piece_length p = simp length-append (omega (arith, length_be_bytes 4 (descriptor_of p)))

pub pieces_length : (ps : List Piece) → length (pieces_bytes ps) ≡ weight (parts ps)
unfolding pieces_bytes weight parts
pieces_length [] = refl
pieces_length (p ∷ ps) = rw (length-append (piece_bytes p) (pieces_bytes ps)) (omega (arith, piece_length p, pieces_length ps))
