-- The text of an input, from what a check tells of it, and that it fits its buffer.
use mathlib.Core.Path.{◌≡◌, refl, sym, ◌∙◌}
use mathlib.Core.Bool.{Bool, true, false, cond, not}
use mathlib.Core.List.{List, [], ◌∷◌, ◌++◌}
use Prim.Native.Nat.{ℕ, zero, suc, ◌*◌, ◌-◌, ◌≤◌}
use native.Mathlib.Omega.{arith}
use lib.Dec.{eqb}
use lib.ListN.{length, take, drop, length-append, length-drop}
use lib.Seq.{sets, length-take-le}
use borrow.Author.Tests.{eqb-true, eq-eqb, ne_eqb, not-false}
use Rattle.words.specs.Numbers.{words}
use Rattle.words.proofs.Words.{length_words}
use Rattle.journal.specs.declared.operation.Operation.{Operation}
use Rattle.journal.specs.declared.operation.Operation.TheVariants.{Delete, Update, Add}
use Rattle.words.proofs.Choice.{choose, decide}
use Rattle.node_area.specs.declared.reading.Refusal.{Refusal}
use Rattle.node_area.specs.declared.reading.Refusal.TheVariants.{Size, Reserved}
use Rattle.std.specs.Prelude.{Ok, Err}
use Rattle.words.specs.declared.refused.Refused.{Refused}
use Rattle.words.specs.Reading.{Reading, read, refused}
use Rattle.node_area.specs.Reading.{Verdict, good, bad, verdict, reading, read_by, refusal_number, operations_at, opcode_in, count_in, check_of}
use Rattle.node_area.specs.Head.{area_size, head_size, state_in, unit_in, reserved_from, is_reserved}
use Rattle.node_area.specs.Claims.Cursor.{remaining, start_of}
use Rattle.node_area.proofs.Verdicts.{entries_in_order}
use Rattle.printing.specs.Text.{hex_digits, newline, state-, delete-, end-, numbered, ended, operand, refusal_line}
use Rattle.words.proofs.Claims.{numbers_exactly, zeros_exactly}
use Rattle.node_area.proofs.ReaderClaims.{node_reader_exactly}
use Rattle.printing.proofs.Digits.{digits_exactly}
use Rattle.printing.proofs.Sizes.{length_hex_digits, length_ended, length_operand, length_refusal, inside_buffer}
use Rattle.print_nodes.specs.Text.{update-, unit-, scope_of, line, lines, unit_line, text}
use Rattle.print_nodes.specs.Claims.PrintNodes.{TextExactly, ScopeExactly, LongInput, PrintNodesPromise}

length_line : (o : Operation) → length (line o) ≤ 22
unfolding line
length_line (Delete p) = omega (arith, length-append (operand delete- p) newline, length_operand delete- p)
length_line (Update p) = omega (arith, length-append (operand update- p) newline, length_operand update- p)
length_line (Add p i) = rw (length-append, length-append, length_operand, length_operand) (omega arith)

length-lines : (os : List Operation) → length (lines os) ≤ 22 * length os
unfolding lines
length-lines [] = omega arith
length-lines (o ∷ os) = omega (arith, length-append (line o) (lines os), length_line o, length-lines os)

-- ---- how many operations an area has

length_operations : (ws : List ℕ) (code n : ℕ) → length (operations_at ws code n) ≤ length ws
unfolding operations_at
length_operations [] code n = omega arith
length_operations (w ∷ ws) code zero = choose (eqb w 0) (λ (os : List Operation). length os ≤ suc (length ws)) (λ _. omega arith) (λ _. omega (arith, length_operations ws (opcode_in w) (count_in w)))
length_operations (w ∷ []) code (suc n) = choose (eqb code 3) (λ (os : List Operation). length os ≤ 1) (λ _. omega arith) (λ _. omega arith)
length_operations (w ∷ v ∷ ws) code (suc n) =
    choose (eqb code 3) (λ (os : List Operation). length os ≤ suc (suc (length ws))) (λ _. omega (arith, length_operations ws code (n - 1))) (λ _. omega (arith, length_operations (v ∷ ws) code n))

read_of : (a b : Bool) (k : ℕ) (v : Verdict) (os ps : List Operation) → cond a (refused Size 0) (cond b (refused Reserved k) (read_by v os)) ≡ read ps → (a ≡ false) × (os ≡ ps)
read_of true b k v os ps e = (cc, cc)
read_of false true k v os ps e = (cc, cc)
read_of false false k good os ps e = (refl, cc)
read_of false false k (bad r at) os ps e = (cc, cc)

-- an area that is read
record Area (area : List ℕ) (os : List Operation) : Type 0 where
  pub size : length area ≡ area_size
  pub few : length os ≤ 1024

area_read : (scope : ℕ) (area : List ℕ) (os : List Operation) → reading scope area ≡ read os → Area area os
unfolding reading
area_read scope area os e =
    let ws = drop 4 (words area) in
    let r = read_of (not (eqb (length area) area_size)) (not (is_reserved scope area)) (reserved_from scope) (verdict 0 head_size 0 ws) (operations_at ws 0 0) os e in
    let size : length area ≡ area_size = eqb-true (length area) area_size (not-false (eqb (length area) area_size) r.0) in
    record { size = size; few = rw (← r.1) (omega (arith, length_operations ws 0 0, length-drop 4 (words area), length_words 1024 area size)) }

-- ---- the text, from what a check gives of an area

module _ (scope : ℕ) (input : List ℕ) where
  text_read : (os : List Operation) → reading scope input ≡ read os
      → text scope input ≡ ended state- (state_in input) ++ (unit_line scope input ++ (lines os ++ ended end- (length os)))
  unfolding text
  text_read os e = rw e

  text_refused : (r : Refusal) (at : ℕ) → reading scope input ≡ refused r at → text scope input ≡ refusal_line (refusal_number r) at
  unfolding text
  text_refused r at e = rw e

  -- the text of an area with n operations
  pub area_text : (n state : ℕ) → check_of (reading scope input) ≡ Ok n → state ≡ state_in input
      → (length input ≡ area_size) × (text scope input ≡ ended state- state ++ (unit_line scope input ++ (lines (remaining input start_of) ++ ended end- n)))
  area_text n state e w = go (reading scope input) refl e
    where
      go : (r : Reading Operation Refusal) → reading scope input ≡ r → check_of r ≡ Ok n
          → (length input ≡ area_size) × (text scope input ≡ ended state- state ++ (unit_line scope input ++ (lines (remaining input start_of) ++ ended end- n)))
      go (read os) g h = let same : length os ≡ n = cc in ((area_read scope input os g).size, text_read os g ∙ rw (entries_in_order scope input os g, same, w))
      go (refused r at) g h = (cc, cc)

  pub refused_text : (r : Refused Refusal) → check_of (reading scope input) ≡ Err r → text scope input ≡ refusal_line (refusal_number r.refusal) r.offset
  refused_text r e = go (reading scope input) refl e
    where
      go : (x : Reading Operation Refusal) → reading scope input ≡ x → check_of x ≡ Err r → text scope input ≡ refusal_line (refusal_number r.refusal) r.offset
      go (read os) g h = cc
      go (refused q k) g h = let same : ◌≡◌ {A = Reading Operation Refusal} (refused q k) (refused r.refusal r.offset) = cc in text_refused r.refusal r.offset (g ∙ same)

  -- ---- the line of the unit

  pub unit_none : (scope ≡ 3 → ⊥) → unit_line scope input ≡ []
  unit_none h = rw (ne_eqb scope 3 h)

  pub unit_some : scope ≡ 3 → unit_line scope input ≡ (unit- ++ hex_digits 16 (unit_in input)) ++ newline
  unit_some h = rw (eq-eqb scope 3 h)

  -- ---- the text fits

  length_unit : length (unit_line scope input) ≤ 22
  length_unit =
      choose (eqb scope 3) (λ (s : List ℕ). length s ≤ 22)
      (λ _. omega (arith, length-append (unit- ++ hex_digits 16 (unit_in input)) newline, length-append unit- (hex_digits 16 (unit_in input)), length_hex_digits 16 (unit_in input)))
      (λ _. omega arith)

  pub text_fits : (out : List ℕ) → 32_768 ≤ length out → length (text scope input) ≤ length out
  text_fits out room = go (reading scope input) refl
    where
      go : (r : Reading Operation Refusal) → reading scope input ≡ r → length (text scope input) ≤ length out
      go (read os) g =
          let first = ended state- (state_in input) in
          let unit = unit_line scope input in
          let last = ended end- (length os) in
          rw (text_read os g)
          (omega (arith, (area_read scope input os g).few, length-append first (unit ++ (lines os ++ last)), length-append unit (lines os ++ last), length-append (lines os) last, length_unit, length_ended state- (state_in input), length-lines os, length_ended end- (length os)))
      go (refused r at) g = rw (text_refused r at g) (omega (arith, length_refusal (refusal_number r) at))

  -- the text stays inside its buffer
  pub text_room : (l m : List ℕ) (r : ℕ) → length l ≡ 32_768 → r ≡ length (text scope input) → m ≡ sets l 0 (text scope input) → r ≤ length m
  text_room l m r size e s = inside_buffer (text scope input) l m r (text_fits l (omega arith)) e s

  -- ---- an input that is no area

  wrong_size : (length input ≡ area_size → ⊥) → text scope input ≡ refusal_line 20 0
  unfolding text reading
  wrong_size h = rw (ne_eqb (length input) area_size h)

long_input : LongInput
long_input scope input h = wrong_size scope (take 4097 input) (λ e. omega (arith, length-take-le 4097 input (omega arith))) ∙ sym (wrong_size scope input (λ e. omega arith))

-- ---- the text in bytes

text_exactly : TextExactly
unfolding lines line ended numbered operand
text_exactly =
    record {
      area = text_read;
      unit = λ input. refl;
      no_unit = unit_none;
      refusal = λ scope input number at h. text_refused scope input h.0 at h.1.1 ∙ rw h.1.0;
      none = refl;
      delete = λ p os. refl;
      update = λ p os. refl;
      add = λ p i os. refl;
    }

-- an argument that is not `3`
other_scope : (n byte : ℕ) → (n ≡ 1 → byte ≡ 51 → ⊥) → scope_of n byte ≡ 1
unfolding scope_of
other_scope n byte other =
    decide (eqb n 1)
    (λ one. rw one (decide (eqb byte 51) (λ three. absurd (other (eqb-true n 1 one) (eqb-true byte 51 three))) (λ three. rw three)))
    (λ one. rw one)

scope_exactly : ScopeExactly
unfolding scope_of
scope_exactly = (refl, other_scope)

pub promise : PrintNodesPromise
promise =
    record {
      text_exactly = text_exactly;
      scope = scope_exactly;
      digits = digits_exactly;
      long_input = long_input;
      reader = node_reader_exactly;
      numbers = numbers_exactly;
      zeros = zeros_exactly;
    }
