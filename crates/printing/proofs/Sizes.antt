-- How long texts are, and that what fits its buffer stays inside.
use mathlib.Core.Path.{◌≡◌, refl}
use mathlib.Core.List.{List, [], ◌∷◌}
use Prim.Native.Nat.{ℕ, zero, suc, ◌+◌, ◌/◌, ◌%◌, ◌≤◌}
use native.Mathlib.Omega.{arith}
use lib.Dec.{ltb}
use lib.ListN.{length, length-append}
use lib.Seq.{sets, length-sets}
use Rattle.words.proofs.Choice.{choose}
use Rattle.printing.specs.Text.{digits, decimal, hex_digits, newline, refused-, -at-, numbered, ended, operand, refusal_line}

length_digits : (n v : ℕ) → length (digits n v) ≤ n
unfolding digits
length_digits zero v = omega arith
length_digits (suc n) v =
    choose (ltb v 10) (λ (s : List ℕ). length s ≤ suc n) (λ _. omega arith) (λ _. omega (arith, length_digits n (v / 10), length-append (digits n (v / 10)) ((48 + v % 10) ∷ [])))

pub length_hex_digits : (n v : ℕ) → length (hex_digits n v) ≡ n
unfolding hex_digits
length_hex_digits zero v = refl
length_hex_digits (suc n) v = rw (length-append, length_hex_digits n (v / 16)) (omega arith)

pub length-numbered : (word : List ℕ) (v : ℕ) → length (numbered word v) ≤ length word + 20
unfolding numbered decimal
length-numbered word v = omega (arith, length-append word (digits 20 v), length_digits 20 v)

pub length_ended : (word : List ℕ) (v : ℕ) → length (ended word v) ≤ length word + 21
unfolding ended
length_ended word v = omega (arith, length-append (numbered word v) newline, length-numbered word v)

pub length_operand : (word : List ℕ) (v : ℕ) → length (operand word v) ≡ length word + 8
unfolding operand
length_operand word v = rw (length-append, length_hex_digits 8 v)

pub length_refusal : (n at : ℕ) → length (refusal_line n at) ≤ 53
length_refusal n at = omega (arith, length-append (numbered refused- n) (ended -at- at), length-numbered refused- n, length_ended -at- at)

-- a text that fits stays inside its buffer
pub inside_buffer : (t l m : List ℕ) (r : ℕ) → length t ≤ length l → r ≡ length t → m ≡ sets l 0 t → r ≤ length m
inside_buffer t l m r fits e s = rw (s, length-sets l 0 t) (omega arith)
