-- Reading the words of operations gives the operations back.
use mathlib.Core.Path.{◌≡◌, refl, sym, ap, ◌∙◌}
use mathlib.Core.Bool.{Bool, true, false, ◌&&◌}
use mathlib.Core.List.{List, [], ◌∷◌, ◌++◌, append_assoc, append-nil}
use Prim.Native.Nat.{ℕ, suc, ◌+◌, ◌*◌, ◌-◌, ◌%◌, ◌≤◌, ◌<◌}
use native.Mathlib.Omega.{arith}
use lib.Arith.{digits_div, digits_mod}
use lib.Dec.{eqb}
use lib.ListN.{length, length-append}
use lib.Seq.{drop-append_seam}
use borrow.Author.Tests.{le-leb, le-ltb, ne_eqb, eqb-true, eqb-false}
use Rattle.journal.specs.declared.operation.Operation.{Operation}
use Rattle.journal.specs.declared.operation.Operation.TheVariants.{Delete, Update, Add}
use Rattle.journal.specs.Journal.{IsOpcode, opcode, operands}
use Rattle.journal.proofs.Opcodes.{code_1, code_2, code_3}
use Rattle.std.specs.Prelude.{Ok}
use Rattle.nodes.specs.Run.{area_words, cost}
use Rattle.nodes.specs.Claims.Longest.{AllOf}
use Rattle.nodes.specs.Area.{part, body}
use Rattle.nodes.specs.Inner.Terms.{words_of}
use Rattle.node_area.specs.Reading.{opcode_in, count_in, fault_of, good, verdict, operations_at}
use Rattle.nodes.specs.Claims.Nodes.{Sorted, operators_at, Filled}
use Rattle.nodes.proofs.Runs.{length_part, length_body}
use Rattle.nodes.proofs.Cut.{words_two, body_split}
use Rattle.node_area.proofs.Verdicts.{last_filled, operations_end, operations_more, operations_single, operations_pair, verdict_end, verdict_fine}

-- ---- a list sorted by opcode is its deletes, then its updates, then its additions

pub sorted_lower : (b c : ℕ) (os : List Operation) → b ≤ c → Sorted c os → Sorted b os
sorted_lower b c [] h s = tt
sorted_lower b c (o ∷ os) h s = (omega (arith, s.0), s.1)

opcode_some : (o : Operation) → (1 ≤ opcode o) × (opcode o ≤ 3)
opcode_some (Delete p) = (omega arith, omega arith)
opcode_some (Update p) = (omega arith, omega arith)
opcode_some (Add p i) = (omega arith, omega arith)

-- the operations of the lowest opcode, and the others
record Apart (code : ℕ) (os : List Operation) : Type 0 where
  these : List Operation
  others : List Operation
  code_is : AllOf code these
  later : Sorted (suc code) others
  joined : os ≡ these ++ others

apart : (code : ℕ) (os : List Operation) → Sorted code os → Apart code os
apart code [] s = record { these = []; others = []; code_is = tt; later = tt; joined = refl }
apart code (o ∷ os) s = go (eqb (opcode o) code) refl (apart code os (sorted_lower code (opcode o) os s.0 s.1))
  where
    go : (t : Bool) → eqb (opcode o) code ≡ t → Apart code os → Apart code (o ∷ os)
    go true e r =
        record { these = o ∷ r.these; others = r.others; code_is = (eqb-true (opcode o) code e, r.code_is); later = r.later; joined = ap (λ (l : List Operation). o ∷ l) r.joined }
    go false e r =
        let n : (opcode o ≡ code → ⊥) = eqb-false (opcode o) code e in
        record { these = []; others = o ∷ os; code_is = tt; later = (omega (arith, s.0), s.1); joined = refl }

none_above : (os : List Operation) → Sorted 4 os → os ≡ []
none_above [] s = refl
none_above (o ∷ os) s = absurd (omega (arith, s.0, opcode_some o))

from_one : (os : List Operation) → Sorted 0 os → Sorted 1 os
from_one [] s = tt
from_one (o ∷ os) s = ((opcode_some o).0, s.1)

-- ---- the operations that operand words hold

operation_first : (o : Operation) (code : ℕ) (ws : List ℕ) (n : ℕ) → opcode o ≡ code → operations_at (operands o ++ ws) code (length (operands o) + n) ≡ o ∷ operations_at ws code n
operation_first (Delete p) code ws n e = let m : 1 + n - 1 ≡ n = omega arith in rw (← e, operations_single 1 p ws (1 + n) (λ q. omega arith) (omega arith), m)
operation_first (Update p) code ws n e = let m : 1 + n - 1 ≡ n = omega arith in rw (← e, operations_single 2 p ws (1 + n) (λ q. omega arith) (omega arith), m)
operation_first (Add p i) code ws n e = let m : 2 + n - 1 - 1 ≡ n = omega arith in rw (← e, operations_pair 3 p i ws (2 + n) refl (omega arith), m)

operations_of_lem : (code : ℕ) (os : List Operation) (ws : List ℕ) → AllOf code os → operations_at (words_of os ++ ws) code (length (words_of os)) ≡ os ++ operations_at ws code 0
unfolding words_of
operations_of_lem code [] ws c = refl
operations_of_lem code (o ∷ os) ws c =
    rw (append_assoc (operands o) (words_of os) ws, length-append (operands o) (words_of os))
    (operation_first o code (words_of os ++ ws) (length (words_of os)) c.0 ∙ ap (λ (l : List Operation). o ∷ l) (operations_of_lem code os ws c.1))

even_additions : (code : ℕ) (os : List Operation) → AllOf code os → (eqb code 3 && eqb (length (words_of os) % 2) 1) ≡ false
even_additions code os c = go (eqb code 3) refl
  where
    go : (t : Bool) → eqb code 3 ≡ t → (t && eqb (length (words_of os) % 2) 1) ≡ false
    go false e = refl
    go true e = ne_eqb (length (words_of os) % 2) 1 (λ q. omega (arith, words_two os (rw (eqb-true code 3 e) at c)))

-- ---- reading parts

-- behind an opcode that is not higher, and at any offset, the words are good and hold the operations, and no operator among them is empty
abbrev Reads : ℕ → List ℕ → List Operation → Type 0
Reads code ws os = (at last : ℕ) → last ≤ code → (verdict 0 at last ws ≡ good) × (operations_at ws last 0 ≡ os) × Filled (operators_at 0 ws)

-- behind operands, and at an operator that has some
operators_passed : (vs ws : List ℕ) → operators_at (length vs) (vs ++ ws) ≡ operators_at 0 ws
unfolding operators_at
operators_passed [] ws = refl
operators_passed (v ∷ vs) ws = operators_passed vs ws

filled_more : (w : ℕ) (vs ws : List ℕ) → count_in w ≡ length vs → 0 < length vs → Filled (operators_at 0 ws) → Filled (operators_at 0 (w ∷ (vs ++ ws)))
unfolding operators_at
filled_more w vs ws c some f = rw (ne_eqb w 0 (λ e. omega arith), c, operators_passed vs ws) (omega arith, f)

-- operand words of an opcode, which hold operations
record Operands (code : ℕ) (vs : List ℕ) (os : List Operation) : Type 0 where
  low : 1 ≤ code
  high : code ≤ 3
  short : length vs < 0x0100_0000
  even : (eqb code 3 && eqb (length vs % 2) 1) ≡ false
  holds : (ws : List ℕ) → operations_at (vs ++ ws) code (length vs) ≡ os ++ operations_at ws code 0

no_fault : (code : ℕ) (vs : List ℕ) (os : List Operation) (word last left : ℕ) → Operands code vs os
    → opcode_in word ≡ code → count_in word ≡ length vs → 0 < length vs → last ≤ code → length vs ≤ left → fault_of word last left ≡ Ok (tt {0})
unfolding fault_of
no_fault code vs os word last left p q c some order fits =
    rw (q, c) (simp (ne_eqb (length vs) 0 (λ e. omega arith), le-leb 1 code p.low, le-leb code 3 p.high, p.even, le-ltb code last order, le-ltb left (length vs) fits))

reads_part : (code : ℕ) (vs ws : List ℕ) (os ps : List Operation) → Operands code vs os → Reads code ws ps → Reads code (part code vs ++ ws) (os ++ ps)
reads_part code [] ws os ps p r at last h =
    let here = (r at code (omega arith)).1 in
    ((r at last h).0, (r at last h).1 ∙ sym here ∙ p.holds ws ∙ ap (λ (l : List Operation). os ++ l) here, (r at last h).2)
reads_part code (v ∷ vs) ws os ps p r at last h =
    let n = length (v ∷ vs) in
    let w = code * 0x0100_0000 + n in
    let q : opcode_in w ≡ code = digits_div code p.short in
    let c : count_in w ≡ n = digits_mod code p.short in
    let some : (w ≡ 0 → ⊥) = λ e. omega arith in
    let fine : fault_of w last (length ((v ∷ vs) ++ ws)) ≡ Ok (tt {0}) = no_fault code (v ∷ vs) os w last _ p q c (omega arith) h (omega (arith, length-append vs ws)) in
    let behind = r (at + 4 + 4 * n) code (omega arith) in (
      verdict_fine w at last ((v ∷ vs) ++ ws) some fine ∙ rw (last_filled last w (omega arith), q, c, drop-append_seam (v ∷ vs) ws) behind.0,
      operations_more last w ((v ∷ vs) ++ ws) some ∙ rw (q, c, p.holds ws, behind.1),
      filled_more w (v ∷ vs) ws c (omega arith) behind.2,
    )

reads_lower : (b c : ℕ) (ws : List ℕ) (os : List Operation) → b ≤ c → Reads c ws os → Reads b ws os
reads_lower b c ws os l r at last h = r at last (omega arith)

reads_end : (code : ℕ) (ws : List ℕ) → Reads code (0 ∷ ws) []
unfolding operators_at
reads_end code ws at last h = (verdict_end 0 at last ws refl, operations_end last 0 ws refl, tt)

words_operands : (code : ℕ) (os : List Operation) → IsOpcode code → length (words_of os) < 0x0100_0000 → AllOf code os → Operands code (words_of os) os
words_operands code os o short c =
    record { low = o.low; high = o.high; short = short; even = even_additions code os c; holds = λ ws. operations_of_lem code os ws c }

parts_read : (ds us adds : List Operation) (ws : List ℕ) → AllOf 1 ds → AllOf 2 us → AllOf 3 adds
    → cost (ds ++ (us ++ adds)) ≤ area_words → Reads 0 (body (ds ++ (us ++ adds)) ++ (0 ∷ ws)) (ds ++ (us ++ adds))
parts_read ds us adds ws cd cu ca short =
    let split = body_split ds us adds cd cu ca in
    let size = simp (length-append, length_part) at (sym (length_body (ds ++ (us ++ adds))) ∙ ap length split) in
    let three = reads_part 3 (words_of adds) (0 ∷ ws) adds [] (words_operands 3 adds code_3 (omega arith) ca) (reads_end 3 ws) in
    let two = reads_part 2 (words_of us) _ us _ (words_operands 2 us code_2 (omega arith) cu) (reads_lower 2 3 _ _ (omega arith) three) in
    let one = reads_part 1 (words_of ds) _ ds _ (words_operands 1 ds code_1 (omega arith) cd) (reads_lower 1 2 _ _ (omega arith) two) in
    rw split (simp append_assoc (simp append-nil at (reads_lower 0 1 _ _ (omega arith) one)))

-- the words of a sorted list, and a zero after them, hold the list
pub body_reads : (os : List Operation) (ws : List ℕ) → Sorted 0 os → cost os ≤ area_words → Reads 0 (body os ++ (0 ∷ ws)) os
body_reads os ws s short =
    let d = apart 1 os (from_one os s) in
    let u = apart 2 d.others d.later in
    let a = apart 3 u.others u.later in
    let adds : u.others ≡ a.these = a.joined ∙ rw (none_above a.others a.later) (append-nil a.these) in
    let whole : os ≡ d.these ++ (u.these ++ a.these) = d.joined ∙ ap (λ (l : List Operation). d.these ++ l) (u.joined ∙ ap (λ (l : List Operation). u.these ++ l) adds) in
    rw whole (parts_read d.these u.these a.these ws d.code_is u.code_is a.code_is (rw whole at short))
