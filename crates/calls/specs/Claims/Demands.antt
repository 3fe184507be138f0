-- What is claimed of every call and of every session of update-nodes, cited by the contract of `call`.
use Rattle.std.specs.Prelude.{ℕ, ◌+◌, ◌*◌, ◌-◌, ◌≤◌, ◌<◌, ◌≡◌, true, false, List, ◌⊎◌, length, take, get_or}
use Rattle.std.proofs.lemmas.List.Edits.{sets}
use Rattle.words.specs.Claims.Exactly.{Outside}
use Rattle.words.specs.Numbers.{Bytes, be32, be_bytes}
use Rattle.journal.specs.Journal.{well_formed}
use Rattle.journal.specs.Scope.{valid, selection_of}
use Rattle.journal.specs.Reportable.{reportable, operand_words}
use Rattle.words.specs.Reading.{read, readings}
use Rattle.node_area.specs.Reading.{reading}
use Rattle.journal.specs.declared.operation.Operation.{Operation}
use Rattle.calls.specs.Status.{number_of}
use Rattle.calls.specs.Buffer.{Found, Left, call_of}
use Rattle.calls.specs.Claims.Terms.{minus, HasStatus, Refused, Asks, status_of, naming}
use Rattle.calls.specs.Claims.ExactNodes.{ExactNodes}
use Rattle.calls.specs.Claims.ExactIndices.{ExactIndices}
use Rattle.calls.specs.Claims.ExactDump.{ExactDump}
use Rattle.calls.specs.Claims.ExactProperties.{ExactProperties}
use Rattle.calls.specs.Claims.Session.{is_answered, Standing, Among}
use Rattle.calls.specs.Claims.NodeSession.{start, after, standing, Session, WellMade, reported}

-- A call finds f: an argument buffer, memory, a journal, an inventory with its edition, a registration and a reading record. It leaves x.

-- ---- demand 1: "A refused call gives the status or refusal number .. a status is written in its word, and nothing else changes.
-- No byte outside the output words and the named work area is written." 02, M-105: "demand 1 reads the record beside the work area, and that
-- clearing as its one exception".

-- a get-indices call that gives -4
abbrev pub Cleared : List ℕ → Left → Type 0
Cleared b x = HasStatus x × Asks 2 5 2 b × (status_of b x ≡ minus 4)

pub record Confined (f : Found) (x : Left) : Type 0 where
  pub no_status : (HasStatus x → ⊥) → x.args ≡ f.args
  pub refused_args : Refused f.args x → (k : ℕ) → Outside (12 + 4 * be32 f.args 4) 4 k → get_or x.args k 0 ≡ get_or f.args k 0
  pub refused_memory : Refused f.args x → x.memory ≡ f.memory
  pub refused_registration : Refused f.args x → x.registration ≡ f.registration
  pub refused_reading : Refused f.args x → (Cleared f.args x → ⊥) → x.reading ≡ f.reading
  pub other_reading : (Asks 2 5 2 f.args → ⊥) → x.reading ≡ f.reading
  pub cleared_reading : Cleared f.args x → x.reading ≡ naming 0 0 1 0
  pub outside_outputs : (k : ℕ) → Outside (12 + 4 * be32 f.args 4) (4 * be32 f.args 8) k → get_or x.args k 0 ≡ get_or f.args k 0
  pub outside_area : (k : ℕ) → (Asks 1 2 1 f.args → Outside (be32 f.args 12) 4096 k)
      → (Asks 2 5 2 f.args → Outside (be32 f.args 20) (be32 f.args 24) k)
      → (Asks 4 2 1 f.args → Outside (be32 f.args 12) 4096 k)
      → get_or x.memory k 0 ≡ get_or f.memory k 0
  pub args_length : length x.args ≡ length f.args
  pub memory_length : length x.memory ≡ length f.memory

abbrev pub Demand1 : Type 0
Demand1 = (f : Found) → Confined f (call_of f)

-- ---- demand 2: "each status is given exactly when document 01 says so. Reading what was written gives back the same entries."

-- 01: "The 12-byte test comes first, then 12, then the declared size, then 11."
pub record Numbered (b : List ℕ) (inputs outputs number : ℕ) : Type 0 where
  pub no_head : length b < 12 → number ≡ 10
  pub too_many : 12 ≤ length b → (16 < inputs) ⊎ (16 < outputs) → number ≡ 12
  pub cut_off : 12 ≤ length b → inputs ≤ 16 → outputs ≤ 16 → length b < 12 + 4 * (inputs + outputs) → number ≡ 10
  pub no_outputs : inputs ≤ 16 → 12 + 4 * (inputs + outputs) ≤ length b → outputs ≡ 0 → number ≡ 11
  pub given : inputs ≤ 16 → outputs ≤ 16 → 12 + 4 * (inputs + outputs) ≤ length b → 1 ≤ outputs → number ≡ 0

-- 01: "an unknown token or counts unlike the call's own give status -3", and nothing else changes
pub record Unknown (f : Found) (x : Left) : Type 0 where
  pub args : x.args ≡ sets f.args (12 + 4 * be32 f.args 4) (be_bytes 4 (minus 3))
  pub memory : x.memory ≡ f.memory
  pub registration : x.registration ≡ f.registration
  pub reading : x.reading ≡ f.reading

-- What a call leaves where a status is in the buffer: token and counts choose the call, whose own rules decide.
pub record ByToken (f : Found) (x : Left) : Type 0 where
  -- "Inputs: address, scope. One output."
  pub nodes : Asks 1 2 1 f.args →
      let b = f.args in
      ExactNodes f.memory f.journal (be32 b 12) (be32 b 16) (status_of b x) x.memory × (x.registration ≡ f.registration)
  -- "Inputs: indicator (0) or sensor (1), type, address, size, Starting Number. Outputs: status, Next Starting Number."
  pub indices : Asks 2 5 2 f.args →
      let b = f.args in
      ExactIndices f.memory f.inventory f.edition.0 f.reading (be32 b 12) (be32 b 16) (be32 b 20) (be32 b 24) (be32 b 28)
      (status_of b x) (be32 x.args 36) x.memory x.reading
      × (x.registration ≡ f.registration)
  -- "Inputs: command, address, length."
  pub dump : Asks 3 3 1 f.args →
      let b = f.args in
      ExactDump f.memory (be32 b 12) (be32 b 16) (be32 b 20) (status_of b x) f.registration x.registration × (x.memory ≡ f.memory)
  -- 02, M-103, token 4: inputs address and scope, one output
  pub properties : Asks 4 2 1 f.args →
      let b = f.args in
      ExactProperties f.memory f.journal (be32 b 12) (be32 b 16) (status_of b x) x.memory × (x.registration ≡ f.registration)
  pub other : (Asks 1 2 1 f.args → ⊥) → (Asks 2 5 2 f.args → ⊥) → (Asks 3 3 1 f.args → ⊥) → (Asks 4 2 1 f.args → ⊥) → Unknown f x

pub record Demand2 : Type 0 where
  pub numbers : (f : Found) → Numbered f.args (be32 f.args 4) (be32 f.args 8) (number_of (call_of f).number)
  pub statuses : (f : Found) → HasStatus (call_of f) → ByToken f (call_of f)

-- ---- demand 3: "After every such list the answered calls' areas, read by document 01's rules, hold, in order, exactly the first k of that
-- document's reportable list for the journal and scope, deletions first, each once." 02, M-100: "one scope and, in scope 3, one unit and that start".

-- "If the operands of all reportable operations fill W words and n calls were answered, 1015 x (n - 1) < W, or n is at most 1 when W is zero."
abbrev pub Bounded : ℕ → ℕ → Type 0
Bounded W n = (0 < W → 1015 * (n - 1) < W) × (W ≡ 0 → n ≤ 1)

pub record Accounted (j : List ℕ) (scope : ℕ) (os : List Operation) (st : Standing (List ℕ)) : Type 0 where
  pub handed : readings (reading scope) st.areas ≡ read (take (reported os st) os)
  pub bounded : Bounded (operand_words os) (length st.areas)
  -- "Until one says done, no well-made call that carries those sixteen bytes is refused"
  pub answers : st.done ≡ false → (c : Found) → WellMade j scope st c → is_answered c ≡ true

-- "so the session ends": n calls that are well made when they come suffice where 1015 x n is above W
abbrev pub Ends : List ℕ → ℕ → ℕ → List Operation → List Found → Type 0
Ends j scope unit os cs = (n : ℕ) → Among after (WellMade j scope) (start scope unit) cs n → operand_words os < 1015 * n → (standing scope unit cs).done ≡ true

abbrev pub Demand3 : Type 0
Demand3 = (j : List ℕ) (scope unit : ℕ) → Bytes j → unit < 0x1_0000_0000_0000_0000 → well_formed j ≡ true → valid scope ≡ true → (cs : List Found)
    → Session j scope unit cs
    → let os = reportable (selection_of scope unit) j in Accounted j scope os (standing scope unit cs) × Ends j scope unit os cs
