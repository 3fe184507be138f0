-- A session of update-nodes calls over a journal that stays unchanged (demand 3).
use Rattle.std.specs.Prelude.{ℕ, ◌+◌, ◌%◌, ◌≤◌, ◌≡◌, true, false, cond, List, [], length}
use Rattle.journal.specs.declared.operation.Operation.{Operation}
use Rattle.journal.specs.Scope.{units_of}
use Rattle.node_area.specs.Head.{head_of, carried_head, state_in}
use Rattle.calls.specs.UpdateNodes.{area_at}
use Rattle.calls.specs.Buffer.{token, inputs, outputs, input, Found, call_of}
use Rattle.calls.specs.Claims.Session.{is_answered, Standing, after_call, over, Each}

abbrev pub address : Found → ℕ
address c = input c.args 0

abbrev pub area_before : Found → List ℕ
area_before c = area_at c.memory (address c)

-- 01: "Each answered call's area is read as it stands when that call returns"
abbrev pub area_then : Found → List ℕ
area_then c = area_at (call_of c).memory (address c)

-- "The first answered one finds sixteen zero bytes at the head of its work area"; 02, M-100: "in scope 3, one unit and that start"
abbrev pub start : ℕ → ℕ → Standing (List ℕ)
start scope unit = record { carried = carried_head (units_of scope unit) 0; done = false; areas = [] }

-- "each later one the first sixteen that the answered call before it left"
abbrev pub carried_then : Found → List ℕ
carried_then c = head_of (area_then c)

abbrev pub after : Standing (List ℕ) → Found → Standing (List ℕ)
after st c = after_call carried_then area_then st c

abbrev pub standing : ℕ → ℕ → List Found → Standing (List ℕ)
standing scope unit cs = over after (start scope unit) cs

-- An answered call of the session: over the journal, of the scope, with the carried bytes; "none is answered after one says done"
pub record Continues (j : List ℕ) (scope : ℕ) (st : Standing (List ℕ)) (c : Found) : Type 0 where
  pub unfinished : st.done ≡ false
  pub unchanged : c.journal ≡ j
  pub nodes : token c.args ≡ 1
  pub of_scope : input c.args 1 ≡ scope
  pub carries : head_of (area_before c) ≡ st.carried

-- "any list of calls .. in which each is refused, for whatever reason, or is an answered update-nodes call of that scope"
abbrev pub Rule : List ℕ → ℕ → Standing (List ℕ) → Found → Type 0
Rule j scope st c = is_answered c ≡ true → Continues j scope st c

abbrev pub Session : List ℕ → ℕ → ℕ → List Found → Type 0
Session j scope unit cs = Each after (Rule j scope) (start scope unit) cs

-- 01: "A well-made call has token 1, two inputs and one output, whole in its argument buffer, with the scope and an aligned area inside memory that
-- begins with the carried bytes"
pub record WellMade (j : List ℕ) (scope : ℕ) (st : Standing (List ℕ)) (c : Found) : Type 0 where
  pub unchanged : c.journal ≡ j
  pub nodes : token c.args ≡ 1
  pub two_inputs : inputs c.args ≡ 2
  pub one_output : outputs c.args ≡ 1
  pub whole : 24 ≤ length c.args
  pub of_scope : input c.args 1 ≡ scope
  pub aligned : address c % 4096 ≡ 0
  pub inside : address c + 4096 ≤ length c.memory
  pub carries : head_of (area_before c) ≡ st.carried

-- "Here k is zero before any answer, then the state last returned, and the number of all once a call says done."
unfoldable pub reported : List Operation → Standing (List ℕ) → ℕ
reported os st = cond st.done (length os) (state_in st.carried)
