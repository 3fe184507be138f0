-- A session of update-properties calls for one node, over a journal that stays unchanged (document 02, M-103).
use Rattle.std.specs.Prelude.{ℕ, ◌+◌, ◌%◌, ◌≤◌, ◌≡◌, true, false, cond, List, [], length}
use Rattle.words.specs.Reading.{Reading, read, refused}
use Rattle.journal.specs.Scope.{valid}
use Rattle.node_area.specs.Head.{head_of}
use Rattle.property_area.specs.Head.{carried_head, state_in}
use Rattle.property_area.specs.Piece.{Property, Piece}
use Rattle.properties.specs.Changes.{Change, properties, up_to}
use Rattle.properties.specs.Filling.{joined}
use Rattle.calls.specs.Buffer.{token, inputs, outputs, input, Found}
use Rattle.calls.specs.Claims.Session.{is_answered, Standing, over, Each}
use Rattle.calls.specs.Claims.NodeSession.{address, area_before, after}

-- 02: "state 0 starts a node, and the first sixteen bytes carry the session on"
abbrev pub start : ℕ → Standing (List ℕ)
start phandle = record { carried = carried_head phandle 0; done = false; areas = [] }

abbrev pub standing : ℕ → List Found → Standing (List ℕ)
standing phandle cs = over after (start phandle) cs

-- An answered call of the session: over the journal, with the carried bytes, in any scope; none is answered after one says done
pub record Continues (j : List ℕ) (st : Standing (List ℕ)) (c : Found) : Type 0 where
  pub unfinished : st.done ≡ false
  pub unchanged : c.journal ≡ j
  pub properties : token c.args ≡ 4
  pub carries : head_of (area_before c) ≡ st.carried

-- any list of calls in which each is refused, for whatever reason, or continues the session
abbrev pub Rule : List ℕ → Standing (List ℕ) → Found → Type 0
Rule j st c = is_answered c ≡ true → Continues j st c

abbrev pub Session : List ℕ → ℕ → List Found → Type 0
Session j phandle cs = Each after (Rule j) (start phandle) cs

-- token 4, two inputs and one output, whole in its argument buffer, with a valid scope and an aligned area inside memory that begins with the carried bytes
pub record WellMade (j : List ℕ) (st : Standing (List ℕ)) (c : Found) : Type 0 where
  pub unchanged : c.journal ≡ j
  pub properties : token c.args ≡ 4
  pub two_inputs : inputs c.args ≡ 2
  pub one_output : outputs c.args ≡ 1
  pub whole : 24 ≤ length c.args
  pub scoped : valid (input c.args 1) ≡ true
  pub aligned : address c % 4096 ≡ 0
  pub inside : address c + 4096 ≤ length c.memory
  pub carries : head_of (area_before c) ≡ st.carried

-- 02: "the properties handed out are the node's changes in journal order up to the state, all of them at the end"
unfoldable pub reported : List Change → Standing (List ℕ) → List Property
reported cs st = cond st.done (properties cs) (up_to (state_in st.carried) cs)

-- 02: "with a value divided between calls counted as its joined bytes"
abbrev pub joined_reading : {R : Type 0} → Reading Piece R → Reading Property R
joined_reading (read ps) = read (joined ps)
joined_reading (refused r at) = refused r at
