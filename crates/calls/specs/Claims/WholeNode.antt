-- What is claimed of every session of update-properties, cited by the contract of `call` (document 02, M-103).
use Rattle.std.specs.Prelude.{ℕ, ◌*◌, ◌-◌, ◌≤◌, ◌<◌, ◌≡◌, true, false, List, length}
use Rattle.words.specs.Numbers.{Bytes}
use Rattle.words.specs.Reading.{read, readings}
use Rattle.journal.specs.Journal.{well_formed}
use Rattle.property_area.specs.Reading.{reading}
use Rattle.properties.specs.Changes.{Change, changes, properties, is_due}
use Rattle.properties.specs.Filling.{weight}
use Rattle.calls.specs.Buffer.{Found}
use Rattle.calls.specs.Claims.Session.{is_answered, Standing, Among}
use Rattle.calls.specs.Claims.NodeSession.{after}
use Rattle.calls.specs.Claims.PropertySession.{start, standing, Session, WellMade, reported, joined_reading}

pub record Accounted (j : List ℕ) (cs : List Change) (st : Standing (List ℕ)) : Type 0 where
  -- "the properties handed out are the node's changes in journal order up to the state, all of them at the end, with a value divided between calls counted as
  -- its joined bytes"
  pub handed : joined_reading (readings reading st.areas) ≡ read (reported cs st)
  -- with B the sum of name + 5 + value bytes over the changes and n answered calls, 4,040 x (n - 1) < B
  pub bounded : 4040 * (length st.areas - 1) < weight (properties cs)
  -- until status 0 no well-made call that carries the sixteen bytes is refused
  pub answers : st.done ≡ false → (c : Found) → WellMade j st c → is_answered c ≡ true

-- "a session ends": once 4,040 times the number of calls that are well made when they come is at least B
abbrev pub Ends : List ℕ → ℕ → List Change → List Found → Type 0
Ends j phandle cs calls = (n : ℕ) → Among after (WellMade j) (start phandle) calls n → weight (properties cs) ≤ 4040 * n → (standing phandle calls).done ≡ true

-- of every well-formed journal and every phandle that a record of kind 5 or 6 carries
abbrev pub WholeNode : Type 0
WholeNode = (j : List ℕ) (phandle : ℕ) → Bytes j → phandle < 0x1_0000_0000 → well_formed j ≡ true → is_due (changes phandle j) ≡ true → (calls : List Found)
    → Session j phandle calls
    → let cs = changes phandle j in Accounted j cs (standing phandle calls) × Ends j phandle cs calls
