-- Events: calls of every kind and edits of the inventory, and how they leave a partition's reading (document 02, M-105).
use Rattle.std.specs.Prelude.{ℕ, ◌+◌, cond, ◌&&◌, List, [], ◌∷◌, ◌++◌, eqb, Option, None, Some}
use Rattle.words.specs.Numbers.{Bytes}
use Rattle.inventory.specs.declared.edition.Edition.{Edition}
use Rattle.inventory.specs.Edition.{edit_of}
use Rattle.dump.specs.declared.registration.Registration.{Registration}
use Rattle.calls.specs.Claims.Terms.{naming}
use Rattle.calls.specs.declared.reading_record.ReadingRecord.{ReadingRecord}
use Rattle.calls.specs.Buffer.{input, is_indices, Found, found, call_of}
use Rattle.calls.specs.Claims.Session.{is_answered, over, Each}
use Rattle.calls.specs.Claims.IndexSession.{area_then}

-- what a call brings with it; it finds the inventory, the edition and the record that stand when it comes
pub record Call : Type 0 where
  pub args : List ℕ
  pub memory : List ℕ
  pub journal : List ℕ
  pub registration : Registration

pub data Event : Type 0 where
  calls : Call → Event
  edits : List ℕ → Event

-- The reading that the last answered Starting Number 1 call began: the inventory and edition that it found, what it asked for, the areas that the
-- answered get-indices calls left since, its own included, and how many edits were taken since. Before any reading began these are what stood at the
-- start, and no area.
pub record Begun : Type 0 where
  pub inventory : List ℕ
  pub edition : Edition
  pub flag : ℕ
  pub type : ℕ
  pub areas : List (List ℕ)
  pub edits : ℕ

-- What stands after some events: the inventory with its edition, the record that the last call left, and the reading that was last begun.
pub record Standing : Type 0 where
  pub inventory : List ℕ
  pub edition : Edition
  pub reading : ReadingRecord
  pub begun : Begun

-- "From no reading in progress"
abbrev pub start : List ℕ → Edition → Standing
start i e = record {
  inventory = i;
  edition = e;
  reading = naming 0 0 1 0;
  begun = record { inventory = i; edition = e; flag = 0; type = 0; areas = []; edits = 0 };
}

abbrev pub found_by : Standing → Call → Found
found_by st c = found c.args c.memory c.journal st.inventory st.edition c.registration st.reading

-- an answered get-indices call begins a reading where its Starting Number is 1, and otherwise adds its area
unfoldable pub begun_after : Begun → Found → Begun
begun_after b f =
    let fresh : Begun = record {
      inventory = f.inventory;
      edition = f.edition;
      flag = input f.args 0;
      type = input f.args 1;
      areas = area_then f ∷ [];
      edits = 0;
    } in
    let more : Begun = record {
      inventory = b.inventory;
      edition = b.edition;
      flag = b.flag;
      type = b.type;
      areas = b.areas ++ (area_then f ∷ []);
      edits = b.edits;
    } in
    cond (is_indices f.args && is_answered f) (cond (eqb (input f.args 4) 1) fresh more) b

abbrev pub after_call : Standing → Call → Standing
after_call st c = record {
  inventory = st.inventory;
  edition = st.edition;
  reading = (call_of (found_by st c)).reading;
  begun = begun_after st.begun (found_by st c);
}

-- one more edit
abbrev pub edited : Begun → Begun
edited b = record { inventory = b.inventory; edition = b.edition; flag = b.flag; type = b.type; areas = b.areas; edits = b.edits + 1 }

-- an edit that is taken, to any inventory, and one that is not
abbrev pub after_edit : Standing → List ℕ → Option Edition → Standing
after_edit st i (Some e) = record { inventory = i; edition = e; reading = st.reading; begun = edited st.begun }
after_edit st i None = st

abbrev pub after_event : Standing → Event → Standing
after_event st (calls c) = after_call st c
after_event st (edits i) = after_edit st i (edit_of st.edition)

abbrev pub standing : List ℕ → Edition → List Event → Standing
standing i e events = over after_event (start i e) events

-- every inventory consists of bytes
abbrev pub OfBytes : Event → Type 0
OfBytes (calls c) = Unit {0}
OfBytes (edits i) = Bytes i

abbrev pub AllBytes : List ℕ → Edition → List Event → Type 0
AllBytes i e events = Bytes i × Each after_event (λ (_ : Standing) (x : Event). OfBytes x) (start i e) events
