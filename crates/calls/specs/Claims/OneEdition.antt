-- What is claimed of a partition's readings while the inventory is edited, cited by the contract of `call` (document 02, M-105).
use Rattle.std.specs.Prelude.{ℕ, ◌-◌, ◌≤◌, ◌<◌, ◌≡◌, true, List, length, take}
use Rattle.words.specs.Numbers.{Bytes}
use Rattle.words.specs.Reading.{read, readings}
use Rattle.inventory.specs.declared.edition.Edition.{Edition}
use Rattle.inventory.specs.Inventory.{well_formed}
use Rattle.inventory.specs.Listing.{Entry, listed}
use Rattle.indices.specs.Reading.{reading}
use Rattle.calls.specs.declared.reading_record.ReadingRecord.{ReadingRecord}
use Rattle.calls.specs.GetIndices.{askable}
use Rattle.calls.specs.Buffer.{input, Found, call_of}
use Rattle.calls.specs.Claims.Terms.{minus, HasStatus, Asks, status_of, naming}
use Rattle.calls.specs.Claims.Session.{is_answered}
use Rattle.calls.specs.Claims.IndexSession.{Made}
use Rattle.calls.specs.Claims.Events.{Call, Event, Begun, Standing, found_by, begun_after, standing, AllBytes}

-- the list that a reading is of: its flag and type in the inventory that it began over
abbrev pub list_of : Begun → List Entry
list_of b = listed b.flag b.type b.inventory

-- "an unfinished reading names the first entry not yet handed out"
pub record InProgress (r : ReadingRecord) (b : Begun) : Type 0 where
  pub of_flag : r.flag ≡ b.flag
  pub of_type : r.item_type ≡ b.type
  pub of_edition : r.edition ≡ b.edition
  pub begun : 1 < r.number.0
  pub due : r.number.0 ≤ length (list_of b)
  pub handed : readings reading b.areas ≡ read (take (r.number.0 - 1) (list_of b))

-- a get-indices call gives this status
abbrev pub Gives : ℕ → Found → Type 0
Gives status f = HasStatus (call_of f) × Asks 2 5 2 f.args × (status_of f.args (call_of f) ≡ status)

-- "a reading that ends in 0 without -4 between handed out one edition's whole list, once": of the flag and type that the last call asks for, in the
-- inventory and edition that it finds
pub record Ended (f : Found) (b : Begun) : Type 0 where
  pub of_flag : b.flag ≡ input f.args 0
  pub of_type : b.type ≡ input f.args 1
  pub of_edition : b.edition ≡ f.edition
  pub of_inventory : b.inventory ≡ f.inventory
  pub handed : readings reading b.areas ≡ read (list_of b)

pub record Accounted (st : Standing) : Type 0 where
  pub in_progress_claim : (st.reading ≡ naming 0 0 1 0 → ⊥) → InProgress st.reading st.begun
  pub ended : (c : Call) → let f = found_by st c in Gives 0 f → Ended f (begun_after st.begun f)
  -- while the edition is the one that the reading began over, so is the inventory
  pub one_inventory : st.edition ≡ st.begun.edition → st.inventory ≡ st.begun.inventory
  -- a reading during which nothing is edited is never given -4
  pub undisturbed : st.begun.edits ≡ 0 → (c : Call) → Gives (minus 4) (found_by st c) → ⊥

-- over any list of calls and edits, from any inventory and edition and no reading in progress
abbrev pub OneEdition : Type 0
OneEdition = (i : List ℕ) (e : Edition) (events : List Event) → AllBytes i e events → Accounted (standing i e events)

-- Whatever the record holds, also after -4, a call with Starting Number 1 begins afresh: for a type that may be asked for and of which there is an
-- entry, with an area of 1,036 bytes or more below 4 GiB and inside memory, it is answered.
abbrev pub BeginsAfresh : Type 0
BeginsAfresh = (flag type : ℕ) (f : Found) → Bytes f.inventory → well_formed f.inventory ≡ true → askable flag type ≡ true
    → 1 ≤ length (listed flag type f.inventory) → Made flag type 1 f
    → is_answered f ≡ true
