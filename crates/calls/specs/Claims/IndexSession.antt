-- A session of get-indices calls over an inventory and edition that stay unchanged (document 01, "get-indices"; document 02, M-105).
use Rattle.std.specs.Prelude.{ℕ, ◌+◌, ◌-◌, ◌≤◌, ◌≡◌, true, false, cond, List, [], length}
use Rattle.words.specs.Numbers.{be32}
use Rattle.inventory.specs.Listing.{Entry}
use Rattle.calls.specs.Claims.Terms.{naming}
use Rattle.calls.specs.declared.reading_record.ReadingRecord.{ReadingRecord}
use Rattle.calls.specs.Lent.{part_at}
use Rattle.calls.specs.Buffer.{token, inputs, outputs, input, status_at, Found, call_of}
use Rattle.calls.specs.Claims.Session.{is_answered, Standing, after_call, over, Each}

-- the area as it stands when the call returns: the given size from the given address
abbrev pub area_then : Found → List ℕ
area_then c = part_at (call_of c).memory (input c.args 2) (input c.args 3)

-- 01: "each followed by its Next Starting Number"
abbrev pub number_then : Found → ℕ
number_then c = be32 (call_of c).args (status_at c.args + 4)

-- Where a session of this kind stands: as any session, with the number that comes next, and with the record that the last call left.
pub record Held : Type 0 where
  pub session : Standing ℕ
  pub reading : ReadingRecord

-- 01: "the answered calls from Starting Number 1"; 02: "From no reading in progress"
abbrev pub begun : Standing ℕ
begun = record { carried = 1; done = false; areas = [] }

abbrev pub start : Held
start = record { session = begun; reading = naming 0 0 1 0 }

abbrev pub after : Held → Found → Held
after h c = record { session = after_call number_then area_then h.session c; reading = (call_of c).reading }

abbrev pub standing : List Found → Held
standing cs = over after start cs

-- every call finds the inventory and the edition unchanged, and the record as the call before it left it
pub record Finds (i : List ℕ) (edition : ℕ) (h : Held) (c : Found) : Type 0 where
  pub inventory_is : c.inventory ≡ i
  pub edition_is : c.edition.0 ≡ edition
  pub reading_is : c.reading ≡ h.reading

-- An answered call of the session: of the flag and type, with the next number, "up to status 0"
pub record Continues (flag type : ℕ) (st : Standing ℕ) (c : Found) : Type 0 where
  pub unfinished : st.done ≡ false
  pub indices : token c.args ≡ 2
  pub of_flag : input c.args 0 ≡ flag
  pub of_type : input c.args 1 ≡ type
  pub numbered : input c.args 4 ≡ st.carried

-- a list of calls, each of which is refused, for whatever reason, or continues the session
abbrev pub Rule : List ℕ → ℕ → ℕ → ℕ → Held → Found → Type 0
Rule i edition flag type h c = Finds i edition h c × (is_answered c ≡ true → Continues flag type h.session c)

abbrev pub Session : List ℕ → ℕ → ℕ → ℕ → List Found → Type 0
Session i edition flag type cs = Each after (Rule i edition flag type) start cs

-- token 2, five inputs and two outputs, whole in its argument buffer, with a flag, type and number; 02, M-113: "the size that always holds the entry
-- due (1,036)"
pub record Made (flag type number : ℕ) (c : Found) : Type 0 where
  pub indices : token c.args ≡ 2
  pub five_inputs : inputs c.args ≡ 5
  pub two_outputs : outputs c.args ≡ 2
  pub whole : 40 ≤ length c.args
  pub of_flag : input c.args 0 ≡ flag
  pub of_type : input c.args 1 ≡ type
  pub numbered : input c.args 4 ≡ number
  pub large : 1036 ≤ input c.args 3
  pub below : input c.args 2 + input c.args 3 ≤ 0x1_0000_0000
  pub inside : input c.args 2 + input c.args 3 ≤ length c.memory

-- such a call with the number that comes next
pub record WellMade (i : List ℕ) (edition flag type : ℕ) (h : Held) (c : Found) : Type 0 where
  pub finds : Finds i edition h c
  pub made : Made flag type h.session.carried c

-- how many entries were handed out: those before the next number, and all once a call says done
unfoldable pub handed_out : List Entry → Standing ℕ → ℕ
handed_out es st = cond st.done (length es) (st.carried - 1)
