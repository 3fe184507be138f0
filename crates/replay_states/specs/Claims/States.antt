-- `StatesExactly`: which states are taken at the C boundary, and with which number a burst is refused (document 02, M-110), each rule in
-- numbers, in the order of `is_state`.
use Rattle.std.specs.Prelude.{ℕ, suc, ◌+◌, ◌-◌, ◌≤◌, ◌<◌, ◌≡◌, true, false, cond, List, ◌⊎◌, leb, length, take, drop}
use Rattle.words.specs.Numbers.{le, zeros}
use Rattle.words.specs.Claims.Exactly.{Exactly}
use Rattle.records.specs.Cutting.{ripe}
use Rattle.inventory.specs.declared.edition.Edition.{Edition}
use Rattle.dump.specs.declared.registration.Registration.{Registration}
use Rattle.dump.specs.declared.registration.Phase.TheVariants.{Unregistered, Registered, Active}
use Rattle.dump.specs.Structure.{good_structure}
use Rattle.calls.specs.declared.reading_record.ReadingRecord.{ReadingRecord}
use Rattle.calls.specs.GetIndices.{askable}
use Rattle.crossing.specs.Registration.{registration_of}
use Rattle.crossing.specs.Record.{reading_of}
use Rattle.trace.specs.declared.report.Report.{Report}
use Rattle.trace.specs.declared.report.Report.TheVariants.{Agreed, Differs, Malformed}
use Rattle.trace.specs.Trace.{good_frame}
use Rattle.trace.specs.Came.{registration_came, reading_came, calls_for, waits_in, report_came, came}
use Rattle.replay_states.specs.declared.state.FlatReplay.{FlatReplay}
use Rattle.replay_states.specs.declared.state.FlatReport.{FlatReport}
use Rattle.replay_states.specs.States.{flat_report_of, report_of, is_report, held_came, is_state, judged_by}

-- which reports are taken after `records` records, with `waits` 1 if a 32 waits for its 33, if registration and reading record need `least` calls
pub record ReportsExactly (records waits least : ℕ) : Type 0 where
  pub agreed : (n : ℕ) → Exactly (report_came (Agreed n) records waits least ≡ true) ((least ≤ n) × (n + n + waits ≤ records))
  pub differs : (n at : ℕ) → Exactly (report_came (Differs n at) records waits least ≡ true) ((waits ≡ 0)
      × ((1 ≤ n) × ((least ≤ n) × ((n + n ≤ records) × (at ≤ 4099)))))
  pub malformed : (n : ℕ) → Exactly (report_came (Malformed n) records waits least ≡ true) ((n + waits ≡ records + 1) × (least + least + waits ≤ records))

pub record StatesExactly : Type 0 where
  pub state : (f : FlatReplay) → Exactly (is_state f ≡ true) ((is_report f.report ≡ true)
      × ((came (record { 0 = f.edition }) f.records f.waiting (report_of f.report) (registration_of f.registration) (reading_of f.reading)
      ≡ true) × (held_came f.report.verdict f.held ≡ true)))
  pub report : (f : FlatReport) → (f.verdict ≡ 1 → is_report f ≡ true)
      × ((f.verdict ≡ 1 → ⊥) → Exactly (is_report f ≡ true) ((f.verdict ≤ 2) × (f.offset ≡ 0)))
  pub held : (verdict n : ℕ) → Exactly (held_came verdict n ≡ true) ((n ≡ 0) ⊎ ((verdict ≡ 0) × (n ≤ 4103)))
  pub rules : (e : Edition) (records waiting : ℕ) (x : Report) (r : Registration) (d : ReadingRecord) → Exactly (came e records waiting x r d ≡ true)
      ((records ≤ 4_294_967_295) × ((waiting ≤ 4101) × ((report_came x records (waits_in waiting) (calls_for r d) ≡ true)
      × ((registration_came r ≡ true) × (reading_came e d ≡ true)))))
  -- a registration takes a call, and so does a reading in progress; a 32 that waits is one record
  pub least : (r : Registration) (d : ReadingRecord) → (r.phase ≡ Registered → (1 < d.number.0 → calls_for r d ≡ 2) × (d.number.0 ≤ 1 → calls_for r d ≡ 1))
      × (r.phase ≡ Unregistered → (1 < d.number.0 → calls_for r d ≡ 1) × (d.number.0 ≤ 1 → calls_for r d ≡ 0))
  pub waits : (waits_in 0 ≡ 0) × ((n : ℕ) → waits_in (suc n) ≡ 1)
  pub reports : (records waits least : ℕ) → ReportsExactly records waits least
  pub none : (r : Registration) → r.phase ≡ Unregistered → Exactly (registration_came r ≡ true) ((r.len ≡ 0) × (zeros r.copy ≡ true))
  pub registered : (r : Registration) → r.phase ≡ Registered
      → Exactly (registration_came r ≡ true) ((r.len ≤ 512) × ((good_structure (take r.len r.copy) ≡ true) × (zeros (drop r.len r.copy) ≡ true)))
  pub active : (r : Registration) → r.phase ≡ Active → registration_came r ≡ false
  pub phase : (f : FlatReplay) → 1 < f.registration.phase → is_state f ≡ false
  pub flag : (e : Edition) (d : ReadingRecord) → 1 < d.number.0 → 1 < d.flag → reading_came e d ≡ false
  pub reading : (e : Edition) (d : ReadingRecord) → 1 < d.number.0
      → Exactly (reading_came e d ≡ true) ((d.number.0 ≤ 69_905) × ((askable d.flag d.item_type ≡ true) × (d.edition.0 ≡ e.0)))
  pub no_reading_claim : (e : Edition) (d : ReadingRecord) → d.number.0 ≤ 1
      → Exactly (reading_came e d ≡ true) ((d.flag ≡ 0) × ((d.item_type ≡ 0) × ((d.number.0 ≡ 1) × (d.edition.0 ≡ 0))))
  -- which held bytes make a record: those of a whole one after a good front, or four with a front that is refused
  pub front : (len kind : ℕ) → Exactly (good_frame len kind ≡ true) ((2 ≤ len) × ((len ≤ 4102) × ((32 ≤ kind) × (kind ≤ 34))))
  pub record_made : (r : List ℕ) → ripe good_frame r ≡ leb (4 + cond (good_frame (le 2 r 0) (le 2 r 2)) (le 2 r 0 - 2) 0) (length r)
  -- 15 for a buffer without room, before 14 for a state that is none or for held bytes that make a record
  pub no_room : (held : List ℕ) (room : ℕ) (f : FlatReplay) → (length held < 4104) ⊎ (room < 4100) → judged_by held room f ≡ 15
  pub taken : (held : List ℕ) (room : ℕ) (f : FlatReplay) → 4104 ≤ length held → 4100 ≤ room → is_state f ≡ true
      → ripe good_frame (take f.held held) ≡ false → judged_by held room f ≡ 0
  pub not_taken : (held : List ℕ) (room : ℕ) (f : FlatReplay) → 4104 ≤ length held → 4100 ≤ room
      → (is_state f ≡ false) ⊎ (ripe good_frame (take f.held held) ≡ true) → judged_by held room f ≡ 14
  -- verdict 0 with the calls that agreed, 1 with the call and the offset, 2 with the record
  pub told : (n at : ℕ) → (flat_report_of (Agreed n) ≡ record { verdict = 0; offset = 0; number = n })
      × ((flat_report_of (Differs n at) ≡ record { verdict = 1; offset = at; number = n })
      × (flat_report_of (Malformed n) ≡ record { verdict = 2; offset = 0; number = n }))
  pub came_back : (x : Report) → report_of (flat_report_of x) ≡ x
