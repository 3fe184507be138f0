-- What one record of a trace does in each case, and a whole trace record after record (document 02, M-110). Cited by the contracts of crate `replay`.
use Rattle.std.specs.Prelude.{ℕ, ◌+◌, ◌-◌, ◌^◌, ◌≤◌, ◌<◌, ◌≡◌, true, false, List, [], ◌∷◌, ◌⊎◌, length, drop, replicate}
use Rattle.std.proofs.lemmas.List.Edits.{sets}
use Rattle.words.specs.Numbers.{le}
use Rattle.words.specs.Claims.Exactly.{Exactly}
use Rattle.records.specs.Records.{records}
use Rattle.records.specs.Cutting.{ripe, run, start, fed}
use Rattle.dump.specs.declared.registration.Phase.TheVariants.{Unregistered}
use Rattle.calls.specs.Buffer.{found, call_of}
use Rattle.calls.specs.Claims.Terms.{naming}
use Rattle.trace.specs.declared.report.Report.TheVariants.{Agreed, Malformed}
use Rattle.trace.specs.Trace.{good_frame, is_good}
use Rattle.trace.specs.Playing.{Platform, none, call, State, begin, stopped, agreed, compared, called, concluded, step, replay_of, reader}
use Rattle.trace.specs.Claims.Recording.{le_bytes}

-- "Malformed too: .. a body above 4,100 bytes"; a record that nothing cuts off, of kinds 32 to 34
pub record Good (r : List ℕ) : Type 0 where
  pub whole : length r ≡ le 2 r 0 + 2
  pub counted : 2 ≤ le 2 r 0
  pub few : le 2 r 0 ≤ 4102
  pub low : 32 ≤ le 2 r 2
  pub high : le 2 r 2 ≤ 34

-- "trace malformed, with the record's number": the report alone changes
abbrev pub Faulted : State → ℕ → State → Type 0
Faulted s number x = x ≡ record {
  records = s.records;
  report = Malformed number;
  waiting = s.waiting;
  memory = s.memory;
  registration = s.registration;
  reading = s.reading;
}

-- A good record of a replay that goes on, before the limit, by its kind and what waits.
pub record StepExactly (p : Platform) (s : State) (r : List ℕ) (x : State) : Type 0 where
  -- "kind 32 an argument buffer before the call"
  pub waits : s.waiting ≡ none → le 2 r 2 ≡ 32
      → x ≡ record {
        records = s.records + 1;
        report = s.report;
        waiting = call (drop 4 r);
        memory = s.memory;
        registration = s.registration;
        reading = s.reading;
      }
  -- "kind 33 the same after it": the call is made, and its buffer compared
  pub calls : (args : List ℕ) → s.waiting ≡ call args → le 2 r 2 ≡ 33
      → let y = called p s args in
      x ≡ record {
        records = s.records + 1;
        report = compared (agreed s.report) (drop 4 r) y.args;
        waiting = none;
        memory = y.memory;
        registration = y.registration;
        reading = y.reading;
      }
  -- "kind 34 a four-byte address and bytes of memory set before a call"
  pub set : s.waiting ≡ none → le 2 r 2 ≡ 34 → 9 ≤ length r → le 4 (drop 4 r) 0 + (length (drop 4 r) - 4) ≤ length s.memory
      → x ≡ record {
        records = s.records + 1;
        report = s.report;
        waiting = none;
        memory = sets s.memory (le 4 (drop 4 r) 0) (drop 4 (drop 4 r));
        registration = s.registration;
        reading = s.reading;
      }
  -- "a 34 body under 5, a 34 whose bytes pass the end of memory", "any other 33", "a 32 without a good 33 right after it (the 32's number; its call isn't run)"
  pub not_set : s.waiting ≡ none → le 2 r 2 ≡ 34 → (length r < 9) ⊎ (length s.memory < le 4 (drop 4 r) 0 + (length (drop 4 r) - 4))
      → Faulted s (s.records + 1) x
  pub unasked : s.waiting ≡ none → le 2 r 2 ≡ 33 → Faulted s (s.records + 1) x
  pub unanswered : (args : List ℕ) → s.waiting ≡ call args → (le 2 r 2 ≡ 33 → ⊥) → Faulted s s.records x

pub record ReplayExactly (p : Platform) : Type 0 where
  pub good : (r : List ℕ) → Exactly (is_good r ≡ true) (Good r)
  -- a record's length and kind are judged when its first four bytes are in
  pub front : (len kind : ℕ) → Exactly ((reader p).good len kind ≡ true) ((2 ≤ len) × ((len ≤ 4102) × ((32 ≤ kind) × (kind ≤ 34))))
  pub going : (s : State) (calls : ℕ) → s.report ≡ Agreed calls → (stopped s ≡ false) × (agreed s.report ≡ calls)
  pub over : (s : State) (r : List ℕ) → stopped s ≡ true → (step p s r ≡ s) × (concluded s ≡ s)
  pub each : (s : State) (r : List ℕ) → stopped s ≡ false → s.records < 4_294_967_295 → is_good r ≡ true → StepExactly p s r (step p s r)
  -- "any record after number 4,294,967,295", and a record that is not good
  pub bad : (s : State) (r : List ℕ) → stopped s ≡ false → (4_294_967_295 ≤ s.records) ⊎ (is_good r ≡ false)
      → (s.waiting ≡ none → Faulted s (s.records + 1) (step p s r)) × ((args : List ℕ) → s.waiting ≡ call args → Faulted s s.records (step p s r))
  pub end : (s : State) → stopped s ≡ false → (s.waiting ≡ none → concluded s ≡ s)
      × ((args : List ℕ) → s.waiting ≡ call args → Faulted s s.records (concluded s))
  -- "Replay over a given journal, inventory with its edition, and memory, starting with no registration and no reading in progress"
  pub call_made : (s : State) (args : List ℕ) → called p s args
      ≡ call_of (found args s.memory p.journal p.inventory p.edition s.registration s.reading)
  pub begun : (m : List ℕ) → begin m ≡ record {
    records = 0;
    report = Agreed 0;
    waiting = none;
    memory = m;
    registration = record { phase = Unregistered; len = 0; copy = replicate 512 0 };
    reading = naming 0 0 1 0;
  }
  pub whole : (m trace : List ℕ) → replay_of p m trace ≡ concluded (run (step p) (begin m) (records trace))
  pub none_left : (s : State) → run (step p) s [] ≡ s
  pub next : (s : State) (r : List ℕ) (rs : List (List ℕ)) → run (step p) s (r ∷ rs) ≡ run (step p) (step p s r) rs
  pub bursts : (s : State) (r : List ℕ) → ((reader p).step s r ≡ step p s r) × ((reader p).stopped s ≡ stopped s)
  -- bytes that make no record yet are held, and change nothing
  pub unfinished : (s : State) (b : List ℕ) → stopped s ≡ false → ripe good_frame b ≡ false
      → fed (reader p) (start s) b ≡ record { state = s; held = b }
  -- "numbers little-endian"
  pub numbers : (w v : ℕ) → v < 256 ^ w → (length (le_bytes w v) ≡ w) × (le w (le_bytes w v) 0 ≡ v)

abbrev pub EachReplay : Type 0
EachReplay = (p : Platform) → ReplayExactly p
