-- Where the code of a replay stands before and after a record: a struct by value, memory, and a lent buffer with the body of the 32 that waits at its front.
use Rattle.std.specs.Prelude.{ℕ, ◌+◌, ◌-◌, cond, List, take, Option, Some, None}
use Rattle.playing.specs.declared.playing.Playing.{Playing}
use Rattle.trace.specs.Trace.{good_frame}
use Rattle.trace.specs.Playing.{Platform, Waiting, none, call, State}
use Rattle.playing.specs.Lent.{Lent}

abbrev pub platform_of : List ℕ → List ℕ → Playing → Platform
platform_of journal inventory t = record { journal = journal; inventory = inventory; edition = t.edition }

-- the 32 that waits
abbrev pub waiting_of : Option ℕ → List ℕ → Waiting
waiting_of (Some n) args = call (take n args)
waiting_of None args = none

abbrev pub state_of : List ℕ → List ℕ → Playing → State
state_of args memory t = record {
  records = t.records;
  report = t.report;
  waiting = waiting_of t.waiting args;
  memory = memory;
  registration = t.registration;
  reading = t.reading;
}

abbrev pub lent_of : List ℕ → List ℕ → Playing → Lent
lent_of args memory t = record { state = state_of args memory t; args = args }

-- how many bytes of a record are looked at together, by its length and kind
unfoldable pub due_by : ℕ → ℕ → ℕ
due_by length kind = 4 + cond (good_frame length kind) (length - 2) 0
