-- A journal that arrives in bursts: what a record of the stream does (document 02, M-109).
use Rattle.std.specs.Prelude.{ℕ, ◌+◌, min, Bool, cond, ◌||◌, List, Option, is_some, is_none}
use Rattle.records.specs.Cutting.{Reader}
use Rattle.journal.specs.Journal.{good_frame}
use Rattle.journal.specs.Property.{property_frame}
use Rattle.tallies.specs.declared.keeping.Tallied.{Tallied}
use Rattle.tallies.specs.declared.keeping.Refusal.{Refusal}
use Rattle.tallies.specs.Keeping.{append_of}
use Rattle.intake.specs.declared.taking.Place.{Place}

-- "A record's length and kind are judged when its first four bytes are in": those that some good record has; for kinds 5 and 6 a range of lengths
unfoldable pub good_front : ℕ → ℕ → Bool
good_front len kind = good_frame len kind || property_frame len kind

-- Where an intake stands between records: the journal's buffer, its use and tallies, the number of the record that it is inside or comes to, and the
-- fault that was met, None where none was.
pub record Taking : Type 0 where
  pub buffer : List ℕ
  pub journal : Tallied
  pub number : ℕ
  pub fault : Option Refusal

abbrev pub taking_of : List ℕ → Place → Taking
taking_of buffer p = record { buffer = buffer; journal = p.journal; number = p.number; fault = p.fault }

-- "after either, every burst and the end get the same refusal and change nothing"
abbrev pub stopped : Taking → Bool
stopped s = is_some s.fault

-- "its record's number from 1", which stays at 2^64 - 1
abbrev pub capped : ℕ → ℕ
capped n = min n 0xffff_ffff_ffff_ffff

-- "feed complete ones to the tallies and a lent journal buffer", "Refusals: malformed; then, for a good complete record, no room as in M-106"
unfoldable pub step : Taking → List ℕ → Taking
step s r =
    let x = append_of s.buffer s.journal r in
    let number = cond (is_none x.outcome) (capped (s.number + 1)) s.number in
    let next : Taking = record { buffer = x.buffer; journal = x.next; number = number; fault = x.outcome } in
    cond (stopped s) s next

abbrev pub reader : Reader Taking
reader = record { good = good_front; step = step; stopped = stopped }
