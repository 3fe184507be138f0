-- What one pass over a journal tells of a node's session: terms of contracts below `answer`, which no promise of `answer` cites.
use Rattle.std.specs.Prelude.{ℕ, ◌+◌, ◌-◌, ◌≤◌, ◌<◌, ◌≡◌, Bool, true, false, Some, Result, Ok, Err, cond, ◌&&◌, List, [], ◌∷◌, ◌⊎◌, eqb, length, drop}
use Rattle.records.specs.Records.{records, all_good}
use Rattle.journal.specs.Journal.{good_record, well_formed}
use Rattle.journal.specs.declared.property.PropertyRecord.{PropertyRecord}
use Rattle.properties.specs.declared.walk.Extent.{Extent}
use Rattle.properties.specs.declared.walk.Walk.{Walk}
use Rattle.properties.specs.declared.following.Refusal.{Refusal}
use Rattle.properties.specs.declared.following.Refusal.TheVariants.{Malformed, Carried}
use Rattle.properties.specs.Changes.{Change, changes_from, changes, stop, due_at, is_due}
use Rattle.properties.specs.Session.{stops, room_after, states, member}

-- a walk that was over one change more
unfoldable pub walked_over : Walk → Extent → ℕ → Walk
walked_over w e s =
    let here = member s (stops w.room e.header e.at e.start e.length) in
    record { room = room_after w.room e.header e.length; any = true; place = cond here (Some e.at) w.place }

-- where the change of a record at a place stands
abbrev pub extent_of : ℕ → PropertyRecord → Extent
extent_of at p = record { at = at; header = p.name_length + 5; start = at + (9 + p.name_length); length = p.size - (9 + p.name_length) }

-- the walk past the record of a property: one of another node leaves it as it was
abbrev pub walked_past : Walk → ℕ → PropertyRecord → ℕ → ℕ → Walk
walked_past w at p phandle s = cond (eqb p.phandle phandle) (walked_over w (extent_of at p) s) w

-- the node has a change, and its session carries the state
abbrev pub is_carried : ℕ → ℕ → List ℕ → Bool
is_carried phandle s j = is_due (changes phandle j) && member s (states (changes phandle j))

-- a state that does not reach a change, or lies in its value
abbrev pub Within : ℕ → Change → Type 0
Within s c = (s ≤ c.at) ⊎ ((c.start ≤ s) × (s < stop c))

abbrev pub FirstWithin : ℕ → List Change → Type 0
FirstWithin s [] = Unit {0}
FirstWithin s (c ∷ cs) = Within s c

-- From a place on, where a record begins, the records are good and hold what is due at the state; the state lies in the first change there, or before it.
pub record Resumes (phandle s : ℕ) (j : List ℕ) (place : ℕ) : Type 0 where
  pub inside : place ≤ length j
  pub good : all_good good_record (records (drop place j)) ≡ true
  pub due : due_at s (changes phandle j) ≡ due_at s (changes_from phandle place (records (drop place j)))
  pub within : FirstWithin s (changes_from phandle place (records (drop place j)))

-- the journal is malformed; or the session does not carry the state; or it does, and from this place on it goes on
abbrev pub FollowFinds : ℕ → ℕ → List ℕ → Result ℕ Refusal → Type 0
FollowFinds phandle s j (Err Malformed) = well_formed j ≡ false
FollowFinds phandle s j (Err Carried) = (well_formed j ≡ true) × (is_carried phandle s j ≡ false)
FollowFinds phandle s j (Ok place) = (well_formed j ≡ true) × (is_carried phandle s j ≡ true) × Resumes phandle s j place
