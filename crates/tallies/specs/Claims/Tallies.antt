-- What is claimed of tallies, cited by the contracts of `append`, `join` and `cleared`, and of the recount by that of `recount` (document 02, M-106).
use Rattle.std.specs.Prelude.{ℕ, ◌+◌, ◌≤◌, ◌<◌, ◌≡◌, true, false, cond, List, [], ◌∷◌, ◌⊎◌, eqb, length, Some, None, is_some}
use Rattle.std.proofs.lemmas.List.Edits.{sets}
use Rattle.words.specs.Numbers.{le}
use Rattle.words.specs.Claims.Exactly.{Exactly}
use Rattle.records.specs.Records.{records}
use Rattle.journal.specs.declared.counts.Counts.{Counts}
use Rattle.journal.specs.declared.scope.Units.TheVariants.{All}
use Rattle.journal.specs.Journal.{well_formed}
use Rattle.journal.specs.Scope.{row_of, asking, selection_of}
use Rattle.journal.specs.Reportable.{counts_of}
use Rattle.tallies.specs.declared.tallies.Tallies.{Tallies}
use Rattle.tallies.specs.declared.keeping.Tallied.{Tallied}
use Rattle.tallies.specs.declared.keeping.Refusal.TheVariants.{Malformed, NoRoom, Unfit}
use Rattle.tallies.specs.Tallies.{recount_of, recount_for, tally_sum, tallies_within}
use Rattle.tallies.specs.Keeping.{Left, append_of}
use Rattle.tallies.specs.Sessions.{Standing, fresh, appending, joining, clearing}
use Rattle.tallies.specs.Claims.Sessions.{Counted, Keeps, Turn, standing, Session}
use Rattle.tallies.specs.Cases.Readings.{TallyReadings}
use Rattle.tallies.specs.Claims.Rows.{of_kind, ThirdRow}

-- After any list of operations that keep the tallies, refused ones between, the bytes in use are a well-formed journal and the tallies equal its recount.
abbrev pub TalliesKept : Type 0
TalliesKept = (buffer : List ℕ) (ts : List (Turn Standing)) → Session (fresh buffer) ts → Counted (standing (fresh buffer) ts)

-- Appending and joining, whatever is appended or joined, and clearing are such operations.
abbrev pub AppendKeeps : Type 0
AppendKeeps = (r : List ℕ) → Keeps (appending r)

abbrev pub JoinKeeps : Type 0
JoinKeeps = (part : List ℕ) → Keeps (joining part)

abbrev pub ClearKeeps : Type 0
ClearKeeps = Keeps clearing

-- ---- each outcome exactly when

-- DECISIONS: "bytes that are not exactly one good record" are malformed
abbrev pub OneGood : List ℕ → Type 0
OneGood r = (records r ≡ r ∷ []) × (well_formed r ≡ true)

-- a part put after the bytes in use, if it is good
pub record AttachedExactly (Good : Type 0) (b : List ℕ) (t : Tallied) (part : List ℕ) (x : Left) : Type 0 where
  pub unfit : Exactly (x.outcome ≡ Some Unfit) ((length b < t.used) ⊎ (tallies_within t.used t.tallies ≡ false))
  pub malformed : (x.outcome ≡ Some Unfit → ⊥) → Exactly (x.outcome ≡ Some Malformed) (Good → ⊥)
  pub no_room : (x.outcome ≡ Some Unfit → ⊥) → Good → Exactly (x.outcome ≡ Some NoRoom) ((length b < t.used + length part) ⊎ (1_048_576 < t.used + length part))
  pub otherwise : (x.outcome ≡ Some Unfit → ⊥) → (x.outcome ≡ Some Malformed → ⊥) → (x.outcome ≡ Some NoRoom → ⊥) → x.outcome ≡ None
  pub done : x.outcome ≡ None → (x.buffer ≡ sets b t.used part)
      × ((x.next.used ≡ t.used + length part) × (x.next.tallies ≡ tally_sum t.tallies (recount_of part)))
  -- "change neither journal nor tallies"
  pub refused : (x.outcome ≡ None → ⊥) → (x.buffer ≡ b) × (x.next ≡ t)

abbrev pub EachAppend : Type 0
EachAppend = (b : List ℕ) (t : Tallied) (r : List ℕ) → AttachedExactly (OneGood r) b t r (append_of b t r)

-- no count above a limit, opcode by opcode
pub record CountsBelow (limit : ℕ) (c : Counts) : Type 0 where
  pub deletes : c.deletes ≤ limit
  pub updates : c.updates ≤ limit
  pub additions : c.additions ≤ limit

abbrev pub EachWithin : Type 0
EachWithin =
    (limit : ℕ) (t : Tallies) → Exactly (tallies_within limit t ≡ true)
    (CountsBelow limit t.negative × (CountsBelow limit t.first × (CountsBelow limit t.second × CountsBelow limit t.third)))

-- each count of a sum is the sum of the two counts of its row and opcode
pub record CountsAdd (a b c : Counts) : Type 0 where
  pub deletes : c.deletes ≡ a.deletes + b.deletes
  pub updates : c.updates ≡ a.updates + b.updates
  pub additions : c.additions ≡ a.additions + b.additions

pub record TalliesAdd (a b c : Tallies) : Type 0 where
  pub negative : CountsAdd a.negative b.negative c.negative
  pub first : CountsAdd a.first b.first c.first
  pub second : CountsAdd a.second b.second c.second
  pub third : CountsAdd a.third b.third c.third

abbrev pub EachSum : Type 0
EachSum = (a b : Tallies) → TalliesAdd a b (tally_sum a b)

-- Over tallies that are kept nothing is unfit.
abbrev pub KeptIsFit : Type 0
KeptIsFit = (s : Standing) → Counted s → (r : List ℕ) → (append_of s.buffer s.journal r).outcome ≡ Some Unfit → ⊥

-- A malformed or oversized journal has no tallies.
pub record RecountExactly (j : List ℕ) : Type 0 where
  pub good : Exactly (is_some (recount_for j) ≡ true) (well_formed j ≡ true)
  pub counted : well_formed j ≡ true → recount_for j ≡ Some (recount_of j)
  pub malformed : well_formed j ≡ false → recount_for j ≡ None
  pub oversized : 1_048_576 < length j → recount_for j ≡ None

abbrev pub EachRecount : Type 0
EachRecount = (j : List ℕ) → RecountExactly j

-- "for each scope row (scope 3 over all units)": the counts of a row are those of its scopes' lists, opcode by opcode.
pub record RowsOfScopes : Type 0 where
  pub negative : (j : List ℕ) (scope unit : ℕ) → 0x8000_0000 ≤ scope → (recount_of j).negative ≡ counts_of (selection_of scope unit) j
  pub first : (j : List ℕ) (unit : ℕ) → (recount_of j).first ≡ counts_of (selection_of 1 unit) j
  pub second : (j : List ℕ) (unit : ℕ) → (recount_of j).second ≡ counts_of (selection_of 2 unit) j
  pub third : (j : List ℕ) → (recount_of j).third ≡ counts_of (asking (row_of 3) All) j

pub record RecountClaims : Type 0 where
  pub each_recount : EachRecount
  pub rows_of_scopes : RowsOfScopes
  pub third_row_claim : ThirdRow
  pub kinds : (kind : ℕ) → (of_kind kind [] ≡ 0) × ((r : List ℕ) (rs : List (List ℕ))
      → of_kind kind (r ∷ rs) ≡ cond (eqb (le 2 r 2) kind) 1 0 + of_kind kind rs)
  pub readings : TallyReadings

pub record TallyClaims : Type 0 where
  pub tallies_kept : TalliesKept
  pub append_keeps : AppendKeeps
  pub join_keeps : JoinKeeps
  pub clear_keeps : ClearKeeps
  pub each_append : EachAppend
  pub each_within : EachWithin
  pub each_sum : EachSum
  pub kept_is_fit : KeptIsFit
  pub recounts : RecountClaims
