-- What is claimed of journals that are joined end to end, cited by the contract of `join` (document 02, M-108).
use Rattle.std.specs.Prelude.{ℕ, ◌+◌, ◌≤◌, ◌≡◌, Bool, true, ◌&&◌, List, [], ◌∷◌, ◌++◌, T, eqb, length, replicate, Some, None}
use Rattle.words.specs.Claims.Cases.{all, same}
use Rattle.records.specs.Records.{records}
use Rattle.journal.specs.declared.operation.Operation.{Operation}
use Rattle.journal.specs.Journal.{well_formed, operands, entries}
use Rattle.journal.specs.Scope.{selection_of}
use Rattle.journal.specs.Reportable.{chosen, reportable}
use Rattle.tallies.specs.declared.keeping.Tallied.{Tallied}
use Rattle.tallies.specs.declared.keeping.Refusal.TheVariants.{Unfit}
use Rattle.tallies.specs.Tallies.{recount_of, tally_sum}
use Rattle.tallies.specs.Keeping.{nothing, join_of}
use Rattle.tallies.specs.Sessions.{Standing, in_use, fresh, joining}
use Rattle.tallies.specs.Claims.Sessions.{Counted}
use Rattle.tallies.specs.Claims.Tallies.{AttachedExactly}
use Rattle.tallies.specs.Cases.Readings.{delete, update, addition, unit, changed, tells, number}

-- ---- "joining well-formed journals within the size limit"

-- the second behind the first
pub record Joined (a b : List ℕ) : Type 0 where
  pub cut : records (a ++ b) ≡ records a ++ records b
  pub well_formed_claim : well_formed (a ++ b) ≡ true
  -- "for each scope and opcode the list of the joined journal is the first's list followed by the second's"
  pub lists : (scope address code : ℕ) →
      let asked = selection_of scope address in
      chosen asked code (entries (a ++ b)) ≡ chosen asked code (entries a) ++ chosen asked code (entries b)
  -- "and the tallies add"
  pub tallies : recount_of (a ++ b) ≡ tally_sum (recount_of a) (recount_of b)

abbrev pub EachJoined : Type 0
EachJoined = (a b : List ℕ) → well_formed a ≡ true → well_formed b ≡ true → length a + length b ≤ 1_048_576 → Joined a b

-- "is associative, an empty journal changes nothing on either side"
pub record EndToEnd : Type 0 where
  pub associative : (a b c : List ℕ) → (a ++ b) ++ c ≡ a ++ (b ++ c)
  pub empty_first : (a : List ℕ) → [] ++ a ≡ a
  pub empty_last : (a : List ℕ) → a ++ [] ≡ a

-- The whole lists do not concatenate, since deletes come first: an update, and a delete joined to it.
abbrev pub ListsDiffer : Type 0
ListsDiffer =
    reportable (selection_of 1 0) (update 10 ++ delete 10) ≡ reportable (selection_of 1 0) (update 10) ++ reportable (selection_of 1 0) (delete 10) → ⊥

-- ---- the same of `join` itself, over a tallied journal in a lent buffer

abbrev pub EachJoin : Type 0
EachJoin = (b : List ℕ) (t : Tallied) (part : List ℕ) → AttachedExactly (well_formed part ≡ true) b t part (join_of b t part)

-- room for so many bytes more, in the buffer and in a journal
pub record Room (s : Standing) (more : ℕ) : Type 0 where
  pub lent : s.journal.used + more ≤ length s.buffer
  pub limit : s.journal.used + more ≤ 1_048_576

-- Joining b and then c leaves the bytes, the use and the tallies that joining the join of b and c leaves.
abbrev pub JoinedInTurn : Type 0
JoinedInTurn =
    (s : Standing) → Counted s → (b c : List ℕ) → well_formed b ≡ true → well_formed c ≡ true → Room s (length b + length c)
    → joining c (joining b s) ≡ joining (b ++ c) s

-- What is joined stands behind what was there, and is taken.
abbrev pub JoinTaken : Type 0
JoinTaken =
    (s : Standing) → Counted s → (b : List ℕ) → well_formed b ≡ true → Room s (length b)
    → ((join_of s.buffer s.journal b).outcome ≡ None) × (in_use (joining b s) ≡ in_use s ++ b)

-- An empty part joins and changes nothing; a journal joined to an empty one is itself.
abbrev pub NothingJoined : Type 0
NothingJoined = (s : Standing) → Counted s → ((join_of s.buffer s.journal []).outcome ≡ None) × (joining [] s ≡ s)

abbrev pub JoinedToNothing : Type 0
JoinedToNothing =
    (buffer b : List ℕ) → well_formed b ≡ true → length b ≤ length buffer
    → ((join_of buffer nothing b).outcome ≡ None) × ((in_use (joining b (fresh buffer)) ≡ b) × ((joining b (fresh buffer)).journal.tallies ≡ recount_of b))

abbrev pub KeptIsFitToJoin : Type 0
KeptIsFitToJoin = (s : Standing) → Counted s → (part : List ℕ) → (join_of s.buffer s.journal part).outcome ≡ Some Unfit → ⊥

-- ---- in bytes: three journals joined both ways

abbrev pub january : List ℕ
january = delete 10 ++ update 3

abbrev pub june : List ℕ
june = changed ++ addition 12

abbrev pub july : List ℕ
july = unit 15 7 ++ delete 10

-- a delete of the node with a phandle, and the operands of operations
abbrev pub deleted : ℕ → List ℕ
deleted phandle = 8 ∷ 0 ∷ 1 ∷ 0 ∷ 6 ∷ 0 ∷ phandle ∷ 0 ∷ 0 ∷ 0 ∷ []

abbrev pub phandles : List Operation → List ℕ
phandles [] = []
phandles (o ∷ os) = operands o ++ phandles os

abbrev pub both_ways : List Bool
both_ways =
    let a = joining january (fresh (replicate 90 7)) in
    let left = joining july (joining june a) in
    let right = joining (june ++ july) a in
    let whole = january ++ (june ++ july) in
    same (in_use left) whole
    ∷ same left.buffer right.buffer
    ∷ (eqb left.journal.used 73 && eqb right.journal.used 73)
    ∷ tells left.journal.tallies (2 ∷ 0 ∷ 1 ∷ 2 ∷ 1 ∷ 1 ∷ 0 ∷ 1 ∷ 0 ∷ 0 ∷ 1 ∷ 0 ∷ [])
    ∷ tells right.journal.tallies (2 ∷ 0 ∷ 1 ∷ 2 ∷ 1 ∷ 1 ∷ 0 ∷ 1 ∷ 0 ∷ 0 ∷ 1 ∷ 0 ∷ [])
    -- the list of an opcode, in order
    ∷ same (phandles (chosen (selection_of 1 0) 1
    (entries (in_use (joining (deleted 3) (joining (deleted 2) (joining (deleted 1) (fresh (replicate 30 7)))))))))
    (1 ∷ 2 ∷ 3 ∷ [])
    ∷ same (phandles (chosen (selection_of 1 0) 1 (entries (in_use (joining (deleted 2 ++ deleted 3) (joining (deleted 1) (fresh (replicate 30 7)))))))) (1
    ∷ 2 ∷ 3 ∷ [])
    -- exactly full, and one byte short; a part with a byte more
    ∷ eqb (number (join_of (replicate 20 7) nothing january).outcome) 0
    ∷ eqb (number (join_of (replicate 19 7) nothing january).outcome) 2
    ∷ eqb (number (join_of (replicate 19 7) nothing (january ++ (0 ∷ []))).outcome) 1
    ∷ []

abbrev pub JoinReadings : Type 0
JoinReadings = T (all (λ (b : Bool). b) both_ways)

pub record JoinClaims : Type 0 where
  pub each_joined : EachJoined
  pub end_to_end : EndToEnd
  pub lists_differ : ListsDiffer
  pub each_join : EachJoin
  pub joined_in_turn : JoinedInTurn
  pub join_taken : JoinTaken
  pub nothing_joined : NothingJoined
  pub joined_to_nothing : JoinedToNothing
  pub kept_is_fit_to_join : KeptIsFitToJoin
  pub readings : JoinReadings
