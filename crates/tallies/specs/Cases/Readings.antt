-- Records and appends in bytes, to look at, cited by the contracts of `append` and `recount`; `Claims` tells of all of them.
use Rattle.std.specs.Prelude.{ℕ, Bool, ◌&&◌, List, [], ◌∷◌, ◌++◌, T, eqb, replicate, Option, Some, None, is_some, is_none, unwrap_or}
use Rattle.words.specs.Claims.Cases.{all, same}
use Rattle.journal.specs.declared.counts.Counts.{Counts}
use Rattle.tallies.specs.declared.tallies.Tallies.{Tallies}
use Rattle.tallies.specs.declared.keeping.Tallied.{Tallied}
use Rattle.tallies.specs.declared.keeping.Refusal.{Refusal}
use Rattle.tallies.specs.declared.keeping.Refusal.TheVariants.{Malformed, NoRoom, Unfit}
use Rattle.tallies.specs.Tallies.{no_counts, no_tallies, recount_of, recount_for}
use Rattle.tallies.specs.Keeping.{Left, nothing, append_of}

-- ---- records

-- kinds 1 and 2, 3 and 4 with a node type below 256; a name of one letter, and a value of one byte
abbrev pub delete : ℕ → List ℕ
delete node = 8 ∷ 0 ∷ 1 ∷ 0 ∷ node ∷ 0 ∷ 42 ∷ 0 ∷ 0 ∷ 0 ∷ []

abbrev pub update : ℕ → List ℕ
update node = 8 ∷ 0 ∷ 2 ∷ 0 ∷ node ∷ 0 ∷ 42 ∷ 0 ∷ 0 ∷ 0 ∷ []

abbrev pub addition : ℕ → List ℕ
addition node = 12 ∷ 0 ∷ 3 ∷ 0 ∷ node ∷ 0 ∷ 42 ∷ 0 ∷ 0 ∷ 0 ∷ 5 ∷ 0 ∷ 0 ∷ 0 ∷ []

abbrev pub unit : ℕ → ℕ → List ℕ
unit node address = 16 ∷ 0 ∷ 4 ∷ 0 ∷ node ∷ 0 ∷ address ∷ 0 ∷ 0 ∷ 0 ∷ 0 ∷ 0 ∷ 0 ∷ 0 ∷ 42 ∷ 0 ∷ 0 ∷ 0 ∷ []

abbrev pub changed : List ℕ
changed = 9 ∷ 0 ∷ 5 ∷ 0 ∷ 42 ∷ 0 ∷ 0 ∷ 0 ∷ 97 ∷ 0 ∷ 7 ∷ []

abbrev pub gone : List ℕ
gone = 8 ∷ 0 ∷ 6 ∷ 0 ∷ 42 ∷ 0 ∷ 0 ∷ 0 ∷ 97 ∷ 0 ∷ []

-- ---- what they count: deletes, updates and additions of negative scopes, of scopes 1 and 2, and of scope 3

abbrev pub three : Counts → List ℕ
three c = c.deletes ∷ c.updates ∷ c.additions ∷ []

abbrev pub tells : Tallies → List ℕ → Bool
tells t ns = same (three t.negative ++ (three t.first ++ (three t.second ++ three t.third))) ns

abbrev pub counts : List ℕ → List ℕ → Bool
counts j ns = tells (recount_of j) ns

abbrev pub in_each_row : List Bool
in_each_row =
    counts (delete 10) (1 ∷ 0 ∷ 0 ∷ 1 ∷ 0 ∷ 0 ∷ 0 ∷ 0 ∷ 0 ∷ 0 ∷ 0 ∷ 0 ∷ [])
    ∷ counts (update 3) (0 ∷ 0 ∷ 0 ∷ 0 ∷ 1 ∷ 0 ∷ 0 ∷ 1 ∷ 0 ∷ 0 ∷ 0 ∷ 0 ∷ [])
    ∷ counts (addition 12) (0 ∷ 0 ∷ 1 ∷ 0 ∷ 0 ∷ 1 ∷ 0 ∷ 0 ∷ 0 ∷ 0 ∷ 0 ∷ 0 ∷ [])
    -- kind 4 in row 3 alone, whatever its unit
    ∷ counts (unit 15 7 ++ unit 16 8) (0 ∷ 0 ∷ 0 ∷ 0 ∷ 0 ∷ 0 ∷ 0 ∷ 0 ∷ 0 ∷ 0 ∷ 2 ∷ 0 ∷ [])
    -- kinds 5 and 6 nowhere
    ∷ counts changed (0 ∷ 0 ∷ 0 ∷ 0 ∷ 0 ∷ 0 ∷ 0 ∷ 0 ∷ 0 ∷ 0 ∷ 0 ∷ 0 ∷ [])
    ∷ counts gone (0 ∷ 0 ∷ 0 ∷ 0 ∷ 0 ∷ 0 ∷ 0 ∷ 0 ∷ 0 ∷ 0 ∷ 0 ∷ 0 ∷ [])
    ∷ counts (delete 10 ++ (update 3 ++ (changed ++ (addition 12 ++ (unit 15 7 ++ delete 10))))) (2 ∷ 0 ∷ 1 ∷ 2 ∷ 1 ∷ 1 ∷ 0 ∷ 1 ∷ 0 ∷ 0 ∷ 1 ∷ 0 ∷ [])
    ∷ []

-- a malformed journal, here with a byte more, has no tallies
abbrev pub uncounted : List Bool
uncounted =
    (is_some (recount_for (delete 10)) && tells (unwrap_or (recount_for (delete 10)) no_tallies) (1 ∷ 0 ∷ 0 ∷ 1 ∷ 0 ∷ 0 ∷ 0 ∷ 0 ∷ 0 ∷ 0 ∷ 0 ∷ 0 ∷ []))
    ∷ (is_none (recount_for (delete 10 ++ (0 ∷ []))) && tells (unwrap_or (recount_for (delete 10 ++ (0 ∷ []))) no_tallies) (0 ∷ 0 ∷ 0 ∷ 0 ∷ 0 ∷ 0 ∷ 0 ∷ 0 ∷ 0 ∷ 0 ∷ 0 ∷ 0
    ∷ []))
    ∷ []

-- ---- appends

abbrev pub number : Option Refusal → ℕ
number None = 0
number (Some Malformed) = 1
number (Some NoRoom) = 2
number (Some Unfit) = 3

-- a use with so many deletes of scope 1 beside it
abbrev pub holding : ℕ → ℕ → Tallied
holding used deletes = record {
  used = used;
  tallies = record {
    negative = no_counts;
    first = record { deletes = deletes; updates = 0; additions = 0 };
    second = no_counts;
    third = no_counts;
  };
}

abbrev pub shows : Left → ℕ → List ℕ → ℕ → ℕ → Bool
shows x outcome buffer used deletes =
    eqb (number x.outcome) outcome && (same x.buffer buffer
    && (eqb x.next.used used && same (three x.next.tallies.first) (deletes ∷ 0 ∷ 0 ∷ [])))

abbrev pub appends : List Bool
appends =
    -- exactly full is room, one byte less is none
    shows (append_of (replicate 12 7) (holding 2 1) (delete 6)) 0 (7 ∷ 7 ∷ delete 6) 12 2
    ∷ shows (append_of (replicate 12 7) (holding 3 1) (delete 6)) 2 (replicate 12 7) 3 1
    -- malformed with no room
    ∷ shows (append_of (replicate 3 7) nothing (delete 15)) 1 (replicate 3 7) 0 0
    -- a count above the use, before malformed; a count equal to the use is taken
    ∷ shows (append_of (replicate 30 7) (holding 4 5) []) 3 (replicate 30 7) 4 5
    ∷ shows (append_of (replicate 14 7) (holding 4 4) (delete 6)) 0 (7 ∷ 7 ∷ 7 ∷ 7 ∷ delete 6) 14 5
    ∷ []

abbrev pub TallyReadings : Type 0
TallyReadings = T (all (λ (b : Bool). b) (in_each_row ++ (uncounted ++ appends)))
