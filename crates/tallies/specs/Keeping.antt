-- A journal in a lent buffer, of which a number of bytes are in use, with its tallies (document 02, M-106).
use Rattle.std.specs.Prelude.{ℕ, ◌+◌, Bool, cond, ◌&&◌, List, leb, length, Option, Some, None, is_none}
use Rattle.std.proofs.lemmas.List.Edits.{sets}
use Rattle.records.specs.Records.{whole, size_limit}
use Rattle.journal.specs.Journal.{good_record, well_formed}
use Rattle.tallies.specs.declared.keeping.Tallied.{Tallied}
use Rattle.tallies.specs.declared.keeping.Kept.{Kept}
use Rattle.tallies.specs.declared.keeping.Refusal.{Refusal}
use Rattle.tallies.specs.declared.keeping.Refusal.TheVariants.{Malformed, NoRoom, Unfit}
use Rattle.tallies.specs.Tallies.{no_tallies, recount_of, tally_sum, tallies_within}

-- "an empty journal with zero tallies"
abbrev pub nothing : Tallied
nothing = record { used = 0; tallies = no_tallies }

-- The use lies within the buffer, and no count is above it: a counted record takes at least ten bytes.
unfoldable pub fits : ℕ → Tallied → Bool
fits size t = leb t.used size && tallies_within t.used t.tallies

-- "no room (past the lent buffer or 1,048,576 bytes)"
unfoldable pub has_room : ℕ → ℕ → ℕ → Bool
has_room size used more = leb (used + more) size && leb (used + more) size_limit

-- "One record is appended at a time."
unfoldable pub one_record : List ℕ → Bool
one_record r = whole r && good_record r

-- "Refusals: malformed, then no room"; before both what is no use or no tallies of a journal in this buffer
unfoldable pub outcome_of : ℕ → Tallied → ℕ → Bool → Option Refusal
outcome_of size t more good = cond (fits size t) (cond good (cond (has_room size t.used more) None (Some NoRoom)) (Some Malformed)) (Some Unfit)

-- All that an operation leaves: the buffer, the use with its tallies, and what came of it, None where nothing was refused.
pub record Left : Type 0 where
  pub buffer : List ℕ
  pub next : Tallied
  pub outcome : Option Refusal

abbrev pub leaves : List ℕ → Kept → Left
leaves buffer k = record { buffer = buffer; next = k.next; outcome = k.outcome }

-- A part, good or not, behind the bytes in use; a refusal changes "neither journal nor tallies".
unfoldable pub attached : List ℕ → Tallied → List ℕ → Bool → Left
attached buffer t part good =
    let o = outcome_of (length buffer) t (length part) good in
    let next : Tallied = record { used = t.used + length part; tallies = tally_sum t.tallies (recount_of part) } in
    cond (is_none o)
    (record { buffer = sets buffer t.used part; next = next; outcome = o })
    (record { buffer = buffer; next = t; outcome = o })

abbrev pub append_of : List ℕ → Tallied → List ℕ → Left
append_of buffer t bytes = attached buffer t bytes (one_record bytes)

-- 02, M-108: "two journals, which we join end to end": a whole journal behind the bytes in use
abbrev pub join_of : List ℕ → Tallied → List ℕ → Left
join_of buffer t part = attached buffer t part (well_formed part)
