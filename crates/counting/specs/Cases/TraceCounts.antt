-- The counts of traces in bytes (document 02, M-111): the sessions of answered calls of M-110, counted.
use Rattle.std.specs.Prelude.{ℕ, Bool, ◌&&◌, List, [], ◌∷◌, ◌++◌, T, eqb, replicate}
use Rattle.words.specs.Claims.Cases.{same, every}
use Rattle.words.specs.Numbers.{word_bytes}
use Rattle.journal.specs.Claims.Journal.{short}
use Rattle.calls.specs.Claims.Terms.{minus}
use Rattle.calls.specs.Cases.Readings.{inventory_of}
use Rattle.trace.specs.Cases.Trace.{before}
use Rattle.trace.specs.Cases.Session.{made, updates, whole}
use Rattle.counting.specs.declared.counts.Counts.{Counts}
use Rattle.counting.specs.OfTrace.{counts_of}

-- over a journal with a delete, an inventory of two sensors of type 9, the edition 5 and 4,300 zeros
abbrev pub counted_in : List ℕ → Counts
counted_in trace = counts_of (record { journal = short 8 1 10; inventory = inventory_of (3 ∷ 3 ∷ []); edition = record { 0 = 5 } }) (replicate 4300 0) trace

-- the calls of the four tokens, by the statuses 0, 1, -1, -3, -4, -9, -10, the operations and the words
abbrev pub reads : List ℕ → List ℕ → List ℕ → List ℕ → ℕ → ℕ → Counts → Bool
reads nodes indices dumps properties operations used c = same c.rows (nodes ++ (indices ++ (dumps ++ properties)))
    && (eqb c.operations operations && eqb c.used used)

abbrev pub none : List ℕ
none = replicate 7 0

abbrev pub cases : List Bool
cases =
    -- every call in its row: a delete is an operator and an operand; two answers of get-indices, with status 1 and 0; a registration, and one that is refused
    reads (1 ∷ 0 ∷ 0 ∷ 0 ∷ 0 ∷ 0 ∷ 0 ∷ []) (1 ∷ 1 ∷ 0 ∷ 0 ∷ 0 ∷ 0 ∷ 0 ∷ []) (1 ∷ 0 ∷ 0 ∷ 0 ∷ 0 ∷ 1 ∷ 0 ∷ []) none 1 2 (counted_in whole)
    -- a refused call hands out nothing, whatever stands in the area
    ∷ reads (1 ∷ 0 ∷ 0 ∷ 1 ∷ 0 ∷ 0 ∷ 0 ∷ []) none none none 1 2 (counted_in (updates 0 ++ made (1 ∷ 2 ∷ 1 ∷ 0 ∷ 4 ∷ 9 ∷ []) (1 ∷ 2 ∷ 1 ∷ 0 ∷ 4 ∷ minus 3 ∷ [])))
    -- update-properties; another token nowhere; a 32 without its 33 makes no call
    ∷ reads none none none (0 ∷ 0 ∷ 0 ∷ 1 ∷ 0 ∷ 0 ∷ 0 ∷ []) 0 0 (counted_in (made (4 ∷ 2 ∷ 1 ∷ 1 ∷ 1 ∷ 9 ∷ []) (4 ∷ 2 ∷ 1 ∷ 1 ∷ 1 ∷ minus 3 ∷ [])))
    ∷ reads none none none none 0 0 (counted_in (made (5 ∷ 2 ∷ 1 ∷ 0 ∷ 1 ∷ 9 ∷ []) (5 ∷ 2 ∷ 1 ∷ 0 ∷ 1 ∷ minus 3 ∷ [])))
    ∷ reads none none none none 0 0 (counted_in (before (word_bytes (1 ∷ 2 ∷ 1 ∷ 0 ∷ 1 ∷ 9 ∷ []))))
    ∷ []

abbrev pub TraceCountReadings : Type 0
TraceCountReadings = T (every cases)
