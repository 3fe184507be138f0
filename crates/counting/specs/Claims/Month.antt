-- `EachMonth` and `EachMade`, the counts of a trace exactly: how many of its calls have each token and status, and what the answered calls of
-- update-nodes handed out together
-- (document 02, M-111). Cited by the contract of `count_call`.
use Rattle.std.specs.Prelude.{ℕ, ◌+◌, ◌*◌, ◌-◌, ◌<◌, ◌≤◌, ◌≡◌, Bool, true, false, cond, ◌&&◌, List, [], ◌∷◌, ◌++◌, ◌⊎◌, leb, eqb, length, get_or}
use Rattle.words.specs.Numbers.{be, le}
use Rattle.words.specs.Reading.{Reading, read, refused}
use Rattle.records.specs.Records.{records}
use Rattle.journal.specs.declared.operation.Operation.{Operation}
use Rattle.node_area.specs.declared.reading.Refusal.{Refusal}
use Rattle.node_area.specs.Reading.{reading}
use Rattle.calls.specs.Status.{number_of}
use Rattle.calls.specs.Lent.{part_at}
use Rattle.calls.specs.Buffer.{Left, is_nodes}
use Rattle.calls.specs.Claims.Terms.{minus}
use Rattle.trace.specs.Trace.{is_good}
use Rattle.trace.specs.Playing.{Platform, none, call, State, begin, stopped, called, step}
use Rattle.counting.specs.Area.{tally_of}
use Rattle.counting.specs.OfTrace.{made, calls_made, counts_of}
use Rattle.counting.specs.Counts.{handed_out}
use Rattle.counting.specs.Figures.{figures_in}

-- the status of a call in its buffer
abbrev pub status_in : Left → ℕ
status_in x = be 4 x.args (12 + 4 * be 4 x.args 4)

-- "calls with argument answer 0", of a token
abbrev pub is_of : ℕ → Left → Bool
is_of t x = eqb (number_of x.number) 0 && eqb (be 4 x.args 0) t

-- a number for each call, added up
unfoldable pub sum_over : (Left → ℕ) → List Left → ℕ
sum_over number [] = 0
sum_over number (x ∷ xs) = number x + sum_over number xs

-- "0 done, 1 call again, -1 .., -3 .., -9 .., -10 ..", and -4 of M-105: the statuses in the order of their counts
abbrev pub statuses : List ℕ
statuses = 0 ∷ 1 ∷ minus 1 ∷ minus 3 ∷ minus 4 ∷ minus 9 ∷ minus 10 ∷ []

-- an answered call of update-nodes: token 1, two inputs, one output, number 0 and status 0 or 1
abbrev pub is_answered : Left → Bool
is_answered x =
    is_of 1 x && (eqb (be 4 x.args 4) 2 && (eqb (be 4 x.args 8) 1 && leb (status_in x) 1))

-- the operations that its area is read as, and the words in front of its terminator, which `RunCounted` holds to the run
abbrev pub operations_in : Reading Operation Refusal → ℕ
operations_in (read os) = length os
operations_in (refused r at) = 0

abbrev pub operations_of : Left → ℕ
operations_of x = operations_in (reading (be 4 x.args 16) (part_at x.memory (be 4 x.args 12) 4096))

abbrev pub words_of : Left → ℕ
words_of x = (tally_of (be 4 x.args 16) (part_at x.memory (be 4 x.args 12) 4096)).words

-- the 35 figures of a trace whose replay makes the calls xs: a row for each token and status, then the calls of each token, then operations,
-- words used and words available
pub record MonthExactly (figures : List ℕ) (xs : List Left) : Type 0 where
  pub size : length figures ≡ 35
  -- "for each token 1 to 4, calls with argument answer 0 and each status's count"
  pub rows : (t place : ℕ) → 1 ≤ t → t ≤ 4 → place < 7
      → get_or figures (7 * (t - 1) + place) 0 ≡ sum_over (λ x. cond (is_of t x && eqb (status_in x) (get_or statuses place 0)) 1 0) xs
  pub calls : (t : ℕ) → 1 ≤ t → t ≤ 4 → get_or figures (27 + t) 0 ≡ sum_over (λ x. cond (is_of t x) 1 0) xs
  -- "for node updates also operations handed out, words used (operators and operands), words available (1,019 for each answered call)"
  pub operations : get_or figures 32 0 ≡ sum_over (λ x. cond (is_answered x) (operations_of x) 0) xs
  pub words : get_or figures 33 0 ≡ sum_over (λ x. cond (is_answered x) (words_of x) 0) xs
  pub available : get_or figures 34 0 ≡ 1019 * sum_over (λ x. cond (is_answered x) 1 0) xs

abbrev pub EachMonth : Type 0
EachMonth = (p : Platform) (m trace : List ℕ) → MonthExactly (figures_in (counts_of p m trace)) (calls_made p (begin m) (records trace))

-- ---- the calls that a replay makes: a 33 makes the call that waits for it, and no other record makes one

pub record MadeExactly (p : Platform) (s : State) : Type 0 where
  pub none_left : calls_made p s [] ≡ []
  pub next : (r : List ℕ) (rs : List (List ℕ)) → calls_made p s (r ∷ rs) ≡ made p s r ++ calls_made p (step p s r) rs
  pub call_made : (r args : List ℕ) → stopped s ≡ false → s.records < 4_294_967_295 → is_good r ≡ true → s.waiting ≡ call args → le 2 r 2 ≡ 33
      → made p s r ≡ called p s args ∷ []
  pub stays : (r : List ℕ) → (stopped s ≡ true) ⊎ ((4_294_967_295 ≤ s.records) ⊎ (is_good r ≡ false)) → made p s r ≡ []
  pub idle : (r : List ℕ) → s.waiting ≡ none → made p s r ≡ []
  pub other : (r args : List ℕ) → s.waiting ≡ call args → (le 2 r 2 ≡ 33 → ⊥) → made p s r ≡ []

-- what an answered call of update-nodes handed out is read from its area
abbrev pub HandedRead : Type 0
HandedRead = (status : ℕ) (args memory : List ℕ) → is_nodes args ≡ true → status ≤ 1
    → handed_out status args memory ≡ tally_of (be 4 args 16) (part_at memory (be 4 args 12) 4096)

abbrev pub EachMade : Type 0
EachMade = ((p : Platform) (s : State) → MadeExactly p s) × HandedRead
