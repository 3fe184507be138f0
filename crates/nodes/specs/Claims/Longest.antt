-- What it is to be the longest run (document 01, "update-nodes"), and the claims that the runs of this crate are.
use Rattle.std.specs.Prelude.{ℕ, ◌≤◌, ◌<◌, ◌≡◌, List, [], ◌∷◌, ◌++◌, length, take, drop}
use Rattle.journal.specs.declared.operation.Operation.{Operation}
use Rattle.journal.specs.Journal.{opcode}
use Rattle.nodes.specs.Run.{area_words, cost, run, cut}

-- 01: "the longest run of operations .. that fits 1,019 words": the first operations of a list, which fit, and no more of them do
pub record LongestOf (os run : List Operation) : Type 0 where
  pub first : run ≡ take (length run) os
  pub fits : cost run ≤ area_words
  pub no_longer : (n : ℕ) → length run < n → n ≤ length os → area_words < cost (take n os)

-- every operation has the opcode
abbrev pub AllOf : ℕ → List Operation → Type 0
AllOf code [] = Unit {0}
AllOf code (o ∷ os) = (opcode o ≡ code) × AllOf code os

-- The arithmetic on three counts gives the longest run of deletes, then updates, then additions.
abbrev pub CutIsLongest : Type 0
CutIsLongest = (ds us adds : List Operation) → AllOf 1 ds → AllOf 2 us → AllOf 3 adds
    → let c = cut (record { deletes = length ds; updates = length us; additions = length adds }) in
    LongestOf (ds ++ (us ++ adds)) (take c.deletes ds ++ (take c.updates us ++ take c.additions adds))

-- The run of a list from a state on is the longest.
abbrev pub LongestRun : Type 0
LongestRun = (os : List Operation) (state : ℕ) → LongestOf (drop state os) (run os state)
