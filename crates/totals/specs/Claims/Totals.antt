-- What is claimed of totals (document 02, M-111: "Where none is refused, counts are the sums of the traces' counts in any order").
use Rattle.std.specs.Prelude.{ℕ, zero, suc, ◌+◌, ◌≤◌, ◌≡◌, Bool, false, ◌&&◌, List, [], ◌∷◌, ◌++◌, T, length, get_or, set, Ok, is_ok, IsOk}
use Rattle.words.specs.Claims.Cases.{yes, no, agree}
use Rattle.totals.specs.declared.adding.Totals.{Totals}
use Rattle.totals.specs.Adding.{totals_of, no_totals, added_to, totals_after}

-- traces one after the other
unfoldable pub added_all : Totals → List Totals → Totals
added_all t [] = t
added_all t (m ∷ ms) = added_all (totals_after t m) ms

-- none of them is refused
abbrev pub AllTaken : Totals → List Totals → Type 0
AllTaken t [] = Unit {0}
AllTaken t (m ∷ ms) = IsOk (added_to t m) × AllTaken (totals_after t m) ms

-- each has 35 figures
abbrev pub AllSized : List Totals → Type 0
AllSized [] = Unit {0}
AllSized (m ∷ ms) = (length m.figures ≡ 35) × AllSized ms

-- the sum of one figure over all
unfoldable pub figure_over : ℕ → List Totals → ℕ
figure_over i [] = 0
figure_over i (m ∷ ms) = get_or m.figures i 0 + figure_over i ms

-- Where none is refused, each figure is the sum of the traces'.
abbrev pub SumsOfAll : Type 0
SumsOfAll = (t : Totals) (ms : List Totals) (i : ℕ) → length t.figures ≡ 35 → AllSized ms → AllTaken t ms
    → get_or (added_all t ms).figures i 0 ≡ get_or t.figures i 0 + figure_over i ms

-- Totals of no trace: 35 figures, each 0.
abbrev pub NoTrace : Type 0
NoTrace = (length no_totals.figures ≡ 35) × ((i : ℕ) → get_or no_totals.figures i 0 ≡ 0)

-- From nothing, each figure is the sum of the traces' alone.
abbrev pub FromNothing : Type 0
FromNothing = (ms : List Totals) (i : ℕ) → AllSized ms → AllTaken no_totals ms → get_or (added_all no_totals ms).figures i 0 ≡ figure_over i ms

-- a list with two neighbours exchanged; any order comes of such exchanges, one after the other
module _ {A : Type 0} where
  unfoldable pub exchanged : ℕ → List A → List A
  exchanged k [] = []
  exchanged k (a ∷ []) = a ∷ []
  exchanged zero (a ∷ b ∷ xs) = b ∷ a ∷ xs
  exchanged (suc k) (a ∷ b ∷ xs) = a ∷ exchanged k (b ∷ xs)

  unfoldable pub reordered : List ℕ → List A → List A
  reordered [] xs = xs
  reordered (k ∷ ks) xs = reordered ks (exchanged k xs)

-- The exchanges do exchange: three of them turn three traces round.
abbrev pub Reverses : Type 0
Reverses = (a b c : Totals) → reordered (0 ∷ 1 ∷ 0 ∷ []) (a ∷ b ∷ c ∷ []) ≡ c ∷ b ∷ a ∷ []

-- In any order: where none is refused in one, none is in any, and the totals are the same.
abbrev pub InAnyOrder : Type 0
InAnyOrder = (t : Totals) (ms : List Totals) (ks : List ℕ) → length t.figures ≡ 35 → AllSized ms → AllTaken t ms
    → AllTaken t (reordered ks ms) × (added_all t (reordered ks ms) ≡ added_all t ms)

-- Two lists of traces, each from nothing: where none is refused of both together, none is of either, and their totals added to each other are those of both.
abbrev pub TotalsJoin : Type 0
TotalsJoin =
    (ms ns : List Totals) → AllSized ms → AllSized ns → AllTaken no_totals (ms ++ ns)
    → AllTaken no_totals ms × (AllTaken no_totals ns × (added_to (added_all no_totals ms) (added_all no_totals ns)
    ≡ Ok (added_all no_totals (ms ++ ns))))

-- no sum passes 2^64 - 1
abbrev pub EachFits : Totals → Totals → Type 0
EachFits t m = (i : ℕ) → get_or t.figures i 0 + get_or m.figures i 0 ≤ 0xffff_ffff_ffff_ffff

-- A trace is taken where no sum passes 2^64 - 1, and only there.
abbrev pub TakenExactly : Type 0
TakenExactly = (t m : Totals) → length t.figures ≡ 35 → length m.figures ≡ 35
    → (EachFits t m → IsOk (added_to t m)) × (IsOk (added_to t m) → EachFits t m)

-- A refusal keeps the totals whole.
abbrev pub RefusedWhole : Type 0
RefusedWhole = (t m : Totals) → is_ok (added_to t m) ≡ false → totals_after t m ≡ t

-- totals with one figure, at a place
abbrev pub figure : ℕ → ℕ → Totals
figure i n = totals_of (set no_totals.figures i n)

-- one figure at 2^64 - 1, and one more
abbrev pub limit_at : ℕ → Bool
limit_at i =
    agree (λ (ts : Totals × Totals). is_ok (added_to ts.0 ts.1))
    (yes (no_totals, no_totals)
    ∷ yes (figure i 18446744073709551614, figure i 1)
    ∷ no (figure i 18446744073709551615, figure i 1)
    ∷ yes (figure i 18446744073709551615, no_totals)
    ∷ no (figure i 1, figure i 0xffff_ffff_ffff_ffff)
    ∷ [])

-- The first token's first status (0), the last token's last (27), the first token's calls (28), words used (33), words available (34).
abbrev pub TotalsReadings : Type 0
TotalsReadings = T (limit_at 0 && (limit_at 27 && (limit_at 28 && (limit_at 33 && limit_at 34))))

pub record TotalsClaims : Type 0 where
  pub sums_of_all : SumsOfAll
  pub no_trace : NoTrace
  pub from_nothing : FromNothing
  pub reverses : Reverses
  pub in_any_order : InAnyOrder
  pub totals_join : TotalsJoin
  pub taken_exactly : TakenExactly
  pub refused_whole : RefusedWhole
  pub readings : TotalsReadings
