-- A session: a list of calls in which each is refused, for whatever reason, or continues what the answered ones before it began.
use Rattle.std.specs.Prelude.{ℕ, suc, Bool, cond, List, [], ◌∷◌, ◌++◌, eqb}
use Rattle.words.specs.Numbers.{be32}
use Rattle.calls.specs.Buffer.{Found, status_at, call_of, answered}

abbrev pub is_answered : Found → Bool
is_answered c = answered c.args (call_of c)

abbrev pub status_then : Found → ℕ
status_then c = be32 (call_of c).args (status_at c.args)

-- Where a session stands: what the next answered call has to carry, whether a call said done, the answered calls' areas.
pub record Standing (K : Type 0) : Type 0 where
  pub carried : K
  pub done : Bool
  pub areas : List (List ℕ)

-- An answered call leaves what the next one has to carry, and an area; a refused one leaves the standing as it was.
unfoldable pub after_call : {K : Type 0} → (Found → K) → (Found → List ℕ) → Standing K → Found → Standing K
after_call carriedBy area_of st c =
    cond (is_answered c) (record { carried = carriedBy c; done = eqb (status_then c) 0; areas = st.areas ++ (area_of c ∷ []) }) st

-- ---- a list of calls, over anything that a call moves and any rule for a call

-- what stands after the list
abbrev pub over : {S C : Type 0} → (S → C → S) → S → List C → S
over after s [] = s
over after s (c ∷ cs) = over after (after s c) cs

-- each call keeps the rule where it comes
abbrev pub Each : {S C : Type 0} → (S → C → S) → (S → C → Type 0) → S → List C → Type 0
Each after Rule s [] = Unit {0}
Each after Rule s (c ∷ cs) = Rule s c × Each after Rule (after s c) cs

-- so many calls, at least, keep the rule where they come
pub data Among {S C : Type 0} (after : S → C → S) (Rule : S → C → Type 0) : S → List C → ℕ → Type 0 where
  none : {s : S} → Among after Rule s [] 0
  counted : {s : S} {c : C} {cs : List C} {n : ℕ} → Rule s c → Among after Rule (after s c) cs n → Among after Rule s (c ∷ cs) (suc n)
  passed : {s : S} {c : C} {cs : List C} {n : ℕ} → Among after Rule (after s c) cs n → Among after Rule s (c ∷ cs) n
