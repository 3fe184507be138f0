-- What is claimed of every session of get-indices, cited by the contract of `call` (document 01, "get-indices"; document 02, M-105).
use Rattle.std.specs.Prelude.{ℕ, ◌≤◌, ◌≡◌, true, false, List, length, take}
use Rattle.words.specs.Numbers.{Bytes}
use Rattle.inventory.specs.Inventory.{well_formed}
use Rattle.inventory.specs.Listing.{Entry, listed}
use Rattle.words.specs.Reading.{read, readings}
use Rattle.indices.specs.Reading.{reading}
use Rattle.calls.specs.GetIndices.{askable}
use Rattle.calls.specs.Buffer.{Found}
use Rattle.calls.specs.Claims.Session.{is_answered, Among}
use Rattle.calls.specs.Claims.IndexSession.{Held, start, after, standing, Session, WellMade, handed_out}

-- 01: "over an unchanged inventory the answered calls from Starting Number 1, each followed by its Next Starting Number up to status 0, hand
-- out the whole list once."
pub record HandedOut (i : List ℕ) (edition flag type : ℕ) (es : List Entry) (h : Held) : Type 0 where
  pub handed : readings reading h.session.areas ≡ read (take (handed_out es h.session) es)
  pub bounded : length h.session.areas ≤ length es
  -- until status 0 any call with the next number and an area of 1,036 bytes or more inside memory is answered
  pub answers : askable flag type ≡ true → 1 ≤ length es → h.session.done ≡ false → (c : Found) → WellMade i edition flag type h c → is_answered c ≡ true

-- So the session ends: as many calls that are well made when they come as there are entries suffice, where the type may be asked for and has one.
abbrev pub Ends : List ℕ → ℕ → ℕ → ℕ → List Entry → List Found → Type 0
Ends i edition flag type es cs = askable flag type ≡ true → 1 ≤ length es → (n : ℕ) → Among after (WellMade i edition flag type) start cs n → length es ≤ n
    → (standing cs).session.done ≡ true

abbrev pub WholeList : Type 0
WholeList = (i : List ℕ) (edition flag type : ℕ) → Bytes i → well_formed i ≡ true → (cs : List Found) → Session i edition flag type cs
    → let es = listed flag type i in HandedOut i edition flag type es (standing cs) × Ends i edition flag type es cs
