-- What reading an index area gives, exactly when: the count, then one set after the other (document 01, "Readers"). Cited by the contract of `check_area`.
use Rattle.std.specs.Prelude.{ℕ, suc, ◌+◌, ◌%◌, ◌<◌, ◌≤◌, ◌≡◌, List, [], ◌∷◌, ◌++◌, length, take, drop, replicate}
use Rattle.words.specs.Numbers.{be}
use Rattle.words.specs.Claims.Exactly.{NonZero}
use Rattle.words.specs.Reading.{Reading, read, Refuses, joined}
use Rattle.words.specs.Claims.Words.{JoinedExactly}
use Rattle.inventory.specs.Listing.{Entry}
use Rattle.indices.specs.declared.reading.Refusal.{Refusal}
use Rattle.indices.specs.Reading.{refusal_number, read_from, reading}

-- "a non-empty code followed by one to four NULs and nothing else"
pub record CodeField (field code : List ℕ) (nuls : ℕ) : Type 0 where
  pub some : 1 ≤ length code
  pub non_zero : NonZero code
  pub one : 1 ≤ nuls
  pub four : nuls ≤ 4
  pub filled : field ≡ code ++ replicate nuls 0

-- what 32 leaves: neither zero nor above 1,024, and a multiple of 4
pub record GoodLength (n : ℕ) : Type 0 where
  pub some : 1 ≤ n
  pub few : n ≤ 1024
  pub fours : n % 4 ≡ 0

-- A set at a byte offset that gives the length n, with `left` sets after it; `x` is the reading from it on.
pub record SetExactly (area : List ℕ) (at left n : ℕ) (x : Reading Entry Refusal) : Type 0 where
  -- "31 under 8 bytes left"
  pub short : length area < at + 8 → Refuses refusal_number x 31 at
  -- "32 length zero, above 80 or no multiple of 4"; 02, M-113: "the reader (refusal 32 above 1,024)"
  pub uneven : at + 8 ≤ length area → (GoodLength n → ⊥) → Refuses refusal_number x 32 at
  -- "31 code past the end"
  pub past : at + 8 ≤ length area → GoodLength n → length area < at + 8 + n → Refuses refusal_number x 31 at
  -- "33 not a non-empty code followed by one to four NULs and nothing else."
  pub no_code : GoodLength n → at + 8 + n ≤ length area → ((code : List ℕ) (nuls : ℕ) → CodeField (take n (drop (at + 8) area)) code nuls → ⊥)
      → Refuses refusal_number x 33 at
  pub entry : GoodLength n → at + 8 + n ≤ length area → (code : List ℕ) (nuls : ℕ) → CodeField (take n (drop (at + 8) area)) code nuls
      → x ≡ joined (read (record { index = be 4 area at; code = code } ∷ [])) (read_from left area (at + 8 + n))

pub record IndexReaderExactly : Type 0 where
  pub in_turn : JoinedExactly Entry Refusal
  -- "30 under 4 bytes (0)"
  pub short : (area : List ℕ) → length area < 4 → Refuses refusal_number (reading area) 30 0
  -- the first word is the number of sets, and the first set stands at byte 4
  pub sets : (area : List ℕ) → 4 ≤ length area → reading area ≡ read_from (be 4 area 0) area 4
  -- "Bytes after the last set aren't looked at."
  pub none : (area : List ℕ) (at : ℕ) → read_from 0 area at ≡ read []
  pub set : (area : List ℕ) (at left : ℕ) → SetExactly area at left (be 4 area (at + 4)) (read_from (suc left) area at)
