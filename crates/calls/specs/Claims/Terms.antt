-- Terms of the claims, in the papers' own numerals (document 01, "The argument buffer"; document 02, M-105).
use Rattle.std.specs.Prelude.{ℕ, ◌+◌, ◌*◌, ◌-◌, ◌≤◌, ◌≡◌, List}
use Rattle.words.specs.Numbers.{be, be32}
use Rattle.words.specs.Claims.Exactly.{Exactly}
use Rattle.inventory.specs.declared.edition.Edition.{Edition}
use Rattle.dump.specs.declared.registration.Registration.{Registration}
use Rattle.calls.specs.declared.reading_record.ReadingRecord.{ReadingRecord}
use Rattle.calls.specs.Status.{number_of}
use Rattle.calls.specs.Buffer.{Left, found}

-- a status below 0, as a 32-bit word
abbrev pub minus : ℕ → ℕ
minus n = 0x1_0000_0000 - n

-- 02, M-105: a record by its four numbers, "flag, type, next Starting Number and the inventory's 32-bit edition number"
abbrev pub naming : ℕ → ℕ → ℕ → ℕ → ReadingRecord
naming flag type number edition = record { flag = flag; item_type = type; number = record { 0 = number }; edition = record { 0 = edition } }

-- 01: number 0: "none of these: a status is in the buffer"
abbrev pub HasStatus : Left → Type 0
HasStatus x = number_of x.number ≡ 0

-- 01: "Token, number of inputs, number of outputs, the inputs, the outputs; the first output is the status."
abbrev pub Asks : ℕ → ℕ → ℕ → List ℕ → Type 0
Asks token inputs outputs b = (be32 b 0 ≡ token) × (be32 b 4 ≡ inputs) × (be32 b 8 ≡ outputs)

abbrev pub status_of : List ℕ → Left → ℕ
status_of b x = be32 x.args (12 + 4 * be32 b 4)

-- 01: "A call is answered when its number is 0 and its status 0 or 1; otherwise it is refused."
abbrev pub Refused : List ℕ → Left → Type 0
Refused b x = HasStatus x → status_of b x ≤ 1 → ⊥

-- The terms in numerals: claims speak through them.
pub record TermsExactly : Type 0 where
  pub minus_words : (n : ℕ) → n ≤ 0x1_0000_0000 → minus n + n ≡ 0x1_0000_0000
  pub has_status : (x : Left) → Exactly (HasStatus x) (number_of x.number ≡ 0)
  pub status_is : (b : List ℕ) (x : Left) → status_of b x ≡ be 4 x.args (12 + 4 * be 4 b 4)
  pub refused : (b : List ℕ) (x : Left) → Exactly (Refused b x) (number_of x.number ≡ 0 → be 4 x.args (12 + 4 * be 4 b 4) ≤ 1 → ⊥)
  pub asks_is : (t i o : ℕ) (b : List ℕ) → Exactly (Asks t i o b) ((be 4 b 0 ≡ t) × (be 4 b 4 ≡ i) × (be 4 b 8 ≡ o))
  pub reading_named : (flag type number edition : ℕ)
      → naming flag type number edition ≡ record { flag = flag; item_type = type; number = record { 0 = number }; edition = record { 0 = edition } }
  -- what a call finds, each in its place
  pub found-is : (args memory journal inventory : List ℕ) (edition : Edition) (registration : Registration) (reading : ReadingRecord)
      → found args memory journal inventory edition registration reading
      ≡ record { args = args; memory = memory; journal = journal; inventory = inventory; edition = edition; registration = registration; reading = reading }
