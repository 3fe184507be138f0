-- Bytes of a burst that go into the buffer of held bytes.
use Rattle.std.specs.Prelude.{ℕ, ◌+◌, ◌-◌, min, ◌≡◌, List, ◌++◌, length, take, drop}
use Rattle.std.proofs.lemmas.List.Edits.{sets}

-- Bytes of a burst, from a place on, that went behind the held ones until there were so many, or the burst ended.
pub record Filled (buffer : List ℕ) (held : ℕ) (bytes : List ℕ) (from upto : ℕ) (after : List ℕ) (n : ℕ) : Type 0 where
  pub amount : n ≡ min (upto - held) (length bytes - from)
  pub whole : after ≡ sets buffer held (take n (drop from bytes))
  pub front : take (held + n) after ≡ take held buffer ++ take n (drop from bytes)
