-- What the functions that judge and read one record are held to.
use Rattle.std.specs.Prelude.{ℕ, ◌+◌, ◌≤◌, Bool, cond, ◌&&◌, List, leb, length, drop, Option, None, Some}
use Rattle.records.specs.Records.{size_of, first_record, whole}
use Rattle.inventory.specs.Inventory.{code_limit, head_size, good_numbers, good_record}

-- a record of this size, kind and flag can stand where so many bytes are left
abbrev pub framed_at : ℕ → ℕ → ℕ → ℕ → Bool
framed_at left size kind flag = leb size left && good_numbers size kind flag

-- the size of a buffer's first record, where that is neither cut off nor otherwise not good
abbrev pub good_size : List ℕ → Option ℕ
good_size b = cond (whole (first_record b) && good_record (first_record b)) (Some (size_of b)) None

-- The record at a place can be read: it is inside the buffer, and its size is that of a head and a code.
pub record Readable (s : List ℕ) (at : ℕ) : Type 0 where
  pub large : head_size + 1 ≤ size_of (drop at s)
  pub small : size_of (drop at s) ≤ head_size + code_limit
  pub inside : at + size_of (drop at s) ≤ length s
