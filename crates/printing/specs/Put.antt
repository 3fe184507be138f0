-- Terms of the contracts of functions that put a text together; the promises of the programs do not cite them.
use Rattle.std.specs.Prelude.{◌≡◌, List, ℕ, ◌+◌, ◌≤◌, length}
use Rattle.std.proofs.lemmas.List.Edits.{sets}
use Rattle.printing.specs.declared.put.Text.{Text}

-- the buffer has room for bytes behind the text
abbrev pub Fits : Text → List ℕ → Type 0
Fits text bytes = text.length + length bytes ≤ length text.buffer.now

-- bytes were put behind a text, and every other byte of its buffer stays
pub record Put (before after : Text) (bytes : List ℕ) : Type 0 where
  pub same : after.buffer.ghost_name ≡ before.buffer.ghost_name
  pub place : after.length ≡ before.length + length bytes
  pub stored : after.buffer.now ≡ sets before.buffer.now before.length bytes
