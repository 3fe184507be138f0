-- What is claimed of the definitions of `Session`.
use Rattle.std.specs.Prelude.{ℕ, ◌≡◌, true, List}
use Rattle.properties.specs.Changes.{Change, is_due}
use Rattle.properties.specs.Session.{after, state}

-- 02: "a state that this node's session never carries" is refused. A state that it carries into a call: so many areas went before, and something is due.
abbrev pub Carried : List Change → ℕ → Type 0
Carried cs s = (n : ℕ) × (is_due (after n cs) ≡ true) × (state n cs ≡ s)
