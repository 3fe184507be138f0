-- Terms of contracts inside the crate.
use Rattle.std.specs.Prelude.{ℕ, ◌-◌, cond, List, [], ◌∷◌, ◌++◌, ltb}
use Rattle.month_table.specs.Table.{status_word, last_word}

-- the words of the labels with the comma after them
unfoldable pub word : ℕ → List ℕ
word k = cond (ltb k 8) (status_word k ++ (44 ∷ [])) (last_word (k - 8))
