-- Choosing of a list by a test, and of the records of a buffer.
use Rattle.std.specs.Prelude.{Bool, cond, List, [], ◌∷◌}

-- What a test chooses of a list, each element as it is read, in order.
unfoldable pub chosen_by : {A B : Type 0} → (A → Bool) → (A → B) → List A → List B
chosen_by test reading [] = []
chosen_by test reading (x ∷ xs) =
    let rest = chosen_by test reading xs in
    let more = reading x ∷ rest in
    cond (test x) more rest
