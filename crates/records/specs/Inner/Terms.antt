-- Terms of contracts inside the crate.
use Rattle.std.specs.Prelude.{ℕ, ◌+◌, ◌≡◌, Bool, List, length, drop}
use Rattle.records.specs.Choosing.{chosen_by}

-- `items` gives the records of a buffer, or what is read of each. Of what a test chooses of them n stand before a place, and the
-- rest are chosen from there on.
pub record Before {A B : Type 0} (test : A → Bool) (reading : A → B) (items : List ℕ → List A) (b : List ℕ) (at n : ℕ) : Type 0 where
  pub number : length (chosen_by test reading (items b)) ≡ n + length (chosen_by test reading (items (drop at b)))
  pub rest : drop n (chosen_by test reading (items b)) ≡ chosen_by test reading (items (drop at b))
