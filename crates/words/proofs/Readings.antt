-- Laws of readings, one after the other.
use mathlib.Core.Path.{◌≡◌, refl, sym, ap, ◌∙◌}
use mathlib.Core.List.{List, [], ◌∷◌, ◌++◌, append_assoc, append-nil}
use Prim.Native.Nat.{ℕ}
use Rattle.words.specs.Reading.{Reading, read, refused, joined, readings}

module _ {E R : Type 0} where
  joined_assoc : (x y z : Reading E R) → joined (joined x y) z ≡ joined x (joined y z)
  unfolding joined
  joined_assoc (refused n i) y z = refl
  joined_assoc (read xs) (refused n i) z = refl
  joined_assoc (read xs) (read ys) (refused n i) = refl
  joined_assoc (read xs) (read ys) (read zs) = ap read (append_assoc xs ys zs)

  joined-none : (x : Reading E R) → joined x (read []) ≡ x
  unfolding joined
  joined-none (read xs) = ap read (append-nil xs)
  joined-none (refused n i) = refl

  none_joined : (x : Reading E R) → joined (read []) x ≡ x
  unfolding joined
  none_joined (read xs) = refl
  none_joined (refused n i) = refl

  pub readings_none : (reading : List ℕ → Reading E R) → readings reading [] ≡ read []
  unfolding readings
  readings_none reading = refl

  -- one area more
  pub readings_more : (reading : List ℕ → Reading E R) (areas : List (List ℕ)) (area : List ℕ) → readings reading (areas ++ (area ∷ [])) ≡ joined (readings reading areas) (reading area)
  unfolding readings
  readings_more reading [] area = joined-none (reading area) ∙ sym (none_joined (reading area))
  readings_more reading (a ∷ areas) area = rw (readings_more reading areas area) (sym (joined_assoc (reading a) (readings reading areas) (reading area)))

  pub joined_read : (xs ys : List E) → joined {R = R} (read xs) (read ys) ≡ read (xs ++ ys)
  unfolding joined
  joined_read xs ys = refl
