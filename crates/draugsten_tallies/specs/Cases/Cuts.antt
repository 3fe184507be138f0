-- A cut inside each field of each kind of record, in bytes, cited by the contracts of the exports of an intake (document 02, M-109).
use Rattle.std.specs.Prelude.{ℕ, zero, suc, Bool, true, ◌&&◌, List, [], ◌∷◌, ◌++◌, T, take, drop}
use Rattle.words.specs.Claims.Cases.{all}
use Rattle.records.specs.Cutting.{fed}
use Rattle.tallies.specs.Cases.Readings.{delete, update, addition, unit, changed, gone}
use Rattle.intake.specs.Taking.{reader}
use Rattle.intake.specs.Cases.Readings.{stream, comes, ends}

-- A record behind another is cut: with its first k bytes they are all held, and an end says that record 2 is unfinished; a burst with the rest stores it.
abbrev pub cut_at : List ℕ → ℕ → Bool
cut_at r k =
    let begun = stream 40 (delete 10 ++ take k r) in
    comes begun (delete 10) 0 2 k && (ends begun 3 2 && comes (fed reader begun (drop k r)) (delete 10 ++ r) 0 3 0)

-- at every place from the first byte on
unfoldable pub cuts_to : ℕ → List ℕ → Bool
cuts_to zero r = true
cuts_to (suc k) r = cut_at r (suc k) && cuts_to k r

abbrev pub cuts : List Bool
cuts = cuts_to 9 (delete 10) ∷ cuts_to 9 (update 3) ∷ cuts_to 13 (addition 12) ∷ cuts_to 17 (unit 15 7) ∷ cuts_to 10 changed ∷ cuts_to 9 gone ∷ []

abbrev pub EachCut : Type 0
EachCut = T (all (λ (b : Bool). b) cuts)
