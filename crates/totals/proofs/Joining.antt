-- Totals of two lists of traces, added to each other, are those of all.
use mathlib.Core.Path.{◌≡◌, refl, sym, ap, ◌∙◌}
use mathlib.Core.Bool.{true}
use mathlib.Core.List.{List, [], ◌∷◌, ◌++◌}
use Prim.Native.Nat.{ℕ, zero, suc, ◌+◌}
use native.Mathlib.Omega.{arith}
use native.Mathlib.Nat.{zero-add}
use lib.ListN.{length, replicate}
use Rattle.totals.specs.declared.adding.Totals.{Totals}
use Rattle.totals.specs.Adding.{totals_of, no_totals, sums, all_fit}
use Rattle.totals.specs.Claims.Totals.{added_all, AllTaken, AllSized, TotalsJoin}
use Rattle.totals.proofs.Sums.{length_sums, fit_before, both, added}
use Rattle.totals.proofs.Taken.{taken}

-- ---- sums in any grouping

sums_both : (a b : List ℕ) → sums a b ≡ sums b a
unfolding sums
sums_both [] [] = refl
sums_both [] (y ∷ b) = refl
sums_both (x ∷ a) [] = refl
sums_both (x ∷ a) (y ∷ b) = let e : x + y ≡ y + x = omega arith in rw (e, sums_both a b)

sums_group : (a b c : List ℕ) → sums (sums a b) c ≡ sums a (sums b c)
unfolding sums
sums_group [] b c = refl
sums_group (x ∷ a) [] c = refl
sums_group (x ∷ a) (y ∷ b) [] = refl
sums_group (x ∷ a) (y ∷ b) (z ∷ c) = let e : x + y + z ≡ x + (y + z) = omega arith in rw (e, sums_group a b c)

sums_none : (n : ℕ) (m : List ℕ) → length m ≡ n → sums (replicate n 0) m ≡ m
unfolding sums
sums_none zero [] h = refl
sums_none zero (x ∷ m) h = absurd (omega arith)
sums_none (suc n) [] h = absurd (omega arith)
sums_none (suc n) (x ∷ m) h = rw (zero-add x, sums_none n m (omega arith))

-- ---- all figures together

total : List Totals → List ℕ
total [] = replicate 35 0
total (m ∷ ms) = sums m.figures (total ms)

total_long : (ms : List Totals) → AllSized ms → length (total ms) ≡ 35
unfolding total
total_long [] s = refl
total_long (m ∷ ms) s = length_sums m.figures (total ms) (s.0 ∙ sym (total_long ms s.1)) ∙ total_long ms s.1

total_join : (ms ns : List Totals) → AllSized ns → total (ms ++ ns) ≡ sums (total ms) (total ns)
unfolding total
total_join [] ns s = sym (sums_none 35 (total ns) (total_long ns s))
total_join (m ∷ ms) ns s = ap (sums m.figures) (total_join ms ns s) ∙ sym (sums_group m.figures (total ms) (total ns))

sums_last : (t : List ℕ) → length t ≡ 35 → sums t (replicate 35 0) ≡ t
sums_last t h = sums_both t (replicate 35 0) ∙ sums_none 35 t h

-- where all fit together, none is refused
fits_taken : (t : Totals) (ms : List Totals) → length t.figures ≡ 35 → AllSized ms → all_fit (sums t.figures (total ms)) ≡ true
    → AllTaken t ms × (added_all t ms ≡ totals_of (sums t.figures (total ms)))
unfolding total added_all
fits_taken t [] h s f = (tt, ap totals_of (sym (sums_last t.figures h)))
fits_taken t (m ∷ ms) h s f =
    let e = sums_group t.figures m.figures (total ms) in
    let long = length_sums t.figures m.figures (h ∙ sym s.0) ∙ s.0 in
    let fit = ap all_fit e ∙ f in
    let a = added t m (fit_before (both t m) (total ms) (long ∙ sym (total_long ms s.1)) fit) in
    let r = fits_taken (totals_of (both t m)) ms long s.1 fit in
    rw a ((refl, r.0), r.1 ∙ ap totals_of e)

-- and the other way round
taken_fits : (t : Totals) (ms : List Totals) → length t.figures ≡ 35 → AllSized ms → all_fit t.figures ≡ true → AllTaken t ms → all_fit (sums t.figures (total ms)) ≡ true
unfolding total
taken_fits t [] h s f a = ap all_fit (sums_last t.figures h) ∙ f
taken_fits t (m ∷ ms) h s f a =
    let p = taken t m a.0 in
    let long = length_sums t.figures m.figures (h ∙ sym s.0) ∙ s.0 in
    ap all_fit (sym (sums_group t.figures m.figures (total ms))) ∙ taken_fits (totals_of (both t m)) ms long s.1 p.0 (rw p.1 at a.1)

sized_left : (ms ns : List Totals) → AllSized ms → AllSized ns → AllSized (ms ++ ns)
sized_left [] ns s u = u
sized_left (m ∷ ms) ns s u = (s.0, sized_left ms ns s.1 u)

none_fit : all_fit no_totals.figures ≡ true
unfolding all_fit
none_fit = refl

pub totals_join : TotalsJoin
totals_join ms ns s u a =
    let both_sized = sized_left ms ns s u in
    let whole : sums (replicate 35 0) (total (ms ++ ns)) ≡ sums (total ms) (total ns) = sums_none 35 (total (ms ++ ns)) (total_long (ms ++ ns) both_sized) ∙ total_join ms ns u in
    let fit = ap all_fit (sym whole) ∙ taken_fits no_totals (ms ++ ns) refl both_sized none_fit a in
    let same = total_long ms s ∙ sym (total_long ns u) in
    let first = fits_taken no_totals ms refl s (ap all_fit (sums_none 35 (total ms) (total_long ms s)) ∙ fit_before (total ms) (total ns) same fit) in
    let second = fits_taken no_totals ns refl u (ap all_fit (sums_none 35 (total ns) (total_long ns u)) ∙ fit_before (total ns) (total ms) (sym same) (ap all_fit (sums_both (total ns) (total ms)) ∙ fit)) in
    let all = fits_taken no_totals (ms ++ ns) refl both_sized (ap all_fit whole ∙ fit) in
    (first.0, (second.0, rw (first.1, second.1, all.1, sums_none 35 (total ms) (total_long ms s), sums_none 35 (total ns) (total_long ns u), whole) (added (totals_of (total ms)) (totals_of (total ns)) fit)))
