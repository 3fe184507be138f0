-- The claims about totals hold.
use Rattle.std.specs.Prelude.{IsOk}
use mathlib.Core.Path.{◌≡◌, refl, sym, ap, ◌∙◌}
use mathlib.Core.Bool.{true, false≢true}
use mathlib.Core.List.{List, [], ◌∷◌}
use Prim.Native.Nat.{ℕ, zero, suc, ◌+◌}
use native.Mathlib.Nat.{add-zero}
use native.Mathlib.Omega.{arith}
use lib.ListN.{length, get_or, replicate}
use Rattle.words.proofs.Choice.{decide}
use Rattle.totals.specs.declared.adding.Totals.{Totals}
use Rattle.totals.specs.Adding.{totals_of, no_totals, sums, all_fit, added_to, totals_after}
use Rattle.totals.specs.Claims.Totals.{added_all, AllTaken, AllSized, figure_over, SumsOfAll, NoTrace, FromNothing, exchanged, reordered, Reverses, InAnyOrder, TakenExactly, RefusedWhole, TotalsReadings, TotalsClaims}
use Rattle.totals.proofs.Taken.{taken}
use Rattle.totals.proofs.Joining.{totals_join}
use Rattle.totals.proofs.Sums.{length_sums, get_d_sums, sums_swap, fit_before, fit_all, fit_each, both, added, not_added}

refused_whole : RefusedWhole
refused_whole t m e =
    decide (all_fit (both t m))
    (λ f. absurd (false≢true (sym (rw (added t m f) at e))))
    (λ f. rw (not_added t m f))

taken_exactly : TakenExactly
taken_exactly t m h s =
    let each : (i : ℕ) → get_or (both t m) i 0 ≡ get_or t.figures i 0 + get_or m.figures i 0 = λ i. get_d_sums t.figures m.figures i (h ∙ sym s) in
    (λ f. rw (added t m (fit_all (both t m) (λ i. rw (each i) (f i)))), λ e i. rw (each i) at (fit_each (both t m) i (taken t m e).0))

-- totals of 35 figures keep 35
pub sized : (t m : Totals) → length t.figures ≡ 35 → length m.figures ≡ 35 → IsOk (added_to t m) → length (totals_after t m).figures ≡ 35
sized t m h s e = rw (taken t m e).1 (length_sums t.figures m.figures (h ∙ sym s) ∙ s)

sums_of_all : SumsOfAll
unfolding added_all figure_over
sums_of_all t [] i h s f = sym (add-zero _)
sums_of_all t (m ∷ ms) i h s f =
    sums_of_all (totals_after t m) ms i (sized t m h s.0 f.0) s.1 f.1
    ∙ rw (taken t m f.0).1 (omega (arith, get_d_sums t.figures m.figures i (h ∙ sym s.0)))

-- zeros, and 0 behind them
zeros : (n i : ℕ) → get_or (replicate {A = ℕ} n 0) i 0 ≡ 0
zeros zero i = refl
zeros (suc n) zero = refl
zeros (suc n) (suc i) = zeros n i

no_trace : NoTrace
no_trace = (refl, zeros 35)

from_nothing : FromNothing
from_nothing ms i s f = sums_of_all no_totals ms i refl s f ∙ omega (arith, zeros 35 i)

-- two traces, one after the other in either order
swapped : (t a b : Totals) (ms : List Totals) → length t.figures ≡ 35 → AllSized (a ∷ b ∷ ms) → AllTaken t (a ∷ b ∷ ms) →
    IsOk (added_to t b) × IsOk (added_to (totals_after t b) a) × (totals_after (totals_after t b) a ≡ (totals_after (totals_after t a) b))
swapped t a b ms h s f =
    let p = taken t a f.0 in
    let q = taken (totals_of (both t a)) b (rw p.1 at f.1.0) in
    let same = sums_swap t.figures a.figures b.figures in
    let fit : all_fit (sums (both t b) a.figures) ≡ true = ap all_fit same ∙ q.0 in
    let long = length_sums t.figures b.figures (h ∙ sym s.1.0) ∙ s.1.0 ∙ sym s.0 in
    let first = added t b (fit_before (both t b) a.figures long fit) in
    rw (first, added (totals_of (both t b)) a fit, p.1, q.1) (refl, refl, ap totals_of same)

-- an exchange keeps what is claimed
exchange : (k : ℕ) (t : Totals) (ms : List Totals) → length t.figures ≡ 35 → AllSized ms → AllTaken t ms →
    AllSized (exchanged k ms) × AllTaken t (exchanged k ms) × (added_all t (exchanged k ms) ≡ added_all t ms)
unfolding added_all exchanged
exchange k t [] h s f = (s, f, refl)
exchange k t (a ∷ []) h s f = (s, f, refl)
exchange zero t (a ∷ b ∷ ms) h s f =
    let w = swapped t a b ms h s f in
    ((s.1.0, (s.0, s.1.1)), (w.0, (w.1, rw w.2 f.1.1)), ap (λ (u : Totals). added_all u ms) w.2)
exchange (suc k) t (a ∷ b ∷ ms) h s f =
    let r = exchange k (totals_after t a) (b ∷ ms) (sized t a h s.0 f.0) s.1 f.1 in
    ((s.0, r.0), (f.0, r.1), r.2)

reverses : Reverses
unfolding exchanged reordered
reverses a b c = refl

in_any_order : InAnyOrder
unfolding reordered
in_any_order t ms [] h s f = (f, refl)
in_any_order t ms (k ∷ ks) h s f =
    let e = exchange k t ms h s f in
    let r = in_any_order t (exchanged k ms) ks h e.0 e.1 in
    (r.0, r.1 ∙ e.2)

readings : TotalsReadings
unfolding sums all_fit added_to
readings = tt

pub totals_claims : TotalsClaims
totals_claims =
    record {
      sums_of_all = sums_of_all;
      no_trace = no_trace;
      from_nothing = from_nothing;
      reverses = reverses;
      in_any_order = in_any_order;
      totals_join = totals_join;
      taken_exactly = taken_exactly;
      refused_whole = refused_whole;
      readings = readings;
    }
