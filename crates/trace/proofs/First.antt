-- A report of a difference names the first.
use mathlib.Core.Path.{◌≡◌, refl, sym, ap, ◌∙◌}
use mathlib.Core.Bool.{Bool, true, false, ◌&&◌, true≢false}
use mathlib.Core.List.{List, [], ◌∷◌}
use Prim.Native.Nat.{ℕ, suc, ◌+◌, ◌≤◌, ◌<◌}
use native.Mathlib.Omega.{arith}
use lib.Dec.{eqb}
use lib.ListN.{length, take, get_or}
use lib.Seq.{take-length}
use borrow.Author.Tests.{eqb-true, eqb-false, eq-eqb}
use Rattle.words.proofs.Choice.{choose, and_left, and_right}
use Rattle.records.specs.Records.{kind_of, records}
use Rattle.records.specs.Cutting.{run}
use Rattle.trace.specs.declared.report.Report.{Report}
use Rattle.trace.specs.declared.report.Report.TheVariants.{Agreed, Differs, Malformed}
use Rattle.trace.specs.Trace.{is_before, is_after, is_setting, body_of, is_good, is_settable}
use Rattle.trace.specs.Playing.{Platform, Waiting, none, call, State, begin, is_over, agreed, stopped, faulted, kept, setting, common, compared, called, calling, played, step, unanswered, concluded, reader, replay_of}
use Rattle.records.proofs.Feeding.{run_stopped}
use Rattle.trace.proofs.Reader.{sticky, ways}
use Rattle.trace.specs.Claims.First.{DifferAt, Place, FirstDifference}

-- ---- two buffers

common_within : (a b : List ℕ) → (common a b ≤ length a) × (common a b ≤ length b)
unfolding common
common_within [] b = (omega arith, omega arith)
common_within (x ∷ xs) [] = (omega arith, omega arith)
common_within (x ∷ xs) (y ∷ ys) = let more = common_within xs ys in
    choose (eqb x y) (λ (n : ℕ). (n ≤ suc (length xs)) × (n ≤ suc (length ys))) {x = suc (common xs ys)} {y = 0} (λ _. (omega (arith, more.0), omega (arith, more.1))) (λ _. (omega arith, omega arith))

common_same : (a b : List ℕ) → take (common a b) a ≡ take (common a b) b
unfolding common
common_same [] b = refl
common_same (x ∷ xs) [] = refl
common_same (x ∷ xs) (y ∷ ys) = choose (eqb x y) (λ (n : ℕ). take n (x ∷ xs) ≡ take n (y ∷ ys)) {x = suc (common xs ys)} {y = 0}
    (λ e. rw (eqb-true x y e, common_same xs ys)) (λ _. refl)

-- buffers of which all is common are the same
all_common : (a b : List ℕ) → common a b ≡ length a → common a b ≡ length b → a ≡ b
all_common a b e f =
    sym (take-length a) ∙ ap (λ (n : ℕ). take n a) (sym e) ∙ common_same a b ∙ ap (λ (n : ℕ). take n b) f ∙ take-length b

common_ends : (a b : List ℕ) → common a b < length a → common a b < length b → get_or a (common a b) 0 ≡ get_or b (common a b) 0 → ⊥
unfolding common
common_ends [] b = λ h g e. omega arith
common_ends (x ∷ xs) [] = λ h g e. omega arith
common_ends (x ∷ xs) (y ∷ ys) = choose (eqb x y) (λ (n : ℕ). n < suc (length xs) → n < suc (length ys) → get_or (x ∷ xs) n 0 ≡ get_or (y ∷ ys) n 0 → ⊥) {x = suc (common xs ys)} {y = 0}
    (λ _ h g e. common_ends xs ys (omega arith) (omega arith) e) (λ f _ _ e. eqb-false x y f e)

-- where not all of both is common
differ_at : (recorded ours : List ℕ) → (eqb (common recorded ours) (length recorded) && eqb (common recorded ours) (length ours)) ≡ false → DifferAt recorded ours (common recorded ours)
differ_at recorded ours e = record {
  same = common_same recorded ours;
  in_recorded = (common_within recorded ours).0;
  in_ours = (common_within recorded ours).1;
  unlike = common_ends recorded ours;
  not-all = λ f g. true≢false (sym (rw (eq-eqb _ _ f, eq-eqb _ _ g)) ∙ e);
}

-- the ways of a comparison
pub compared_ways : (c : ℕ) (recorded ours : List ℕ) (P : Report → Type 0) → (recorded ≡ ours → P (Agreed (c + 1))) → ((k : ℕ) → DifferAt recorded ours k → P (Differs (c + 1) k)) → P (compared c recorded ours)
unfolding compared
compared_ways c recorded ours P same other =
    let n = common recorded ours in
    choose (eqb n (length recorded) && eqb n (length ours)) P
    (λ t. same (all_common recorded ours (eqb-true n (length recorded) (and_left _ _ t)) (eqb-true n (length ours) (and_right (eqb n (length recorded)) _ t))))
    (λ t. other n (differ_at recorded ours t))

-- ---- one record

abbrev pub is_differs : Report → Bool
is_differs (Agreed c) = false
is_differs (Differs n k) = true
is_differs (Malformed n) = false

abbrev number_in : Report → ℕ
number_in (Agreed c) = 0
number_in (Differs n k) = n
number_in (Malformed n) = 0

abbrev offset_in : Report → ℕ
offset_in (Agreed c) = 0
offset_in (Differs n k) = k
offset_in (Malformed n) = 0

not_agreed : {c n k : ℕ} → Agreed c ≡ Differs n k → ⊥
not_agreed e = true≢false (sym (ap is_differs e))

not_malformed : {a n k : ℕ} → Malformed a ≡ Differs n k → ⊥
not_malformed e = true≢false (sym (ap is_differs e))

-- what a record was that came to a difference
record Astray (p : Platform) (s : State) (r : List ℕ) (calls number offset : ℕ) : Type 0 where
  args : List ℕ
  waits : s.waiting ≡ call args
  good : is_good r ≡ true
  after : kind_of r ≡ 33
  counted : number ≡ calls + 1
  differ : DifferAt (body_of r) (called p s args).args offset

module _ (p : Platform) (n k : ℕ) where
  module _ (s : State) (c : ℕ) (going : s.report ≡ Agreed c) (r : List ℕ) where
    abbrev Gone : State → Type 0
    Gone x = x.report ≡ Differs n k → Astray p s r c n k

    agrees_not : (x : Report) → x ≡ s.report → x ≡ Differs n k → ⊥
    agrees_not x e f = not_agreed (sym (e ∙ going) ∙ f)

    by_fault : Gone (faulted s)
    unfolding faulted
    by_fault e = absurd (not_malformed e)

    by_call : (args : List ℕ) → s.waiting ≡ call args → is_good r ≡ true → kind_of r ≡ 33 → Gone (calling p s args (body_of r))
    unfolding calling
    by_call args w g a =
        compared_ways (agreed s.report) (body_of r) (called p s args).args (λ (x : Report). x ≡ Differs n k → Astray p s r c n k)
        (λ _ e. absurd (not_agreed e))
        (λ same d e. record {
          args = args;
          waits = w;
          good = g;
          after = a;
          counted = sym (ap number_in e) ∙ ap (λ (x : Report). agreed x + 1) going;
          differ = rw (← ap offset_in e) d;
        })

    by_setting : Gone (setting s (body_of r))
    unfolding setting
    by_setting = choose (is_settable s.memory (body_of r)) Gone (λ _ e. absurd (agrees_not s.report refl e)) (λ _. by_fault)

    by_kept : Gone (kept s (body_of r))
    unfolding kept
    by_kept e = absurd (agrees_not s.report refl e)

    by_played : is_good r ≡ true → (w : Waiting) → s.waiting ≡ w → Gone (played p s w (kind_of r) (body_of r))
    by_played g none w = choose (is_before (kind_of r)) Gone (λ _. by_kept) (λ _. choose (is_setting (kind_of r)) Gone (λ _. by_setting) (λ _. by_fault))
    by_played g (call args) w = choose (is_after (kind_of r)) Gone (λ a. by_call args w g (eqb-true (kind_of r) 33 a)) (λ _. by_fault)

    astray : Gone (step p s r)
    unfolding stopped
    astray = ways p s r (ap is_over going) Gone by_fault (λ _ g. by_played g s.waiting refl)

  -- ---- all records

  over_by : (s : State) (x : Report) → s.report ≡ x → stopped s ≡ is_over x
  unfolding stopped
  over_by s x e = ap is_over e

  abbrev Found : State → List (List ℕ) → Type 0
  Found s rs = (calls : ℕ) × ((n ≡ calls + 1) × Place p s rs calls k)

  found : (s : State) (rs : List (List ℕ)) (c : ℕ) → s.report ≡ Agreed c → (run (step p) s rs).report ≡ Differs n k → Found s rs
  unfolding run
  found s [] c going e = absurd (not_agreed (sym going ∙ e))
  found s (r ∷ rs) c going e = by (λ d f. found (step p s r) rs d f e) (step p s r).report refl
    where
      later : Found (step p s r) rs → Found s (r ∷ rs)
      later more =
          let at = more.1.1 in (
            more.0,
            (
              more.1.0,
              record {
                before = r ∷ at.before;
                recorded = at.recorded;
                behind = at.behind;
                args = at.args;
                there = ap (λ (l : List (List ℕ)). r ∷ l) at.there;
                waits = at.waits;
                agreed = at.agreed;
                good = at.good;
                after = at.after;
                differ = at.differ;
              },
            ),
          )

      here : (step p s r).report ≡ Differs n k → Found s (r ∷ rs)
      here f =
          let at = astray s c going r f in
          (c, (at.counted, record { before = []; recorded = r; behind = rs; args = at.args; there = refl; waits = at.waits; agreed = going; good = at.good; after = at.after; differ = at.differ }))

      -- a replay that has stopped stands as it did
      as_it_was : stopped (step p s r) ≡ true → (step p s r).report ≡ Differs n k
      as_it_was t = ap (λ (x : State). x.report) (sym (run_stopped (reader p) (sticky p) (step p s r) rs t)) ∙ e

      by : ((d : ℕ) → (step p s r).report ≡ Agreed d → Found (step p s r) rs) → (x : Report) → (step p s r).report ≡ x → Found s (r ∷ rs)
      by more (Agreed d) f = later (more d f)
      by more (Differs a b) f = here (as_it_was (over_by (step p s r) (Differs a b) f))
      by more (Malformed a) f = absurd (not_malformed (sym f ∙ as_it_was (over_by (step p s r) (Malformed a) f)))

pub fault_not : (s : State) {n k : ℕ} → (faulted s).report ≡ Differs n k → ⊥
unfolding faulted
fault_not s e = not_malformed e

-- an end makes no difference of a replay that goes on
ended_difference : (s : State) {n k : ℕ} → (concluded s).report ≡ Differs n k → s.report ≡ Differs n k
unfolding concluded
ended_difference s {n} {k} = choose (stopped s) (λ (x : State). x.report ≡ Differs n k → s.report ≡ Differs n k) (λ _ e. e) (λ _. by s.waiting)
  where
    by : (w : Waiting) → (unanswered s w).report ≡ Differs n k → s.report ≡ Differs n k
    by none e = e
    by (call args) e = absurd (fault_not s e)

pub first_difference : FirstDifference
unfolding replay_of
first_difference p m trace n k e = found p n k (begin m) (records trace) 0 refl (ended_difference (run (step p) (begin m) (records trace)) e)
