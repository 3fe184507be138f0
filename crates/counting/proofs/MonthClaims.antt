-- The counts of a trace exactly: what a call adds to each figure, then the calls of a trace one after the other.
use mathlib.Core.Path.{◌≡◌, refl, sym, ap, ◌∙◌}
use mathlib.Core.Bool.{Bool, true, false, cond, ◌&&◌, not, and-false, false≢true, and_assoc}
use mathlib.Core.List.{List, [], ◌∷◌, ◌++◌}
use mathlib.Core.Logic.{◌⊎◌, ⊎_elim}
use Prim.Native.Nat.{ℕ, zero, suc, ◌+◌, ◌*◌, ◌-◌, ◌<◌, ◌≤◌}
use native.Mathlib.Nat.{add-zero}
use native.Mathlib.Omega.{arith}
use lib.Dec.{leb, eqb}
use lib.ListN.{length, get_or, drop, replicate, get_or-append}
use borrow.Author.Tests.{leb-true, le-leb, lt-leb, eqb-true, eq-eqb, ne_eqb}
use Rattle.words.specs.Numbers.{le}
use Rattle.words.specs.Reading.{Reading, read, refused}
use Rattle.words.proofs.Choice.{choose, decide, and_left, and_right}
use Rattle.records.specs.Records.{kind_of, records}
use Rattle.journal.specs.declared.operation.Operation.{Operation}
use Rattle.node_area.specs.declared.reading.Refusal.{Refusal}
use Rattle.node_area.specs.Reading.{reading}
use Rattle.calls.specs.declared.status.Number.{Number}
use Rattle.calls.specs.declared.status.Number.TheVariants.{Given, Short, NoOutputs, TooMany}
use Rattle.calls.specs.declared.status.Status.{Status}
use Rattle.calls.specs.declared.status.Status.TheVariants.{Done, Again, Malformed, Parameter, Changed, AlreadyRegistered, DumpActive}
use Rattle.calls.specs.Status.{number_of, is_given, status_word}
use Rattle.calls.specs.Buffer.{token, is_nodes, asks, Found, Left, Outcome, outcome, call_of}
use Rattle.calls.proofs.Heads.{asked, number_is, outcome_ways}
use Rattle.calls.proofs.Calls.{status_word_lem}
use Rattle.trace.specs.Trace.{is_after, is_good}
use Rattle.trace.specs.Playing.{Platform, Waiting, none, call, State, begin, stopped, step}
use Rattle.counting.specs.declared.counts.Counts.{Counts}
use Rattle.counting.specs.Area.{tally_by, tally_of}
use Rattle.counting.specs.Counts.{no_counts, place_of, row_of, one_more, handed_out, counted}
use Rattle.counting.specs.Figures.{sum_of, figures_in}
use Rattle.counting.specs.OfTrace.{is_taken, made_by, made, calls_made, counted_all, counts_of}
use Rattle.counting.specs.Claims.Month.{status_in, is_of, sum_over, statuses, is_answered, operations_in, operations_of, words_of, MonthExactly, EachMonth, MadeExactly, HandedRead, EachMade}
use Rattle.counting.proofs.Growing.{rows_counted, rows_all}
use Rattle.counting.proofs.Summing.{sum_next, length_figures}
use Rattle.counting.proofs.Sums.{place_low}
use Rattle.counting.proofs.Ways.{counted_ways, counted_is, handed_is, handed_not}
use Rattle.counting.proofs.OwnBuffer.{word_kept}
use Rattle.counting.proofs.Consistent.{behind}

-- ---- sums of rows

-- a call more in one of them adds one
sum_in : (n at i : ℕ) (rows : List ℕ) → at ≤ i → i < at + n → i < length rows → sum_of n (drop at (one_more rows i)) ≡ sum_of n (drop at rows) + 1
unfolding sum_of
sum_in n at i [] l h b = absurd (omega arith)
sum_in zero at i (r ∷ rows) l h b = absurd (omega arith)
sum_in (suc n) zero zero (r ∷ rows) l h b = omega arith
sum_in (suc n) zero (suc i) (r ∷ rows) l h b = omega (arith, sum_in n zero i rows (omega arith) (omega arith) (omega arith))
sum_in (suc n) (suc at) zero (r ∷ rows) l h b = absurd (omega arith)
sum_in (suc n) (suc at) (suc i) (r ∷ rows) l h b = sum_in (suc n) at i rows (omega arith) (omega arith) (omega arith)

-- one in another row adds nothing
sum_out : (n at i : ℕ) (rows : List ℕ) → (at ≤ i → i < at + n → ⊥) → sum_of n (drop at (one_more rows i)) ≡ sum_of n (drop at rows)
unfolding sum_of
sum_out n at i [] h = refl
sum_out zero at i (r ∷ rows) h = refl
sum_out (suc n) zero zero (r ∷ rows) h = absurd (h (omega arith) (omega arith))
sum_out (suc n) zero (suc i) (r ∷ rows) h = ap (λ (k : ℕ). r + k) (sum_out n zero i rows (λ l b. h (omega arith) (omega arith)))
sum_out (suc n) (suc at) zero (r ∷ rows) h = refl
sum_out (suc n) (suc at) (suc i) (r ∷ rows) h = sum_out (suc n) at i rows (λ l b. h (omega arith) (omega arith))

-- no calls
sum_none : (k n at : ℕ) → sum_of n (drop at (replicate k 0)) ≡ 0
unfolding sum_of
sum_none k zero at = refl
sum_none zero (suc n) zero = refl
sum_none zero (suc n) (suc at) = refl
sum_none (suc k) (suc n) zero = omega (arith, sum_none k n zero)
sum_none (suc k) (suc n) (suc at) = sum_none k (suc n) at

-- one row is its own sum
sum_row : (rows : List ℕ) (at : ℕ) → get_or rows at 0 ≡ sum_of 1 (drop at rows)
unfolding sum_of
sum_row rows at = omega (arith, rw (add-zero at) at (sum_next rows at 0))

-- ---- statuses

-- each status of a call has one of the seven places
pub known : (s : Status) → (place_of (status_word s) < 7) × (get_or statuses (place_of (status_word s)) 0 ≡ status_word s)
unfolding place_of
known Done = (omega arith, refl)
known Again = (omega arith, refl)
known Malformed = (omega arith, refl)
known Parameter = (omega arith, refl)
known Changed = (omega arith, refl)
known AlreadyRegistered = (omega arith, refl)
known DumpActive = (omega arith, refl)

placed : (k : ℕ) → k < 7 → place_of (get_or statuses k 0) ≡ k
unfolding place_of
placed zero h = refl
placed (suc zero) h = refl
placed (suc (suc zero)) h = refl
placed (suc (suc (suc zero))) h = refl
placed (suc (suc (suc (suc zero)))) h = refl
placed (suc (suc (suc (suc (suc zero))))) h = refl
placed (suc (suc (suc (suc (suc (suc zero)))))) h = refl
placed (suc (suc (suc (suc (suc (suc (suc k))))))) h = absurd (omega arith)

low : (k status : ℕ) → get_or statuses k 0 ≡ status → k < 2 → status ≤ 1
low zero status e h = omega arith
low (suc zero) status e h = omega arith
low (suc (suc k)) status e h = absurd (omega arith)

-- ---- tests of a call

given_test : (n : Number) → eqb (number_of n) 0 ≡ is_given n
given_test Given = refl
given_test Short = refl
given_test NoOutputs = refl
given_test TooMany = refl

module _ (x : Left) where
  abbrev t : ℕ
  t = token x.args

  of_is : (u : ℕ) → is_of u x ≡ true → (is_given x.number ≡ true) × (t ≡ u)
  of_is u e =
      let h : (is_given x.number && eqb t u) ≡ true = rw (given_test x.number) at e in
      (and_left _ _ h, eqb-true t u (and_right (is_given x.number) _ h))

  of_by : (u : ℕ) → is_given x.number ≡ true → t ≡ u → is_of u x ≡ true
  of_by u g e = rw (given_test x.number, g) (eq-eqb t u e)

  answered_test : is_answered x ≡ (is_given x.number && (is_nodes x.args && leb (status_in x) 1))
  unfolding asks
  answered_test = simp (given_test, and_assoc)

  answered_is : is_answered x ≡ true → (is_given x.number ≡ true) × (is_nodes x.args ≡ true) × (t ≡ 1) × (status_in x ≤ 1)
  answered_is e =
      let h = sym answered_test ∙ e in
      let n = and_right (is_given x.number) _ h in
      (and_left _ _ h, and_left _ _ n, (asked 1 2 1 x.args (and_left _ _ n)).0, leb-true (status_in x) 1 (and_right (is_nodes x.args) _ n))

  answered_by : is_given x.number ≡ true → is_nodes x.args ≡ true → status_in x ≤ 1 → is_answered x ≡ true
  answered_by g n l = answered_test ∙ rw (g, n) (le-leb (status_in x) 1 l)

-- ---- what a call adds to a sum of rows

-- the call has one of n rows
abbrev Hit : Left → ℕ → ℕ → Type 0
Hit x at n =
    let row = row_of (t x) (status_in x) in
    (is_given x.number ≡ true) × ((1 ≤ t x) × (t x ≤ 4) × (place_of (status_in x) < 7) × (at ≤ row) × (row < at + n))

abbrev after : Counts → Left → Counts
after c x = counted c x.number x.args x.memory

-- the calls in n rows
abbrev calls_from : ℕ → ℕ → Counts → ℕ
calls_from at n c = sum_of n (drop at c.rows)

module _ (x : Left) (c : Counts) (size : length c.rows ≡ 28) where
  grows : (at n : ℕ) (b : Bool) → (b ≡ true → Hit x at n) → (Hit x at n → b ≡ true) → calls_from at n (after c x) ≡ calls_from at n c + cond b 1 0
  grows at n true there back =
      let h = there refl in
      rw (counted_is x.args x.memory c x.number h.0 (omega arith) (omega arith) (omega arith))
      (sum_in n at (row_of (t x) (status_in x)) c.rows (omega arith) (omega arith) (omega arith))
  grows at n false there back =
      counted_ways x.args x.memory c x.number (λ (d : Counts). calls_from at n d ≡ calls_from at n c + 0)
      (λ g l h p. omega (arith, sum_out n at (row_of (t x) (status_in x)) c.rows (λ from to. false≢true (back (g, omega arith)))))
      (omega arith)

-- what it adds to the operations and words
tally_operations : (r : Reading Operation Refusal) (area : List ℕ) → (tally_by r area).operations ≡ operations_in r
tally_operations (read os) area = refl
tally_operations (refused r at) area = refl

module _ (x : Left) (c : Counts) where
  abbrev Handed : Bool → Counts → Type 0
  Handed b d = (d.operations ≡ c.operations + cond b (operations_of x) 0) × (d.used ≡ c.used + cond b (words_of x) 0)

  hands : Handed (is_answered x) (after c x)
  unfolding tally_of
  hands = decide (is_answered x)
      (λ e.
      let a = answered_is x e in
      let o = asked 1 2 1 x.args a.1 in
      let place = place_low (status_in x) a.3 in
      let is = counted_is x.args x.memory c x.number a.0 (omega arith) (omega arith) (omega arith) in
      rw (e, is, handed_is x.args x.memory (status_in x) o.0 o.1 o.2 a.3)
      (ap (λ (k : ℕ). c.operations + k) (tally_operations (reading _ _) _), refl))
      (λ e. rw e
      (counted_ways x.args x.memory c x.number (Handed false)
      (λ g _ _ _. rw (← handed_not x.args x.memory (status_in x) (λ n l. false≢true (sym e ∙ answered_by x g n l))) (omega arith))
      (omega arith)))

module _ (f : Found) where
  abbrev x : Left
  x = call_of f

  -- the status is one of the seven
  status_is : is_given x.number ≡ true → status_in x ≡ status_word (outcome f).status
  status_is g = rw (word_kept f 4 (omega arith)) (status_word_lem f (ap is_given (sym (number_is f)) ∙ g))

  status_known : is_given x.number ≡ true → (place_of (status_in x) < 7) × (get_or statuses (place_of (status_in x)) 0 ≡ status_in x)
  status_known g = rw (status_is g) (known (outcome f).status)

  -- a status of 0 or 1 for token 1 tells of a call with its own counts
  own_counts : t x ≡ 1 → status_word (outcome f).status ≤ 1 → is_nodes f.args ≡ true
  own_counts e = outcome_ways f (λ (o : Outcome). status_word o.status ≤ 1 → is_nodes f.args ≡ true)
      (λ i _. i)
      (λ i _. absurd (omega (arith, word_kept f 0 (omega arith), (asked 2 5 2 f.args i).0)))
      (λ i _. absurd (omega (arith, word_kept f 0 (omega arith), (asked 3 3 1 f.args i).0)))
      (λ i _. absurd (omega (arith, word_kept f 0 (omega arith), (asked 4 2 1 f.args i).0)))
      (λ h. absurd (omega arith))

  own_kept : is_nodes x.args ≡ is_nodes f.args
  unfolding asks
  own_kept = rw (word_kept f 0 (omega arith), word_kept f 4 (omega arith), word_kept f 8 (omega arith))

  module _ (c : Counts) (size : length c.rows ≡ 28) where
    row_grows : (u place : ℕ) → 1 ≤ u → u ≤ 4 → place < 7
        → let at = 7 * (u - 1) + place in calls_from at 1 (after c x) ≡ calls_from at 1 c + cond (is_of u x && eqb (status_in x) (get_or statuses place 0)) 1 0
    row_grows u place l h b =
        let word = get_or statuses place 0 in
        grows x c size (7 * (u - 1) + place) 1 (is_of u x && eqb (status_in x) word)
        (λ e.
        let o = of_is x u (and_left (is_of u x) _ e) in
        let at = ap place_of (eqb-true (status_in x) word (and_right (is_of u x) _ e)) ∙ placed place b in
        (o.0, omega arith))
        (λ hit.
        let at : place_of (status_in x) ≡ place = omega arith in
        let is = sym (status_known hit.0).1 ∙ ap (λ (k : ℕ). get_or statuses k 0) at in
        rw (of_by x u hit.0 (omega arith)) (eq-eqb (status_in x) word is))

    calls_grow : (u : ℕ) → 1 ≤ u → u ≤ 4 → let at = 7 * (u - 1) in calls_from at 7 (after c x) ≡ calls_from at 7 c + cond (is_of u x) 1 0
    calls_grow u l h =
        grows x c size (7 * (u - 1)) 7 (is_of u x)
        (λ e. let o = of_is x u e in (o.0, omega (arith, (status_known o.0).0)))
        (λ hit. of_by x u hit.0 (omega arith))

    answered_grow : calls_from 0 2 (after c x) ≡ calls_from 0 2 c + cond (is_answered x) 1 0
    answered_grow =
        grows x c size 0 2 (is_answered x)
        (λ e. let a = answered_is x e in (a.0, omega (arith, place_low (status_in x) a.3)))
        (λ hit.
        let few = low (place_of (status_in x)) (status_in x) (status_known hit.0).1 (omega arith) in
        answered_by x hit.0 (own_kept ∙ own_counts (omega arith) (omega (arith, status_is hit.0))) few)

-- ---- the calls of a trace

-- a list of what calls leave
data Calls : List Left → Type 0 where
  no_call : Calls []
  one_call : (f : Found) {xs : List Left} → Calls xs → Calls (call_of f ∷ xs)

module _ (p : Platform) where
  all_calls : (s : State) (rs : List (List ℕ)) → Calls (calls_made p s rs)
  unfolding calls_made made
  all_calls s [] = no_call
  all_calls s (r ∷ rs) = by (calls_made p (step p s r) rs) s.waiting (all_calls (step p s r) rs)
    where
      by : (ys : List Left) (w : Waiting) → Calls ys → Calls (cond (is_taken s r) (made_by p s w (kind_of r)) [] ++ ys)
      by ys none h = choose (is_taken s r) (λ (xs : List Left). Calls (xs ++ ys)) (λ _. h) (λ _. h)
      by ys (call args) h =
          choose (is_taken s r) (λ (xs : List Left). Calls (xs ++ ys))
          (λ _. choose (is_after (kind_of r)) (λ (xs : List Left). Calls (xs ++ ys)) (λ _. one_call _ h) (λ _. h))
          (λ _. h)

-- each call adds a number of its own to a figure
abbrev Adds : (Counts → ℕ) → (Left → ℕ) → Type 0
Adds F number = (f : Found) (c : Counts) → length c.rows ≡ 28 → F (after c (call_of f)) ≡ F c + number (call_of f)

module _ (F : Counts → ℕ) (number : Left → ℕ) (adds : Adds F number) where
  adds_all : (c : Counts) {xs : List Left} → Calls xs → length c.rows ≡ 28 → F (counted_all c xs) ≡ F c + sum_over number xs
  unfolding counted_all sum_over
  adds_all c no_call size = omega arith
  adds_all c (one_call f xs) size =
      omega (arith, adds f c size, adds_all (after c (call_of f)) xs (rows_counted c (call_of f).number (call_of f).args (call_of f).memory ∙ size))

module _ (p : Platform) (m trace : List ℕ) where
  abbrev c : Counts
  c = counts_of p m trace

  abbrev xs : List Left
  xs = calls_made p (begin m) (records trace)

  size : length c.rows ≡ 28
  unfolding counts_of
  size = rows_all no_counts xs

  from_none : (F : Counts → ℕ) (number : Left → ℕ) → Adds F number → F no_counts ≡ 0 → F c ≡ sum_over number xs
  unfolding counts_of
  from_none F number adds empty = omega (arith, adds_all F number adds no_counts (all_calls p (begin m) (records trace)) refl)

  calls_figure : (u : ℕ) → 1 ≤ u → u ≤ 4 → get_or (figures_in c) (27 + u) 0 ≡ calls_from (7 * (u - 1)) 7 c
  calls_figure zero l h = absurd (omega arith)
  calls_figure (suc zero) l h = behind c size _ 0
  calls_figure (suc (suc zero)) l h = behind c size _ 1
  calls_figure (suc (suc (suc zero))) l h = behind c size _ 2
  calls_figure (suc (suc (suc (suc zero)))) l h = behind c size _ 3
  calls_figure (suc (suc (suc (suc (suc u))))) l h = absurd (omega arith)

  month : MonthExactly (figures_in c) xs
  month =
      let n = size in
      record {
        size = length_figures c n;
        rows = λ u place l h b.
            let at = 7 * (u - 1) + place in
            get_or-append c.rows _ 0 at (omega arith) ∙ sum_row c.rows at
            ∙ from_none (calls_from at 1) _ (λ f d s. row_grows f d s u place l h b) (sum_none 28 1 at);
        calls = λ u l h.
            let at = 7 * (u - 1) in
            calls_figure u l h ∙ from_none (calls_from at 7) _ (λ f d s. calls_grow f d s u l h) (sum_none 28 7 at);
        operations = behind c n _ 4 ∙ from_none (λ (d : Counts). d.operations) _ (λ f d s. (hands (call_of f) d).0) refl;
        words = behind c n _ 5 ∙ from_none (λ (d : Counts). d.used) _ (λ f d s. (hands (call_of f) d).1) refl;
        available = behind c n _ 6 ∙ ap (λ (k : ℕ). 1019 * k) (from_none (calls_from 0 2) _ (λ f d s. answered_grow f d s) (sum_none 28 2 0));
      }

pub each_month : EachMonth
each_month = month

-- ---- the calls that a replay makes

made_exactly : (p : Platform) (s : State) → MadeExactly p s
unfolding calls_made made is_taken kind_of
made_exactly p s =
    record {
      none_left = refl;
      next = λ r rs. refl;
      call_made = λ r args going few good w k. rw (going, le-leb (s.records + 1) 4_294_967_295 (omega arith), good, w, k);
      stays = λ r e. rw (not_taken r e);
      idle = λ r w. choose (is_taken s r) (λ (x : List Left). x ≡ []) (λ _. rw w) (λ _. refl);
      other = λ r args w k. choose (is_taken s r) (λ (x : List Left). x ≡ []) (λ _. rw (w, ne_eqb (le 2 r 2) 33 k)) (λ _. refl);
    }
  where
    not_taken : (r : List ℕ) → (stopped s ≡ true) ⊎ ((4_294_967_295 ≤ s.records) ⊎ (is_good r ≡ false)) → (not (stopped s) && (leb (s.records + 1) 4_294_967_295 && is_good r)) ≡ false
    not_taken r e = ⊎_elim (λ (t : stopped s ≡ true). rw t)
        (λ (o : (4_294_967_295 ≤ s.records) ⊎ (is_good r ≡ false)). ⊎_elim
        (λ (h : 4_294_967_295 ≤ s.records). rw (lt-leb (s.records + 1) 4_294_967_295 (omega arith)) (and-false (not (stopped s))))
        (λ (g : is_good r ≡ false). rw (g, and-false (leb (s.records + 1) 4_294_967_295)) (and-false (not (stopped s))))
        o)
        e

handed_read : HandedRead
unfolding handed_out
handed_read status args memory n h = rw (n, le-leb status 1 h)

pub each_made : EachMade
each_made = (made_exactly, handed_read)
