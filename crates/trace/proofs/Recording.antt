-- The trace that our own calls make replays with all calls agreeing.
use mathlib.Core.Path.{◌≡◌, refl, sym, ap, ◌∙◌}
use mathlib.Core.Bool.{true}
use mathlib.Core.List.{List, [], ◌∷◌, ◌++◌, append_assoc, append-nil}
use Prim.Native.Nat.{ℕ, ◌+◌, ◌-◌, ◌≤◌, ◌<◌}
use native.Mathlib.Omega.{arith}
use native.Mathlib.Nat.{zero-add}
use lib.ListN.{length, take, drop, length-append}
use lib.Seq.{length-sets, take-append_seam, drop-append_seam}
use borrow.Author.Tests.{le-leb, eq-eqb}
use Rattle.words.specs.Numbers.{le}
use Rattle.records.specs.Records.{length_of, kind_of, size_of, first_record, records, whole}
use Rattle.records.specs.Cutting.{run}
use Rattle.records.proofs.Steps.{records-step, records_end}
use Rattle.calls.specs.Buffer.{found}
use Rattle.calls.proofs.Confined.{demand1}
use Rattle.trace.specs.declared.report.Report.{Report}
use Rattle.trace.specs.declared.report.Report.TheVariants.{Agreed, Differs}
use Rattle.trace.specs.Trace.{body_of, good_frame, is_good, is_settable}
use Rattle.trace.specs.Playing.{Platform, Waiting, none, call, State, begin, is_over, stopped, reader, kept, setting, common, compared, calling, played, step, concluded, replay_of}
use Rattle.trace.specs.Claims.Recording.{le_bytes, record_of, Deed, sets_memory, makes_call, Machine, fresh, left_by, after, after_all, trace_of, records_in, calls_in, Fits, AllFit, OwnTraceAgrees, DifferenceTold}
use Rattle.trace.specs.Claims.First.{DifferAt}
use Rattle.records.proofs.Feeding.{run_stopped}
use Rattle.trace.proofs.Reader.{sticky, concluded_stopped}
use Rattle.trace.proofs.First.{compared_ways}

-- ---- a record

module _ (kind : ℕ) (body : List ℕ) (low : 32 ≤ kind) (high : kind ≤ 34) (short : length body ≤ 4100) where
  abbrev r : List ℕ
  r = record_of kind body

  own_size : length r ≡ length body + 4
  unfolding record_of le_bytes
  own_size = omega arith

  own_length : length_of r ≡ length body + 2
  unfolding length_of le record_of le_bytes
  own_length = omega arith

  own_kind : kind_of r ≡ kind
  unfolding kind_of le record_of le_bytes
  own_kind = omega arith

  own_body : body_of r ≡ body
  unfolding record_of le_bytes
  own_body = refl

  own_good : is_good r ≡ true
  unfolding is_good whole good_frame
  own_good =
      rw (own_length, own_kind, own_size, le-leb 2 (length body + 2) (omega arith), eq-eqb (length body + 4) (length body + 2 + 2) (omega arith), le-leb (length body + 2) 4102 (omega arith), le-leb 32 kind low, le-leb kind 34 high)

  -- with anything behind it, it is the first
  module _ (rest : List ℕ) where
    length_is : length_of (r ++ rest) ≡ length body + 2
    unfolding length_of le record_of le_bytes
    length_is = omega arith

    size_is : size_of (r ++ rest) ≡ length r
    size_is = omega (arith, length_is, own_size)

    front_is : first_record (r ++ rest) ≡ r
    front_is = ap (λ (n : ℕ). take n (r ++ rest)) size_is ∙ take-append_seam r rest

    behind_is : drop (size_of (r ++ rest)) (r ++ rest) ≡ rest
    behind_is = ap (λ (n : ℕ). drop n (r ++ rest)) size_is ∙ drop-append_seam r rest

    records_first : records (r ++ rest) ≡ r ∷ records rest
    records_first = records-step (r ++ rest) 0 (omega (arith, own_size, length-append r rest)) ∙ rw (zero-add, front_is, behind_is)

-- the two records of a call
pair_first : (args recorded rest : List ℕ) → length args ≤ 4100 → length recorded ≤ 4100 → records (record_of 32 args ++ (record_of 33 recorded ++ rest)) ≡ record_of 32 args ∷ record_of 33 recorded ∷ records rest
pair_first args recorded rest a r =
    records_first 32 args (omega arith) (omega arith) a (record_of 33 recorded ++ rest)
    ∙ ap (λ (l : List (List ℕ)). record_of 32 args ∷ l) (records_first 33 recorded (omega arith) (omega arith) r rest)

-- ---- the replay of one

module _ (p : Platform) where
  -- a replay with nothing to tell, that has taken n records with c calls
  abbrev pub at : ℕ → ℕ → Waiting → Machine → State
  at n c w s = record { records = n; report = Agreed c; waiting = w; memory = s.memory; registration = s.registration; reading = s.reading }

  module _ (n c : ℕ) (w : Waiting) (s : Machine) (kind : ℕ) (body : List ℕ) (low : 32 ≤ kind) (high : kind ≤ 34) (short : length body ≤ 4100) (few : n + 1 ≤ 4_294_967_295) where
    plays : step p (at n c w s) (record_of kind body) ≡ played p (at n c w s) w kind body
    unfolding step stopped
    plays = rw (le-leb (n + 1) 4_294_967_295 few, own_good kind body low high short, own_kind kind body low high short, own_body kind body low high short)

  -- a buffer agrees with itself
  common-self : (b : List ℕ) → common b b ≡ length b
  unfolding common
  common-self [] = refl
  common-self (x ∷ xs) = rw (eq-eqb x x refl, common-self xs)

  compared_self : (c : ℕ) (b : List ℕ) → compared c b b ≡ Agreed (c + 1)
  unfolding compared
  compared_self c b = rw (common-self b, eq-eqb (length b) (length b) refl)

  -- the body of a 34
  body_size : (a : ℕ) (bs : List ℕ) → length (le_bytes 4 a ++ bs) ≡ length bs + 4
  unfolding le_bytes
  body_size a bs = omega arith

  bytes_are : (a : ℕ) (bs : List ℕ) → drop 4 (le_bytes 4 a ++ bs) ≡ bs
  unfolding le_bytes
  bytes_are a bs = refl

  address_is : (a : ℕ) (bs : List ℕ) → a < 0x1_0000_0000 → le 4 (le_bytes 4 a ++ bs) 0 ≡ a
  unfolding le_bytes le
  address_is a bs h = omega arith

  settable : (a : ℕ) (bs m : List ℕ) → Fits (length m) (sets_memory a bs) → is_settable m (le_bytes 4 a ++ bs) ≡ true
  unfolding is_settable
  settable a bs m h = rw (body_size a bs, address_is a bs h.0, le-leb 5 (length bs + 4) (omega (arith, h.1)), le-leb (a + (length bs + 4 - 4)) (length m) (omega (arith, h.3)))

  -- ---- a deed

  module _ (n c : ℕ) (s : Machine) where
    set_plays : (a : ℕ) (bs : List ℕ) → Fits (length s.memory) (sets_memory a bs) → n + 1 ≤ 4_294_967_295
        → step p (at n c none s) (record_of 34 (le_bytes 4 a ++ bs)) ≡ at (n + 1) c none (after p s (sets_memory a bs))
    unfolding setting
    set_plays a bs h few =
        plays n c none s 34 (le_bytes 4 a ++ bs) (omega arith) (omega arith) (omega (arith, h.2, body_size a bs)) few
        ∙ rw (settable a bs s.memory h, address_is a bs h.0, bytes_are a bs)

    -- a call with any recorded buffer
    pub pair_plays : (args recorded : List ℕ) → length args ≤ 4100 → length recorded ≤ 4100 → n + 2 ≤ 4_294_967_295
        → step p (step p (at n c none s) (record_of 32 args)) (record_of 33 recorded) ≡ calling p (at (n + 1) c (call args) s) args recorded
    unfolding kept
    pair_plays args recorded h r few =
        ap (λ (x : State). step p x (record_of 33 recorded)) (plays n c none s 32 args (omega arith) (omega arith) h (omega arith))
        ∙ plays (n + 1) c (call args) s 33 recorded (omega arith) (omega arith) r (omega arith)

    call_plays : (args : List ℕ) → length args ≤ 4100 → n + 2 ≤ 4_294_967_295
        → step p (step p (at n c none s) (record_of 32 args)) (record_of 33 (left_by p s args).args) ≡ at (n + 2) (c + 1) none (after p s (makes_call args))
    unfolding calling
    call_plays args h few =
        let same : length (left_by p s args).args ≡ length args = (demand1 (found args s.memory p.journal p.inventory p.edition s.registration s.reading)).args_length in
        pair_plays args (left_by p s args).args h (omega (arith, same)) few
        ∙ rw (compared_self c (left_by p s args).args) (ap (λ (k : ℕ). at k (c + 1) none (after p s (makes_call args))) (omega arith))

  -- ---- all of them

  pub size_kept : (s : Machine) (d : Deed) → length (after p s d).memory ≡ length s.memory
  size_kept s (sets_memory a bs) = length-sets s.memory a bs
  size_kept s (makes_call args) = (demand1 (found args s.memory p.journal p.inventory p.edition s.registration s.reading)).memory_length

  pub none_left : records [] ≡ []
  none_left = records_end [] 0 (omega arith)

  reached : (n k c d : ℕ) → n ≡ k → c ≡ d → (s : Machine) → at n c none s ≡ at k d none s
  reached n k c d e f s = rw (e, f)

  -- with anything behind them
  pub all_play : (n c : ℕ) (s : Machine) (ds : List Deed) (rest : List ℕ) → AllFit (length s.memory) ds → n + records_in ds ≤ 4_294_967_295
      → run (step p) (at n c none s) (records (trace_of p s ds ++ rest)) ≡ run (step p) (at (n + records_in ds) (c + calls_in ds) none (after_all p s ds)) (records rest)
  unfolding trace_of records_in calls_in run
  all_play n c s [] rest h few = ap (λ (x : State). run (step p) x (records rest)) (reached n (n + 0) c (c + 0) (omega arith) (omega arith) s)
  all_play n c s (sets_memory a bs ∷ ds) rest h few =
      let then = after p s (sets_memory a bs) in
      let body : length (le_bytes 4 a ++ bs) ≤ 4100 = omega (arith, h.0.2, body_size a bs) in
      let r = record_of 34 (le_bytes 4 a ++ bs) in
      ap (λ (l : List ℕ). run (step p) (at n c none s) (records l)) (append_assoc r (trace_of p then ds) rest)
      ∙ ap (run (step p) (at n c none s)) (records_first 34 (le_bytes 4 a ++ bs) (omega arith) (omega arith) body (trace_of p then ds ++ rest))
      ∙ ap (λ (x : State). run (step p) x (records (trace_of p then ds ++ rest))) (set_plays n c s a bs h.0 (omega arith))
      ∙ all_play (n + 1) c then ds rest (rw (size_kept s (sets_memory a bs)) h.1) (omega arith)
      ∙ ap (λ (x : State). run (step p) x (records rest)) (reached (n + 1 + records_in ds) (n + (1 + records_in ds)) (c + calls_in ds) (c + calls_in ds) (omega arith) refl (after_all p then ds))
  all_play n c s (makes_call args ∷ ds) rest h few =
      let then = after p s (makes_call args) in
      let ours = (left_by p s args).args in
      let same : length ours ≡ length args = (demand1 (found args s.memory p.journal p.inventory p.edition s.registration s.reading)).args_length in
      ap (λ (l : List ℕ). run (step p) (at n c none s) (records l)) (append_assoc (record_of 32 args ++ record_of 33 ours) (trace_of p then ds) rest ∙ append_assoc (record_of 32 args) (record_of 33 ours) (trace_of p then ds ++ rest))
      ∙ ap (run (step p) (at n c none s)) (pair_first args ours (trace_of p then ds ++ rest) h.0 (omega (arith, same, h.0)))
      ∙ ap (λ (x : State). run (step p) x (records (trace_of p then ds ++ rest))) (call_plays n c s args h.0 (omega arith))
      ∙ all_play (n + 2) (c + 1) then ds rest (rw (size_kept s (makes_call args)) h.1) (omega arith)
      ∙ ap (λ (x : State). run (step p) x (records rest)) (reached (n + 2 + records_in ds) (n + (2 + records_in ds)) (c + 1 + calls_in ds) (c + (1 + calls_in ds)) (omega arith) (omega arith) (after_all p then ds))

-- ---- the whole trace

pub own_trace_agrees : OwnTraceAgrees
unfolding replay_of run concluded stopped
own_trace_agrees p m ds fits few =
    let all : replay_of p m (trace_of p (fresh m) ds) ≡ at p (0 + records_in ds) (0 + calls_in ds) none (after_all p (fresh m) ds) =
    ap (λ (l : List ℕ). replay_of p m l) (sym (append-nil (trace_of p (fresh m) ds)))
    ∙ ap concluded (all_play p 0 0 (fresh m) ds [] fits (omega arith) ∙ ap (run (step p) (at p (0 + records_in ds) (0 + calls_in ds) none (after_all p (fresh m) ds))) (none_left p)) in
    record {
      report = ap (λ (x : State). x.report) all ∙ ap Agreed (zero-add (calls_in ds));
      memory = ap (λ (x : State). x.memory) all;
      registration = ap (λ (x : State). x.registration) all;
      reading = ap (λ (x : State). x.reading) all;
    }

-- a call that goes astray behind them
pub difference_told : DifferenceTold
unfolding replay_of calling run stopped
difference_told p m ds args recorded rest fits few a r other =
    compared_ways calls recorded ours (λ (x : Report). compared calls recorded ours ≡ x → (offset : ℕ) × (DifferAt recorded ours offset × ((replay_of p m trace).report ≡ Differs (calls_in ds + 1) offset)))
    (λ same _. absurd (other same)) (λ k d e. (k, (d, ends k e))) refl
  where
    s : Machine
    s = after_all p (fresh m) ds

    calls : ℕ
    calls = 0 + calls_in ds

    ours : List ℕ
    ours = (left_by p s args).args

    trace : List ℕ
    trace = trace_of p (fresh m) ds ++ (record_of 32 args ++ (record_of 33 recorded ++ rest))

    n : ℕ
    n = 0 + records_in ds

    then : State
    then = calling p (at p (n + 1) calls (call args) s) args recorded

    comes : run (step p) (begin m) (records trace) ≡ run (step p) then (records rest)
    comes =
        all_play p 0 0 (fresh m) ds (record_of 32 args ++ (record_of 33 recorded ++ rest)) fits (omega arith)
        ∙ ap (run (step p) (at p n calls none s)) (pair_first args recorded rest a r)
        ∙ ap (λ (x : State). run (step p) x (records rest)) (pair_plays p n calls s args recorded a r (omega arith))

    ends : (k : ℕ) → compared calls recorded ours ≡ Differs (calls + 1) k → (replay_of p m trace).report ≡ Differs (calls_in ds + 1) k
    ends k e =
        let over : stopped then ≡ true = ap is_over e in
        ap (λ (x : State). (concluded x).report) (comes ∙ run_stopped (reader p) (sticky p) then (records rest) over)
        ∙ ap (λ (x : State). x.report) (concluded_stopped then over) ∙ e ∙ ap (λ (c : ℕ). Differs (c + 1) k) (zero-add (calls_in ds))
