-- All that a start and bursts leave has come: what a call leaves, then what a record leaves, then bursts.
use mathlib.Core.Path.{◌≡◌, refl, sym, ap, ◌∙◌}
use mathlib.Core.Bool.{Bool, true, false, cond, ◌&&◌, false≢true}
use mathlib.Core.List.{List, [], ◌∷◌}
use Prim.Native.Nat.{ℕ, ◌+◌, ◌-◌, ◌≤◌, ◌<◌}
use native.Mathlib.Omega.{arith}
use lib.Dec.{leb}
use lib.ListN.{length, length-take}
use lib.Seq.{take-append_seam, drop-append_seam}
use borrow.Author.Tests.{leb-true, leb-false, le-leb, lt-ltb, ltb-true, eq-eqb, ne_eqb}
use Rattle.words.proofs.Choice.{choose, decide, and_left, and_right}
use Rattle.words.proofs.Zeros.{zeros_zero}
use Rattle.records.specs.Records.{kind_of}
use Rattle.records.specs.Cutting.{run, taken, standing, Standing, start, fed, fed_all}
use Rattle.inventory.specs.declared.edition.Edition.{Edition}
use Rattle.dump.specs.declared.registration.Registration.{Registration}
use Rattle.dump.specs.Structure.{header_size, good_structure}
use Rattle.dump.specs.Registration.{copy_size, is_registered, no_registration, padded, registered, structure_at, acceptable}
use Rattle.dump.proofs.Verdicts.{acceptable_short, registration_ways}
use Rattle.calls.specs.declared.reading_record.ReadingRecord.{ReadingRecord}
use Rattle.calls.specs.declared.request.Request.{Request}
use Rattle.calls.specs.declared.status.Status.{Status}
use Rattle.calls.specs.declared.status.Status.TheVariants as status
use Rattle.calls.specs.Status.{is_given, is_answer}
use Rattle.calls.specs.ReadingRecord.{no_reading, record_after}
use Rattle.inventory.proofs.Listed.{listed_few}
use Rattle.calls.specs.GetIndices.{entries_for, number_in, run_for, good_number, more_entries, indices_status, next_number}
use Rattle.calls.specs.Buffer.{found, Found, Left, number_for, request_of, input, Outcome, nodes_outcome, indices_outcome, dump_outcome, properties_outcome, call_of}
use Rattle.calls.proofs.Heads.{outcome_ways, unchanged, carried_out}
use Rattle.calls.proofs.Requests.{Passed, passed_is, indices_status_lem, run_some}
use Rattle.calls.proofs.Confined.{demand1}
use Rattle.trace.specs.declared.report.Report.{Report}
use Rattle.trace.specs.declared.report.Report.TheVariants.{Agreed, Differs, Malformed}
use Rattle.trace.specs.Trace.{is_before, is_after, is_setting, body_of, is_good, is_settable}
use Rattle.trace.specs.Claims.First.{DifferAt}
use Rattle.trace.specs.Playing.{Platform, Waiting, none, call, State, begin, is_over, stopped, blamed, faulted, kept, setting, called, calling, played, step, reader}
use Rattle.trace.specs.Came.{registration_came, in_progress, reading_came, calls_for, waiting_number, waits_in, report_came, came, state_came}
use Rattle.trace.specs.Claims.Came.{AllCame}
use Rattle.trace.proofs.Reader.{body_short, sticky, ways}
use Rattle.trace.proofs.First.{compared_ways}

-- ---- a registration

-- a structure that was registered
registered_came : (m : List ℕ) (address len : ℕ) → acceptable m address len ≡ true → registration_came (registered (structure_at m address len)) ≡ true
unfolding registration_came padded acceptable
registered_came m address len good =
    let s = structure_at m address len in
    let size : length s ≤ copy_size = let short = acceptable_short m address len good in simp length-take (omega arith) in
    let fine : good_structure s ≡ true = and_right (leb (address + len) (length m)) _ (and_right (leb len copy_size) _ (and_right (leb header_size len) _ good)) in
    rw (le-leb (length s) copy_size size, take-append_seam, fine, drop-append_seam) (zeros_zero (copy_size - length s))

none_came : registration_came no_registration ≡ true
unfolding registration_came
none_came = zeros_zero copy_size

-- ---- a reading

-- the number behind a run is never the first, and that of an entry
next_behind : (m i : List ℕ) (e : Edition) (r : ReadingRecord) (q : Request) → Passed m i e r q → more_entries i q ≡ true → (1 < next_number i q) × (next_number i q ≤ 69_905)
unfolding next_number good_number more_entries
next_behind m i e r q p more =
    let first = leb-true 1 (number_in q) (and_left _ _ (and_right (leb 1 (length (entries_for i q))) _ p.numbered)) in
    let remain = ltb-true (number_in q - 1 + length (run_for i q)) (length (entries_for i q)) more in
    rw more (omega (arith, first, run_some m i e r q p), omega (arith, first, remain, listed_few q.flag q.item_type i p.formed))

is_again : Status → Bool
is_again status.Done = false
is_again status.Again = true
is_again status.Malformed = false
is_again status.Parameter = false
is_again status.Changed = false
is_again status.AlreadyRegistered = false
is_again status.DumpActive = false

more_by : (t : Bool) → cond t status.Again status.Done ≡ status.Again → t ≡ true
unfolding is_again
more_by true e = refl
more_by false e = absurd (false≢true (ap is_again e))

-- What a call leaves of the registration and the reading record: both have come, with at most one more made by calls.
record Leaves (e : Edition) (before : ℕ) (r : Registration) (d : ReadingRecord) : Type 0 where
  registration : registration_came r ≡ true
  reading : reading_came e d ≡ true
  made : calls_for r d ≤ before + 1

module _ (f : Found) (r_came : registration_came f.registration ≡ true) (d_came : reading_came f.edition f.reading ≡ true) where
  abbrev before : ℕ
  before = calls_for f.registration f.reading

  abbrev Fine : Registration → ReadingRecord → Type 0
  Fine = Leaves f.edition before

  -- a choice of 1 or 0
  at_most : (t : Bool) → cond t 1 0 ≤ 1
  at_most true = omega arith
  at_most false = omega arith

  same : Fine f.registration f.reading
  same = record { registration = r_came; reading = d_came; made = omega arith }

  reads : (d : ReadingRecord) → reading_came f.edition d ≡ true → Fine f.registration d
  reads d e = record { registration = r_came; reading = e; made = omega (arith, at_most (in_progress d)) }

  registers : (r : Registration) → registration_came r ≡ true → Fine r f.reading
  registers r e = record { registration = e; reading = d_came; made = omega (arith, at_most (is_registered r.phase)) }

  indices : Fine (indices_outcome f).registration (indices_outcome f).reading
  unfolding indices_outcome record_after reading_came
  indices = by (indices_status f.memory f.inventory f.edition f.reading q) refl
    where
      q : Request
      q = request_of f.args

      d : ReadingRecord
      d = f.reading

      -- with status 1 every check is passed, and entries remain
      again : indices_status f.memory f.inventory f.edition d q ≡ status.Again → Passed f.memory f.inventory f.edition d q × (more_entries f.inventory q ≡ true)
      again e =
          let p = passed_is f.memory f.inventory f.edition d q (ap is_answer e) in
          (p, more_by (more_entries f.inventory q) (sym (indices_status_lem f.memory f.inventory f.edition d q p) ∙ e))

      by : (s : Status) → indices_status f.memory f.inventory f.edition d q ≡ s → Fine f.registration (record_after s q (next_number f.inventory q) f.edition d)
      by status.Done e = reads no_reading refl
      by status.Again e =
          let p = (again e).0 in
          let behind = next_behind f.memory f.inventory f.edition d q p (again e).1 in
          reads _ (rw (lt-ltb 1 (next_number f.inventory q) behind.0, le-leb (next_number f.inventory q) 69_905 behind.1, p.askable_is) (eq-eqb f.edition.0 f.edition.0 refl))
      by status.Malformed e = same
      by status.Parameter e = same
      by status.Changed e = reads no_reading refl
      by status.AlreadyRegistered e = same
      by status.DumpActive e = same

  dump : Fine (dump_outcome f).registration (dump_outcome f).reading
  unfolding dump_outcome
  dump = registration_ways f.memory (input f.args 0) (input f.args 1) (input f.args 2) f.registration (λ (r : Registration). Fine r f.reading)
      same (registers no_registration none_came) (λ good. registers _ (registered_came f.memory (input f.args 1) (input f.args 2) good))

  call_leaves : Fine (call_of f).registration (call_of f).reading
  unfolding nodes_outcome properties_outcome
  call_leaves = decide (is_given (number_for f.args))
      (λ g. rw (carried_out f g) (outcome_ways f (λ (o : Outcome). Fine o.registration o.reading) (λ _. same) (λ _. indices) (λ _. dump) (λ _. same) same))
      (λ g. rw (unchanged f g) same)

-- ---- a record

-- a 32 that waits is one record
waits_one : (n : ℕ) → waits_in (n + 1) ≡ 1
waits_one n = rw (ne_eqb (n + 1) 0 (λ h. omega (arith, h)))

-- two buffers that differ do so before the end of the longer
before_end : (recorded ours : List ℕ) (k : ℕ) → length recorded ≤ 4100 → length ours ≤ 4100 → DifferAt recorded ours k → k ≤ 4099
before_end recorded ours k r o d = decide (leb k 4099) (leb-true k 4099)
    (λ e. let far = leb-false k 4099 e in absurd (d.not-all (omega (arith, d.in_recorded)) (omega (arith, d.in_ours))))

module _ (p : Platform) where
  abbrev Came : State → Type 0
  Came s = state_came p.edition s ≡ true

  came_by : (s : State) → s.records ≤ 4_294_967_295 → waiting_number s.waiting ≤ 4101 → report_came s.report s.records (waits_in (waiting_number s.waiting)) (calls_for s.registration s.reading) ≡ true
      → registration_came s.registration ≡ true → reading_came p.edition s.reading ≡ true → Came s
  unfolding state_came came
  came_by s few short counts r d = rw (le-leb s.records 4_294_967_295 few, le-leb (waiting_number s.waiting) 4101 short, counts, r, d)

  -- a replay that goes on, by the number of its calls and the 32 that waits
  module _ (s : State) (calls : ℕ) (going : s.report ≡ Agreed calls) (w : Waiting) (waits : s.waiting ≡ w) (has : Came s) where
    abbrev least : ℕ
    least = calls_for s.registration s.reading

    all : (leb s.records 4_294_967_295 && (leb (waiting_number w) 4101 && (report_came (Agreed calls) s.records (waits_in (waiting_number w)) least && (registration_came s.registration && reading_came p.edition s.reading)))) ≡ true
    unfolding state_came came
    all = rw (going, waits) at has

    few : s.records ≤ 4_294_967_295
    few = leb-true _ _ (and_left _ _ all)

    behind_few : (leb (waiting_number w) 4101 && (report_came (Agreed calls) s.records (waits_in (waiting_number w)) least && (registration_came s.registration && reading_came p.edition s.reading))) ≡ true
    behind_few = and_right (leb s.records 4_294_967_295) _ all

    short : waiting_number w ≤ 4101
    short = leb-true _ _ (and_left _ _ behind_few)

    counts : (leb least calls && leb (calls + calls + waits_in (waiting_number w)) s.records) ≡ true
    counts = and_left _ _ (and_right (leb (waiting_number w) 4101) _ behind_few)

    left : (registration_came s.registration && reading_came p.edition s.reading) ≡ true
    left = and_right (report_came (Agreed calls) s.records (waits_in (waiting_number w)) least) _ (and_right (leb (waiting_number w) 4101) _ behind_few)

    enough : least ≤ calls
    enough = leb-true _ _ (and_left _ _ counts)

    pub pairs : calls + calls + waits_in (waiting_number w) ≤ s.records
    pairs = leb-true _ _ (and_right (leb least calls) _ counts)

    r_came : registration_came s.registration ≡ true
    r_came = and_left _ _ left

    d_came : reading_came p.edition s.reading ≡ true
    d_came = and_right (registration_came s.registration) _ left

    fault_counts : (v : Waiting) → calls + calls + waits_in (waiting_number v) ≤ s.records → report_came (Malformed (blamed s.records v)) s.records (waits_in (waiting_number v)) least ≡ true
    fault_counts none = λ h. rw (eq-eqb (s.records + 1 + 0) (s.records + 1) (omega arith)) (le-leb (least + least + 0) s.records (omega (arith, enough)))
    fault_counts (call a) =
        rw (waits_one (length a)) (λ h. rw (eq-eqb (s.records + 1) (s.records + 1) refl) (le-leb (least + least + 1) s.records (omega (arith, enough))))

    fault_came_lem : Came (faulted s)
    unfolding faulted
    fault_came_lem = came_by (faulted s) few (rw waits short) (fault_counts s.waiting (rw waits pairs)) r_came d_came

  -- nothing waits
  module _ (s : State) (calls : ℕ) (going : s.report ≡ Agreed calls) (waits : s.waiting ≡ none) (has : Came s) (body : List ℕ) (next : s.records + 1 ≤ 4_294_967_295) where
    kept_came : length body ≤ 4100 → Came (kept s body)
    unfolding kept
    kept_came h =
        let least = calls_for s.registration s.reading in
        came_by (kept s body) next (omega arith)
        (rw (going, waits_one (length body), le-leb least calls (enough s calls going none waits has)) (le-leb (calls + calls + 1) (s.records + 1) (omega (arith, pairs s calls going none waits has))))
        (r_came s calls going none waits has) (d_came s calls going none waits has)

    setting_came : Came (setting s body)
    unfolding setting
    setting_came = choose (is_settable s.memory body) Came
        (λ _. came_by _ next (rw waits (omega arith)) (rw (going, waits, le-leb least calls (enough s calls going none waits has)) (le-leb (calls + calls + 0) (s.records + 1) (omega (arith, pairs s calls going none waits has))))
        (r_came s calls going none waits has) (d_came s calls going none waits has))
        (λ _. fault_came_lem s calls going none waits has)
      where
        least : ℕ
        least = calls_for s.registration s.reading

  -- a 32 waits, and its 33 comes
  module _ (s : State) (calls : ℕ) (going : s.report ≡ Agreed calls) (args : List ℕ) (waits : s.waiting ≡ call args) (has : Came s) (body : List ℕ) (next : s.records + 1 ≤ 4_294_967_295) (size : length body ≤ 4100) where
    abbrev x : Left
    x = called p s args

    abbrev then : Report → State
    then report = record { records = s.records + 1; report = report; waiting = none; memory = x.memory; registration = x.registration; reading = x.reading }

    args_size : length args ≤ 4100
    args_size = omega (arith, short s calls going (call args) waits has)

    ours_size : length x.args ≤ 4100
    ours_size = omega (arith, (demand1 (found args s.memory p.journal p.inventory p.edition s.registration s.reading)).args_length, args_size)

    left_came : Leaves p.edition (calls_for s.registration s.reading) x.registration x.reading
    left_came = call_leaves (found args s.memory p.journal p.inventory p.edition s.registration s.reading) (r_came s calls going (call args) waits has) (d_came s calls going (call args) waits has)

    most : calls_for x.registration x.reading ≤ calls + 1
    most = omega (arith, left_came.made, enough s calls going (call args) waits has)

    room : calls + calls + 1 ≤ s.records
    room = rw (waits_one (length args)) at (pairs s calls going (call args) waits has)

    then_came : (report : Report) → report_came report (s.records + 1) 0 (calls_for x.registration x.reading) ≡ true → Came (then report)
    then_came report counts = came_by (then report) next (omega arith) counts left_came.registration left_came.reading

    calling_came : Came (calling p s args body)
    unfolding calling
    calling_came = rw going
        (compared_ways calls body x.args (λ (r : Report). Came (then r))
        (λ _. then_came (Agreed (calls + 1)) (rw (le-leb (calls_for x.registration x.reading) (calls + 1) most) (le-leb (calls + 1 + (calls + 1) + 0) (s.records + 1) (omega (arith, room)))))
        (λ k d. then_came (Differs (calls + 1) k)
        (rw (le-leb 1 (calls + 1) (omega arith), le-leb (calls_for x.registration x.reading) (calls + 1) most, le-leb (calls + 1 + (calls + 1)) (s.records + 1) (omega (arith, room)))
        (le-leb k 4099 (before_end body x.args k size ours_size d)))))

  module _ (s : State) (r : List ℕ) (has : Came s) where
    played_came : (calls : ℕ) → s.report ≡ Agreed calls → s.records + 1 ≤ 4_294_967_295 → is_good r ≡ true → (w : Waiting) → s.waiting ≡ w → Came (played p s w (kind_of r) (body_of r))
    played_came calls going next good none w =
        choose (is_before (kind_of r)) Came (λ _. kept_came s calls going w has (body_of r) next (body_short r good))
        (λ _. choose (is_setting (kind_of r)) Came (λ _. setting_came s calls going w has (body_of r) next) (λ _. fault_came_lem s calls going none w has))
    played_came calls going next good (call args) w =
        choose (is_after (kind_of r)) Came (λ _. calling_came s calls going args w has (body_of r) next (body_short r good)) (λ _. fault_came_lem s calls going (call args) w has)

    pub step_came : Came (step p s r)
    unfolding stopped
    step_came = by s.report refl
      where
        by : (x : Report) → s.report ≡ x → Came (step p s r)
        by (Agreed calls) e = ways p s r (ap is_over e) Came (fault_came_lem s calls e s.waiting refl has) (λ next good. played_came calls e next good s.waiting refl)
        by (Differs n k) e = rw (sticky p s r (ap is_over e)) has
        by (Malformed n) e = rw (sticky p s r (ap is_over e)) has

  -- ---- bursts

  run_came : (s : State) (rs : List (List ℕ)) → Came s → Came (run (step p) s rs)
  unfolding run
  run_came s [] has = has
  run_came s (r ∷ rs) has = run_came (step p s r) rs (step_came s r has)

  pub fed_came : (w : Standing State) (b : List ℕ) → Came w.state → Came (fed (reader p) w b).state
  unfolding fed standing
  fed_came w b has = run_came w.state (taken (reader p).good w.held b) has

  all_fed : (w : Standing State) (bs : List (List ℕ)) → Came w.state → Came (fed_all (reader p) w bs).state
  unfolding fed_all
  all_fed w [] has = has
  all_fed w (b ∷ bs) has = all_fed (fed (reader p) w b) bs (fed_came w b has)

pub begin_came : (e : Edition) (m : List ℕ) → state_came e (begin m) ≡ true
unfolding state_came came reading_came
begin_came e m = rw none_came

pub all_came : AllCame
all_came p m bs = all_fed p (start (begin m)) bs (begin_came p.edition m)
