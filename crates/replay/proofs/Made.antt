-- Which call a record made, as the code can tell: a 33 was taken where a 32 waited.
use Rattle.std.specs.Prelude.{Option, is_some, IsSome, unwrap_or}
use mathlib.Core.Path.{◌≡◌, sym, ap, ◌∙◌}
use mathlib.Core.Bool.{Bool, true, false, ◌&&◌}
use mathlib.Core.List.{List, [], ◌∷◌}
use mathlib.Core.Logic.{◌⊎◌, inl, inr, ⊎_elim}
use Prim.Native.Nat.{ℕ, ◌+◌, ◌≤◌}
use native.Mathlib.Omega.{arith}
use lib.Dec.{leb, ltb}
use lib.ListN.{length, take}
use lib.Seq.{sets, length-take-le}
use borrow.Author.Tests.{le-ltb, lt-ltb, ltb-true}
use Rattle.words.proofs.Choice.{choose, decide, and_right}
use Rattle.records.specs.Records.{kind_of}
use Rattle.calls.specs.Buffer.{Left, found}
use Rattle.calls.proofs.Confined.{demand1}
use Rattle.trace.specs.Trace.{is_before, is_after, is_setting, is_good, body_of, is_settable}
use Rattle.trace.specs.Playing.{Platform, Waiting, none, call, State, stopped, faulted, kept, setting, calling, called, played, step}
use Rattle.trace.proofs.Reader.{ways}
use Rattle.counting.specs.declared.counts.Counts.{Counts}
use Rattle.counting.specs.OfTrace.{is_taken, made, counted_all}
use Rattle.counting.specs.Claims.Terms.{Within}
use Rattle.counting.proofs.OwnBuffer.{own_number}
use Rattle.counting.proofs.Growing.{within_more, within_later}
use Rattle.playing.specs.declared.playing.Playing.{Playing}
use Rattle.playing.specs.Lent.{Lent, lent_step}
use Rattle.playing.specs.Played.{waiting_of, state_of, lent_of}
use Rattle.playing.specs.Inner.Terms.{left_by, Plays}
use Rattle.playing.specs.Claims.Played.{Steady}
use Rattle.playing.proofs.Parts.{stored_front, some_is, none_is, within_is}
use Rattle.replay.specs.Inner.Terms.{carried_of, carried_step, counted_front, counted_by}

-- ---- a record where a 32 waits

-- no call was made and no record taken, or the call of the 32 was made, and left its buffer and memory
record NoCall (p : Platform) (x : Lent) (item : List ℕ) : Type 0 where
  none_made : made p x.state item ≡ []
  same_records : (lent_step p x item).state.records ≡ x.state.records

record OneCall (p : Platform) (x : Lent) (item before : List ℕ) : Type 0 where
  one_made : made p x.state item ≡ called p x.state before ∷ []
  more_records : (lent_step p x item).state.records ≡ x.state.records + 1
  args_then : (lent_step p x item).args ≡ sets x.args 0 (called p x.state before).args
  memory_then : (lent_step p x item).state.memory ≡ (called p x.state before).memory

call_ways : (p : Platform) (x : Lent) (item before : List ℕ) → x.state.waiting ≡ call before → NoCall p x item ⊎ OneCall p x item before
unfolding lent_step step made is_taken faulted calling
call_ways p x item before waits = decide (stopped x.state)
    (λ e. inl (record { none_made = rw e; same_records = rw e }))
    (λ e. decide (leb (x.state.records + 1) 4_294_967_295 && is_good item)
    (λ t. decide (is_after (kind_of item))
    (λ a. inr (record { one_made = rw (e, t, waits, a); more_records = rw (e, t, waits, a); args_then = rw (e, t, waits, a); memory_then = rw (e, t, waits, a) }))
    (λ a. inl (record { none_made = rw (e, t, waits, a); same_records = rw (e, t, waits, a) })))
    (λ t. inl (record { none_made = rw (e, t); same_records = rw (e, t) })))

-- nothing waits, and no call is made
none_waits : (p : Platform) (s : State) (item : List ℕ) → s.waiting ≡ none → made p s item ≡ []
unfolding made
none_waits p s item e = decide (is_taken s item) (λ t. rw (t, e)) (λ t. rw t)

-- ---- no record is untaken

records_grow : (p : Platform) (s : State) (item : List ℕ) → s.records ≤ (step p s item).records
unfolding step faulted kept setting calling
records_grow p s item = decide (stopped s) (λ e. rw e (omega arith)) (λ e. ways p s item e More (omega arith) (λ _ _. go s.waiting))
  where
    More : State → Type 0
    More u = s.records ≤ u.records

    go : (w : Waiting) → More (played p s w (kind_of item) (body_of item))
    go (call args) = choose (is_after (kind_of item)) More (λ _. omega arith) (λ _. omega arith)
    go none = choose (is_before (kind_of item)) More (λ _. omega arith) (λ _. choose (is_setting (kind_of item)) More (λ _. choose (is_settable s.memory (body_of item)) More (λ _. omega arith) (λ _. omega arith)) (λ _. omega arith))

-- ---- what the code counts

abbrev pub is_call : Playing → Playing → Bool
is_call t r = is_some t.waiting && ltb t.records r.records

module _ {p : Platform} {args memory : List ℕ} {t : Playing} {item argsThen memoryThen : List ℕ} {r : Playing} (q : Plays p args memory t item argsThen memoryThen r) (steady : Steady args t) where
  abbrev size : ℕ
  size = unwrap_or t.waiting 0

  abbrev x : Left
  x = left_by p memory args t size

  abbrev s : State
  s = state_of args memory t

  records_then : r.records ≡ (lent_step p (lent_of args memory t) item).state.records
  records_then = ap (λ (y : Lent). y.state.records) q.same

  grown : t.records ≤ r.records
  unfolding lent_step
  grown = omega (arith, records_then, records_grow p s item)

  small : size ≤ 4100
  small = within_is t.waiting steady.inside

  -- by whether a call was made
  module _ (c after : Counts) (by : after ≡ counted_by c t.waiting (ltb t.records r.records) argsThen memoryThen) where
    yes_is : is_call t r ≡ true → after ≡ counted_front c (take size argsThen) memoryThen
    yes_is y = by ∙ rw y

    no_is : is_call t r ≡ false → after ≡ c
    no_is n = by ∙ rw n

    not_called : made p s item ≡ [] → is_call t r ≡ false → after ≡ counted_all c (made p s item)
    unfolding counted_all
    not_called n f = no_is f ∙ rw n

    was_called : IsSome t.waiting → OneCall p (lent_of args memory t) item (take size args) → after ≡ counted_all c (made p s item)
    unfolding counted_all
    was_called w o =
        let yes = yes_is (rw (w, lt-ltb t.records r.records (omega (arith, records_then, o.more_records)))) in
        let long : length x.args ≡ size = (demand1 (found (take size args) memory p.journal p.inventory p.edition t.registration t.reading)).args_length ∙ length-take-le size args (omega (arith, small, steady.room)) in
        let stored : argsThen ≡ sets args 0 x.args = ap (λ (y : Lent). y.args) q.same ∙ o.args_then in
        let front : take size argsThen ≡ x.args = ap (take size) stored ∙ ap (λ (n : ℕ). take n (sets args 0 x.args)) (sym long) ∙ stored_front x.args args (omega (arith, long, small, steady.room)) in
        let left : memoryThen ≡ x.memory = ap (λ (y : Lent). y.state.memory) q.same ∙ o.memory_then in
        yes ∙ rw (front, left, own_number (found (take size args) memory p.journal p.inventory p.edition t.registration t.reading), o.one_made)

    pub counts_then : after ≡ counted_all c (made p s item)
    counts_then = decide (is_some t.waiting)
        (λ w. ⊎_elim
        (λ (n : NoCall p (lent_of args memory t) item). not_called n.none_made (rw (w, le-ltb t.records r.records (omega (arith, records_then, n.same_records)))))
        (λ (o : OneCall p (lent_of args memory t) item (take size args)). was_called w o)
        (call_ways p (lent_of args memory t) item (take size args) (ap (λ (o : Option ℕ). waiting_of o args) (some_is t.waiting w))))
        (λ w. not_called (none_waits p s item (ap (λ (o : Option ℕ). waiting_of o args) (none_is t.waiting w))) (rw w))

    pub carried_then_lem : carried_of argsThen memoryThen r after ≡ carried_step p (carried_of args memory t c) item
    unfolding carried_step
    carried_then_lem = rw (q.same, counts_then)

    pub within_then : Within t.records c → Within r.records after
    within_then w = decide (is_call t r)
        (λ y. rw (yes_is y) (within_later (t.records + 1) _ (within_more t.records c w _ _ _) r.records (omega (arith, ltb-true t.records r.records (and_right (is_some t.waiting) _ y)))))
        (λ n. rw (no_is n) (within_later t.records c w r.records grown))
