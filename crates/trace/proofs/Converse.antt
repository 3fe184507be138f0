-- A trace that replays with all calls agreeing is one that our own calls make.
use mathlib.Core.Path.{◌≡◌, refl, sym, ap, ap₂, ◌∙◌}
use mathlib.Core.Bool.{true, true≢false}
use mathlib.Core.List.{List, [], ◌∷◌, ◌++◌, append_assoc}
use mathlib.Core.Logic.{◌⊎◌, inl, inr, ⊎_elim}
use Prim.Native.Nat.{ℕ, zero, suc, ◌+◌, ◌-◌, ◌*◌, ◌/◌, ◌%◌, ◌≤◌, ◌<◌}
use native.Mathlib.Omega.{arith}
use native.Mathlib.Nat.{zero-add}
use lib.Dec.{leb}
use lib.ListN.{length, take, drop, length-drop, take-append-drop}
use lib.Seq.{drop-drop, get_or-drop}
use borrow.Author.Tests.{leb-true, eqb-true}
use Rattle.words.specs.Numbers.{Bytes, le}
use Rattle.words.proofs.Numbers.{le_drop, le_below}
use Rattle.words.proofs.Choice.{choose, and_left, and_right}
use Rattle.records.specs.Records.{length_of, kind_of, size_of, first_record, records}
use Rattle.records.specs.Cutting.{run}
use Rattle.records.proofs.Steps.{records-step, bytes_take}
use Rattle.records.proofs.Feeding.{run_stopped}
use Rattle.trace.specs.declared.report.Report.{Report}
use Rattle.trace.specs.declared.report.Report.TheVariants.{Agreed, Differs}
use Rattle.trace.specs.Trace.{is_before, is_after, is_setting, body_of, is_good, is_settable, address_in, bytes_in}
use Rattle.trace.specs.Playing.{Platform, none, call, State, is_over, agreed, stopped, faulted, kept, setting, calling, step, concluded, reader, replay_of}
use Rattle.trace.proofs.Reader.{framed, body_short, sticky, faulted_stopped, ways}
use Rattle.trace.specs.Claims.Recording.{le_bytes, record_of, Deed, sets_memory, makes_call, Machine, fresh, left_by, after, trace_of, records_in, calls_in, Fits, AllFit, AgreedIsOurs}
use Rattle.trace.proofs.Recording.{at, size_kept, none_left}
use Rattle.trace.proofs.First.{compared_ways}

-- ---- numbers back to bytes

le_shift : (w i x : ℕ) (l : List ℕ) → le w (x ∷ l) (suc i) ≡ le w l i
unfolding le
le_shift zero i x l = refl
le_shift (suc w) i x l = rw (le_shift w (suc i) x l)

le_back : (w : ℕ) (l : List ℕ) → Bytes l → w ≤ length l → le_bytes w (le w l 0) ≡ take w l
unfolding le le_bytes
le_back zero l bytes h = refl
le_back (suc w) [] bytes h = absurd (omega arith)
le_back (suc w) (x ∷ l) bytes h =
    let y = le w l 0 in
    let low : (x + 256 * y) % 256 ≡ x = omega (arith, bytes 0) in
    let high : (x + 256 * y) / 256 ≡ y = omega (arith, bytes 0) in
    rw (le_shift w 0 x l, low, high) (ap (λ (r : List ℕ). x ∷ r) (le_back w l (λ i. bytes (suc i)) (omega arith)))

bytes_drop : (n : ℕ) (l : List ℕ) → Bytes l → Bytes (drop n l)
bytes_drop n l bytes i = rw (get_or-drop n l i 0) (bytes (n + i))

-- ---- a record of bytes

module _ (r : List ℕ) (bytes : Bytes r) (good : is_good r ≡ true) where
  pub record_back : record_of (kind_of r) (body_of r) ≡ r
  unfolding record_of length_of kind_of
  record_back =
      let size : length (body_of r) + 2 ≡ le 2 r 0 = omega (arith, length-drop 4 r, framed r good) in
      let first : le_bytes 2 (length (body_of r) + 2) ≡ take 2 r = ap (le_bytes 2) size ∙ le_back 2 r bytes (omega (arith, framed r good)) in
      let second : le_bytes 2 (le 2 r 2) ≡ take 2 (drop 2 r) = ap (le_bytes 2) (sym (le_drop 2 2 r 0)) ∙ le_back 2 (drop 2 r) (bytes_drop 2 r bytes) (omega (arith, framed r good, length-drop 2 r)) in
      ap₂ ◌++◌ first (ap (λ (l : List ℕ). l ++ drop 4 r) second ∙ ap (λ (l : List ℕ). take 2 (drop 2 r) ++ l) (sym (drop-drop 2 2 r)) ∙ take-append-drop 2 (drop 2 r)) ∙ take-append-drop 2 r

-- the body of a 34
setting_back : (body : List ℕ) → Bytes body → 4 ≤ length body → le_bytes 4 (address_in body) ++ bytes_in body ≡ body
setting_back body bytes h = ap (λ (l : List ℕ). l ++ drop 4 body) (le_back 4 body bytes h) ∙ take-append-drop 4 body

-- ---- the whole

module _ (p : Platform) (calls : ℕ) where
  -- the replay comes to an end with so many calls that agreed
  abbrev Ends : State → List (List ℕ) → Type 0
  Ends x rs = (concluded (run (step p) x rs)).report ≡ Agreed calls

  -- the deeds of a trace that comes where a partition stands, after n records and c calls
  record From (n c : ℕ) (s : Machine) (b : List ℕ) : Type 0 where
    deeds : List Deed
    fit : AllFit (length s.memory) deeds
    few : n + records_in deeds ≤ 4_294_967_295
    counted : c + calls_in deeds ≡ calls
    made : b ≡ trace_of p s deeds

  -- a replay that has stopped does not end so
  over_not : (x : State) (rs : List (List ℕ)) → stopped x ≡ true → Ends x rs → ⊥
  unfolding concluded stopped
  over_not x rs e f =
      let still : run (step p) x rs ≡ x = run_stopped (reader p) (sticky p) x rs e in
      let told : x.report ≡ Agreed calls = rw (still, e) at f in
      true≢false (sym e ∙ ap is_over told)

  -- nor does one with a 32 that waits
  waits_not : (n c : ℕ) (args : List ℕ) (s : Machine) → Ends (at p n c (call args) s) [] → ⊥
  unfolding concluded stopped run faulted
  waits_not n c args s e = true≢false (ap is_over e)

  -- ---- one deed more

  set_more : (n c a : ℕ) (bs rest b : List ℕ) (s : Machine) → Fits (length s.memory) (sets_memory a bs) → b ≡ record_of 34 (le_bytes 4 a ++ bs) ++ rest → From (n + 1) c (after p s (sets_memory a bs)) rest → From n c s b
  unfolding records_in calls_in trace_of
  set_more n c a bs rest b s fits e more = record {
    deeds = sets_memory a bs ∷ more.deeds;
    fit = (fits, rw (size_kept p s (sets_memory a bs)) at more.fit);
    few = omega (arith, more.few);
    counted = more.counted;
    made = e ∙ ap (λ (l : List ℕ). record_of 34 (le_bytes 4 a ++ bs) ++ l) more.made;
  }

  call-more : (n c : ℕ) (args rest b : List ℕ) (s : Machine) → length args ≤ 4100 → b ≡ record_of 32 args ++ (record_of 33 (left_by p s args).args ++ rest)
      → From (n + 2) (c + 1) (after p s (makes_call args)) rest → From n c s b
  unfolding records_in calls_in trace_of
  call-more n c args rest b s short e more = record {
    deeds = makes_call args ∷ more.deeds;
    fit = (short, rw (size_kept p s (makes_call args)) at more.fit);
    few = omega (arith, more.few);
    counted = omega (arith, more.counted);
    made = e ∙ ap (λ (l : List ℕ). record_of 32 args ++ (record_of 33 (left_by p s args).args ++ l)) more.made ∙ sym (append_assoc (record_of 32 args) (record_of 33 (left_by p s args).args) (trace_of p (after p s (makes_call args)) more.deeds));
  }

  -- ---- the record at the front of bytes

  module _ (b : List ℕ) (some : 0 < length b) (bytes : Bytes b) where
    abbrev first : List ℕ
    first = first_record b

    abbrev rest : List ℕ
    rest = drop (size_of b) b

    front : records b ≡ first ∷ records rest
    front = records-step b 0 some ∙ rw zero-add

    first_bytes : Bytes first
    first_bytes = bytes_take (size_of b) b bytes

    split : is_good first ≡ true → b ≡ record_of (kind_of first) (body_of first) ++ rest
    split good = sym (ap (λ (l : List ℕ). l ++ rest) (record_back first first_bytes good) ∙ take-append-drop (size_of b) b)

    shorter : (k : ℕ) → length b ≤ suc k → length rest ≤ k
    shorter k h = omega (arith, length-drop (size_of b) b)

module _ (p : Platform) (calls : ℕ) where
  -- what is known of all shorter traces
  abbrev Known : ℕ → Type 0
  Known k = (b : List ℕ) → length b ≤ k → Bytes b → (n c : ℕ) (s : Machine) → n ≤ 4_294_967_295 → Ends p calls (at p n c none s) (records b) → From p calls n c s b

  module _ (k : ℕ) (known : Known k) (n c : ℕ) (s : Machine) where
    -- the 33 of a 32 that waits, and what is behind it
    module _ (args : List ℕ) (short : length args ≤ 4100) (b : List ℕ) (h : length b ≤ k) (bytes : Bytes b) where
      abbrev Result : Type 0
      Result = From p calls n c s (record_of 32 args ++ b)

      module _ (some : 0 < length b) where
        abbrev r : List ℕ
        r = first p calls b some bytes

        abbrev behind : List ℕ
        behind = rest p calls b some bytes

        abbrev Goes : State → Type 0
        Goes x = Ends p calls x (records behind) → Result

        abbrev ours : List ℕ
        ours = (left_by p s args).args

        abbrev then : ℕ → Report → State
        then records report = record { records = records; report = report; waiting = none; memory = (left_by p s args).memory; registration = (left_by p s args).registration; reading = (left_by p s args).reading }

        no_fault : (x : State) → stopped x ≡ true → Goes x
        no_fault x t e = absurd (over_not p calls x (records behind) t e)

        -- the recorded buffer is ours
        agrees : n + 2 ≤ 4_294_967_295 → is_good r ≡ true → kind_of r ≡ 33 → body_of r ≡ ours → Goes (then (n + 1 + 1) (Agreed (c + 1)))
        agrees few good kind same e =
            let two : n + 1 + 1 ≡ n + 2 = omega arith in
            let made : b ≡ record_of 33 ours ++ behind = split p calls b some bytes good ∙ rw (kind, same) in
            call-more p calls n c args behind (record_of 32 args ++ b) s short (ap (λ (l : List ℕ). record_of 32 args ++ l) made)
            (known behind (omega (arith, length-drop (size_of b) b)) (bytes_drop (size_of b) b bytes) (n + 2) (c + 1) (after p s (makes_call args)) few (rw two at e))

        over-is : (m d j : ℕ) → stopped (then m (Differs d j)) ≡ true
        unfolding stopped
        over-is m d j = refl

        on_call : n + 2 ≤ 4_294_967_295 → is_good r ≡ true → kind_of r ≡ 33 → Goes (calling p (at p (n + 1) c (call args) s) args (body_of r))
        unfolding calling
        on_call few good kind = compared_ways c (body_of r) ours (λ (x : Report). Goes (then (n + 1 + 1) x)) (agrees few good kind) (λ j _. no_fault (then (n + 1 + 1) (Differs (c + 1) j)) (over-is (n + 1 + 1) (c + 1) j))

        answered : Ends p calls (at p (n + 1) c (call args) s) (records b) → Result
        unfolding run stopped
        answered e =
            let x = at p (n + 1) c (call args) s in
            let bad = no_fault (faulted x) (faulted_stopped x) in
            ways p x r refl Goes bad (λ l g. choose (is_after (kind_of r)) Goes (λ a. on_call (omega arith) g (eqb-true (kind_of r) 33 a)) (λ _. bad)) (rw (front p calls b some bytes) at e)

    -- the first record of bytes
    module _ (b : List ℕ) (some : 0 < length b) (h : length b ≤ suc k) (bytes : Bytes b) where
      abbrev r₁ : List ℕ
      r₁ = first p calls b some bytes

      abbrev behind₁ : List ℕ
      behind₁ = rest p calls b some bytes

      abbrev Goes₁ : State → Type 0
      Goes₁ x = Ends p calls x (records behind₁) → From p calls n c s b

      less : length behind₁ ≤ k
      less = omega (arith, length-drop (size_of b) b)

      behind_bytes : Bytes behind₁
      behind_bytes = bytes_drop (size_of b) b bytes

      some_or_none : (l : List ℕ) → (l ≡ []) ⊎ (0 < length l)
      some_or_none [] = inl refl
      some_or_none (x ∷ l) = inr (omega arith)

      none_behind : (l : List ℕ) (x : State) → l ≡ [] → Ends p calls x (records l) → Ends p calls x []
      none_behind l x z e = let none_is : records l ≡ [] = ap records z ∙ none_left p in rw none_is at e

      abbrev body : List ℕ
      body = body_of r₁

      -- a 32: its 33 is behind it
      on_before : is_good r₁ ≡ true → kind_of r₁ ≡ 32 → Goes₁ (at p (n + 1) c (call (body_of r₁)) s)
      on_before good kind e =
          let short = body_short r₁ good in
          let made : b ≡ record_of 32 (body_of r₁) ++ behind₁ = split p calls b some bytes good ∙ rw kind in
          let there = ⊎_elim (λ z. absurd (waits_not p calls (n + 1) c (body_of r₁) s (none_behind behind₁ (at p (n + 1) c (call (body_of r₁)) s) z e))) (λ l. answered (body_of r₁) short behind₁ less behind_bytes l e) (some_or_none behind₁) in
          record { deeds = there.deeds; fit = there.fit; few = there.few; counted = there.counted; made = made ∙ there.made }

      -- a 34 that sets memory
      settable_fits : is_good r₁ ≡ true → is_settable s.memory body ≡ true → Fits (length s.memory) (sets_memory (address_in body) (bytes_in body))
      unfolding is_settable
      settable_fits good t =
          let bytes_of = bytes_drop 4 r₁ (first_bytes p calls b some bytes) in
          let low = leb-true 5 (length body) (and_left _ _ t) in
          let high = leb-true (address_in body + (length body - 4)) (length s.memory) (and_right (leb 5 (length body)) _ t) in
          (omega (arith, le_below body bytes_of 4 0), omega (arith, length-drop 4 body), omega (arith, length-drop 4 body, body_short r₁ good), omega (arith, length-drop 4 body))

      set : n + 1 ≤ 4_294_967_295 → is_good r₁ ≡ true → kind_of r₁ ≡ 34 → is_settable s.memory body ≡ true → Goes₁ (at p (n + 1) c none (after p s (sets_memory (address_in body) (bytes_in body))))
      set few good kind t e =
          let fits = settable_fits good t in
          let back = setting_back body (bytes_drop 4 r₁ (first_bytes p calls b some bytes)) (omega (arith, fits.1, length-drop 4 body)) in
          let made : b ≡ record_of 34 (le_bytes 4 (address_in body) ++ bytes_in body) ++ behind₁ = split p calls b some bytes good ∙ rw (kind, back) in
          set_more p calls n c (address_in body) (bytes_in body) behind₁ b s fits made (known behind₁ less behind_bytes (n + 1) c (after p s (sets_memory (address_in body) (bytes_in body))) few e)

      on_setting : n + 1 ≤ 4_294_967_295 → is_good r₁ ≡ true → kind_of r₁ ≡ 34 → Goes₁ (setting (at p n c none s) (body_of r₁))
      unfolding setting
      on_setting few good kind = choose (is_settable s.memory body) Goes₁ {y = faulted (at p n c none s)} (set few good kind)
          (λ _ f. absurd (over_not p calls (faulted (at p n c none s)) (records behind₁) (faulted_stopped (at p n c none s)) f))

      begins : Ends p calls (at p n c none s) (records b) → From p calls n c s b
      unfolding run stopped kept
      begins e =
          let x = at p n c none s in
          let bad : Goes₁ (faulted x) = λ f. absurd (over_not p calls (faulted x) (records behind₁) (faulted_stopped x) f) in
          ways p x r₁ refl Goes₁ bad
          (λ l g. choose (is_before (kind_of r₁)) Goes₁ (λ a. on_before g (eqb-true (kind_of r₁) 32 a)) (λ _. choose (is_setting (kind_of r₁)) Goes₁ (λ a. on_setting l g (eqb-true (kind_of r₁) 34 a)) (λ _. bad)))
          (rw (front p calls b some bytes) at e)

  -- no record
  nothing : (n c : ℕ) (s : Machine) → n ≤ 4_294_967_295 → Ends p calls (at p n c none s) (records []) → From p calls n c s []
  unfolding records_in calls_in trace_of run concluded stopped
  nothing n c s few e =
      let told : Agreed c ≡ Agreed calls = rw (none_left p) at e in
      record { deeds = []; fit = tt; few = omega arith; counted = omega (arith, ap agreed told); made = refl }

  known_zero : Known 0
  known_zero [] h bytes n c s few e = nothing n c s few e
  known_zero (x ∷ xs) h bytes n c s few e = absurd (omega arith)

  known_more : (k : ℕ) → Known k → Known (suc k)
  known_more k known [] h bytes n c s few e = nothing n c s few e
  known_more k known (x ∷ xs) h bytes n c s few e = begins k known n c s (x ∷ xs) (omega arith) h bytes e

  all_known : (k : ℕ) → Known k
  all_known zero = known_zero
  all_known (suc k) = known_more k (all_known k)

pub agreed_is_ours : AgreedIsOurs
unfolding replay_of
agreed_is_ours p m trace calls bytes e =
    let f = all_known p calls (length trace) trace (omega arith) bytes 0 0 (fresh m) (omega arith) e in
    record { deeds = f.deeds; fit = f.fit; few = omega (arith, f.few); counted = sym (zero-add (calls_in f.deeds)) ∙ f.counted; made = f.made }
