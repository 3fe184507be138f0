-- Laws of a session of any kind: over a list of entries, the answered calls hand out its first ones, and enough well-made calls come to its end.
use mathlib.Core.Path.{◌≡◌, refl, sym, ap, ◌∙◌}
use mathlib.Core.Bool.{Bool, true, false, cond, true≢false}
use mathlib.Core.List.{List, [], ◌∷◌, ◌++◌}
use mathlib.Core.Logic.{◌⊎◌, inl, inr, ⊎_elim}
use Prim.Native.Nat.{ℕ, ◌+◌, ◌≤◌, ◌<◌}
use native.Mathlib.Omega.{arith}
use lib.Dec.{ltb, eqb}
use borrow.Author.Tests.{ltb-true, ltb-false}
use lib.ListN.{length, take, drop, length-append}
use lib.Seq.{take_all, take-add}
use Rattle.words.specs.Reading.{Reading, read, readings}
use Rattle.words.proofs.Choice.{choose, decide}
use Rattle.words.proofs.Readings.{readings_none, readings_more, joined_read}
use Rattle.calls.specs.Buffer.{Found}
use Rattle.calls.specs.Claims.Session.{is_answered, status_then, Standing, after_call, over, Each, Among, none, counted, passed}

-- ---- a list of calls

module _ {S C : Type 0} (after : S → C → S) (Rule : S → C → Type 0) (Stands : S → Type 0) (keeps : (s : S) (c : C) → Stands s → Rule s c → Stands (after s c)) where
  -- what every call keeps, the list keeps
  pub kept : (s : S) (cs : List C) → Stands s → Each after Rule s cs → Stands (over after s cs)
  kept s [] i h = i
  kept s (c ∷ cs) i h = kept (after s c) cs (keeps s c i h.0) h.1

  -- A list that has so many calls of a kind, each answered unless the list is done by then, is done or has so many answers more.
  module _ (Kind : S → C → Type 0) (done : S → Bool) (answers : S → ℕ)
      (stays : (s : S) (c : C) → Rule s c → done s ≡ true → done (after s c) ≡ true)
      (grows : (s : S) (c : C) → answers s ≤ answers (after s c))
      (answered : (s : S) (c : C) → Stands s → done s ≡ false → Kind s c → answers s + 1 ≤ answers (after s c)) where
    stays_done : (s : S) (cs : List C) → Each after Rule s cs → done s ≡ true → done (over after s cs) ≡ true
    stays_done s [] h d = d
    stays_done s (c ∷ cs) h d = stays_done (after s c) cs h.1 (stays s c h.0 d)

    pub done_or_answered : (s : S) (cs : List C) (n : ℕ) → Stands s → Each after Rule s cs → Among after Kind s cs n → (done (over after s cs) ≡ true) ⊎ (answers s + n ≤ answers (over after s cs))
    done_or_answered s [] n i h none = inr (omega arith)
    done_or_answered s (c ∷ cs) n i h (passed a) = ⊎_elim inl (λ l. inr (omega (arith, grows s c))) (done_or_answered (after s c) cs n (keeps s c i h.0) h.1 a)
    done_or_answered s (c ∷ cs) n i h (counted k a) = decide (done s)
        (λ d. inl (stays_done s (c ∷ cs) h d))
        (λ d. ⊎_elim inl (λ l. inr (omega (arith, answered s c i d k))) (done_or_answered (after s c) cs _ (keeps s c i h.0) h.1 a))

-- ---- where a session stands

-- A session hands out the entries of a list. What it carries names a place of the list; so many answers fill the list up to a place, and end it.
module _ {K E R : Type 0} (carriedBy : Found → K) (area_of : Found → List ℕ) (reading : List ℕ → Reading E R) (es : List E)
    (Names : K → ℕ → Type 0) (Fill : ℕ → ℕ → Type 0) (End : ℕ → Type 0) where
  abbrev after : Standing K → Found → Standing K
  after = after_call carriedBy area_of

  -- A session that is not done carries a place k of the list, and has handed out the first k entries.
  pub record Open (st : Standing K) (k : ℕ) : Type 0 where
    pub unfinished : st.done ≡ false
    pub named : Names st.carried k
    pub place : (k ≡ 0) ⊎ (k < length es)
    pub handed : readings reading st.areas ≡ read (take k es)
    pub fills : Fill (length st.areas) k

  -- A session that is done has handed out the list.
  pub record Closed (st : Standing K) : Type 0 where
    pub finished : st.done ≡ true
    pub handed : readings reading st.areas ≡ read es
    pub ends : End (length st.areas)

  abbrev pub Stands : Standing K → Type 0
  Stands st = ((k : ℕ) × Open st k) ⊎ Closed st

  pub starts : (carried : K) → Names carried 0 → Fill 0 0 → Stands (record { carried = carried; done = false; areas = [] })
  starts carried n f = inl (0, record { unfinished = refl; named = n; place = inl refl; handed = readings_none reading; fills = f })

  pub within : (st : Standing K) (k : ℕ) → Open st k → k ≤ length es
  within st k o = ⊎_elim (λ e. omega arith) (λ e. omega arith) o.place

  -- What an answered call that finds the session open at k does: it hands out the next n entries.
  pub record Step (a k : ℕ) (c : Found) : Type 0 where
    pub n : ℕ
    pub inside : k + n ≤ length es
    pub reads : reading (area_of c) ≡ read (take n (drop k es))
    pub status : status_then c ≡ cond (ltb (k + n) (length es)) 1 0
    pub names : k + n < length es → Names (carriedBy c) (k + n)
    pub fills : k + n < length es → Fill (a + 1) (k + n)
    pub ends : k + n ≡ length es → End (a + 1)

  module _ (st : Standing K) (k : ℕ) (o : Open st k) (c : Found) (step : Step (length st.areas) k c) where
    abbrev then : Standing K
    then = record { carried = carriedBy c; done = eqb (status_then c) 0; areas = st.areas ++ (area_of c ∷ []) }

    abbrev far : ℕ
    far = k + step.n

    handed_then : readings reading (st.areas ++ (area_of c ∷ [])) ≡ read (take far es)
    handed_then =
        readings_more reading st.areas (area_of c) ∙ rw (o.handed, step.reads, joined_read) (ap read (sym (take-add k step.n es)))

    length_then : length (st.areas ++ (area_of c ∷ [])) ≡ length st.areas + 1
    length_then = length-append st.areas (area_of c ∷ [])

    goes_on : ltb far (length es) ≡ true → Stands then
    goes_on t =
        let less = ltb-true far (length es) t in
        inl (far, record { unfinished = rw (step.status, t); named = step.names less; place = inr less; handed = handed_then; fills = rw length_then (step.fills less) })

    ends-here : ltb far (length es) ≡ false → Stands then
    ends-here t =
        let all : far ≡ length es = omega (arith, ltb-false far (length es) t, step.inside) in
        inr (record { finished = rw (step.status, t); handed = handed_then ∙ ap read (take_all far es (omega arith)); ends = rw length_then (step.ends all) })

    stands_then : Stands then
    stands_then = decide (ltb far (length es)) goes_on ends-here

  -- ---- any rule for continuing

  module _ (Continues : Standing K → Found → Type 0)
      (unfinished : (st : Standing K) (c : Found) → Continues st c → st.done ≡ false)
      (steps : (st : Standing K) (k : ℕ) → Open st k → (c : Found) → is_answered c ≡ true → Continues st c → Step (length st.areas) k c) where
    abbrev Rule : Standing K → Found → Type 0
    Rule st c = is_answered c ≡ true → Continues st c

    pub stands_after : (st : Standing K) (c : Found) → Stands st → Rule st c → Stands (after st c)
    unfolding after_call
    stands_after st c s h = choose (is_answered c) Stands
        {x = record { carried = carriedBy c; done = eqb (status_then c) 0; areas = st.areas ++ (area_of c ∷ []) }} {y = st}
        (λ e. ⊎_elim (λ o. stands_then st o.0 o.1 c (steps st o.0 o.1 c e (h e))) (λ o. absurd (true≢false (sym o.finished ∙ unfinished st c (h e)))) s)
        (λ e. s)

    pub stands : (st : Standing K) (cs : List Found) → Stands st → Each after Rule st cs → Stands (over after st cs)
    stands = kept after Rule Stands stands_after

    -- ---- a session ends

    pub after_refused : (st : Standing K) (c : Found) → is_answered c ≡ false → after st c ≡ st
    unfolding after_call
    after_refused st c e = rw e

    pub after_answered : (st : Standing K) (c : Found) → is_answered c ≡ true → length (after st c).areas ≡ length st.areas + 1
    unfolding after_call
    after_answered st c e = rw e (length-append st.areas (area_of c ∷ []))

    pub stays : (st : Standing K) (c : Found) → Rule st c → st.done ≡ true → (after st c).done ≡ true
    stays st c h d = decide (is_answered c) (λ e. absurd (true≢false (sym d ∙ unfinished st c (h e)))) (λ e. ap (λ (x : Standing K). x.done) (after_refused st c e) ∙ d)

    pub grows : (st : Standing K) (c : Found) → length st.areas ≤ length (after st c).areas
    grows st c = decide (is_answered c) (λ e. omega (arith, after_answered st c e)) (λ e. omega (arith, ap (λ (x : Standing K). length x.areas) (after_refused st c e)))

    -- where every well-made call that finds the session open is answered, n of them come to the end if no session is open after n answers
    pub session_ends : (WellMade : Standing K → Found → Type 0)
        → ((st : Standing K) (k : ℕ) → Open st k → (c : Found) → WellMade st c → is_answered c ≡ true)
        → (st : Standing K) (cs : List Found) (n : ℕ) → ((a k : ℕ) → Fill a k → (k ≡ 0) ⊎ (k < length es) → n ≤ a → ⊥)
        → Stands st → Each after Rule st cs → Among after WellMade st cs n → (over after st cs).done ≡ true
    session_ends WellMade answers st cs n full s h a = ⊎_elim (λ d. d)
        (λ g. ⊎_elim (λ o. absurd (full _ o.0 o.1.fills o.1.place (omega arith))) (λ o. o.finished) (stands st cs s h))
        (done_or_answered after Rule Stands stands_after WellMade (λ (x : Standing K). x.done) (λ (x : Standing K). length x.areas) stays grows answered st cs n s h a)
      where
        answered : (x : Standing K) (c : Found) → Stands x → x.done ≡ false → WellMade x c → length x.areas + 1 ≤ length (after x c).areas
        answered x c t d m = ⊎_elim (λ o. omega (arith, after_answered x c (answers x o.0 o.1 c m))) (λ o. absurd (true≢false (sym o.finished ∙ d))) t
