-- The answered get-indices calls of a session hand out the list of a flag and type, each entry once and in order.
use mathlib.Core.Path.{◌≡◌, refl, ap, ◌∙◌, sym}
use mathlib.Core.Bool.{Bool, true, false, cond, true≢false}
use mathlib.Core.List.{List}
use mathlib.Core.Logic.{◌⊎◌, inl, inr, ⊎_elim}
use Prim.Native.Nat.{ℕ, ◌+◌, ◌-◌, ◌≤◌, ◌<◌}
use native.Mathlib.Omega.{arith}
use lib.Dec.{ltb}
use borrow.Author.Tests.{lt-ltb}
use lib.ListN.{length}
use lib.Seq.{take_all}
use Rattle.words.specs.Numbers.{Bytes}
use Rattle.words.proofs.Choice.{decide}
use Rattle.inventory.specs.Inventory.{well_formed}
use Rattle.inventory.specs.Listing.{Entry, listed}
use Rattle.indices.specs.Reading.{reading}
use Rattle.calls.specs.Claims.Terms.{naming}
use Rattle.calls.specs.declared.reading_record.ReadingRecord.{ReadingRecord}
use Rattle.calls.specs.ReadingRecord.{is_named, is_current}
use Rattle.calls.specs.GetIndices.{askable}
use Rattle.calls.specs.Buffer.{input, request_of, Found, call_of}
use Rattle.calls.specs.Claims.Session.{is_answered, Standing, after_call}
use Rattle.calls.specs.Claims.IndexSession.{area_then, number_then, Held, start, after, standing, Finds, Continues, Rule, Session, WellMade, handed_out}
use Rattle.calls.specs.Claims.WholeList.{HandedOut, Ends, WholeList}
use Rattle.calls.proofs.IndicesCalls.{Hands, hands, made_answers}
use Rattle.calls.proofs.ReadingRecords.{named_exact, current_exact}
use Rattle.calls.proofs.Unchanged.{refused_keeps}
use Rattle.calls.proofs.Session as session

-- ---- the kind of session: a number carries it on, and each answer hands out an entry at least

abbrev Names : ℕ → ℕ → Type 0
Names carried k = carried ≡ k + 1

abbrev Fill : ℕ → ℕ → Type 0
Fill a k = a ≤ k

before_is : (k : ℕ) → k + 1 - 1 ≡ k
before_is k = omega arith

module _ (i : List ℕ) (edition flag type : ℕ) (bytes : Bytes i) (formed : well_formed i ≡ true) where
  abbrev es : List Entry
  es = listed flag type i

  abbrev End : ℕ → Type 0
  End a = a ≤ length es

  abbrev Open : Standing ℕ → ℕ → Type 0
  Open = session.Open number_then area_then reading es Names Fill End

  abbrev Step : ℕ → ℕ → Found → Type 0
  Step = session.Step number_then area_then reading es Names Fill End

  abbrev Stands : Standing ℕ → Type 0
  Stands = session.Stands number_then area_then reading es Names Fill End

  -- an answered call of the session, over the inventory
  record Goes (st : Standing ℕ) (c : Found) : Type 0 where
    over : c.inventory ≡ i
    goes : Continues flag type st c

  handing : (c : Found) → is_answered c ≡ true → (st : Standing ℕ) → Goes st c → (k : ℕ) → st.carried ≡ k + 1 → Hands c es k
  handing c answered st n k e =
      let list_is : listed (input c.args 0) (input c.args 1) c.inventory ≡ es = rw (n.goes.of_flag, n.goes.of_type, n.over) in
      rw list_is at (hands c answered n.goes.indices k (n.goes.numbered ∙ e))

  step : (st : Standing ℕ) (k : ℕ) → Open st k → (c : Found) → is_answered c ≡ true → Goes st c → Step (length st.areas) k c
  step st k o c answered n =
      let h = handing c answered st n k o.named in
      record {
        n = h.n;
        inside = h.inside;
        reads = h.reads (rw n.over bytes);
        status = h.status;
        names = λ l. h.next ∙ rw (lt-ltb (k + h.n) (length es) l);
        fills = λ l. omega (arith, o.fills, h.some);
        ends = λ e. omega (arith, o.fills, h.some);
      }

  unfinished : (st : Standing ℕ) (c : Found) → Goes st c → st.done ≡ false
  unfinished st c n = n.goes.unfinished

  -- ---- the record

  -- the record that stands names what is carried on, or there is none and the first number is carried
  abbrev Agrees : Held → Type 0
  Agrees h = ((h.reading ≡ naming 0 0 1 0) × (h.session.carried ≡ 1)) ⊎ (h.reading ≡ naming flag type h.session.carried edition)

  -- a call with that number passes the checks of the record
  module _ (h : Held) (a : Agrees h) (c : Found) (f : Finds i edition h c) (of_flag : input c.args 0 ≡ flag) (of_type : input c.args 1 ≡ type) (numbered : input c.args 4 ≡ h.session.carried) where
    named : is_named c.reading (request_of c.args) ≡ true
    named = (named_exact c.reading (request_of c.args)).1
        (λ n. ⊎_elim (λ e. absurd (n (numbered ∙ e.1))) (λ e. let found-is : c.reading ≡ naming flag type h.session.carried edition = f.reading_is ∙ e in rw (found-is, of_flag, of_type, numbered) (refl, (refl, refl))) a)

    current : is_current c.reading c.edition (request_of c.args) ≡ true
    current = (current_exact c.reading (request_of c.args) c.edition).1
        (λ n. ⊎_elim (λ e. absurd (n (numbered ∙ e.1))) (λ e. let found-is : c.reading ≡ naming flag type h.session.carried edition = f.reading_is ∙ e in rw (found-is, f.edition_is)) a)

  -- no call of the session can be given -4
  standing_edition : (h : Held) → Agrees h → (c : Found) → Finds i edition h c → (c.reading.number.0 ≡ 1) ⊎ (c.edition.0 ≡ c.reading.edition.0)
  standing_edition h a c f =
      ⊎_elim
      (λ e. inl (ap (λ (r : ReadingRecord). r.number.0) (f.reading_is ∙ e.0)))
      (λ e. inr (f.edition_is ∙ ap (λ (r : ReadingRecord). r.edition.0) (sym (f.reading_is ∙ e))))
      a

  abbrev StandsH : Held → Type 0
  StandsH h = Stands h.session × Agrees h

  -- a record and a number that are told together
  agree : (t : Bool) (r : ReadingRecord) (carried far of_flag of_type of_edition : ℕ) → r ≡ cond t (naming of_flag of_type (far + 1) of_edition) (naming 0 0 1 0) → carried ≡ cond t (far + 1) 1
      → of_flag ≡ flag → of_type ≡ type → of_edition ≡ edition → ((r ≡ naming 0 0 1 0) × (carried ≡ 1)) ⊎ (r ≡ naming flag type carried edition)
  agree true r carried far of_flag of_type of_edition e f p q o = inr (e ∙ rw (f, p, q, o))
  agree false r carried far of_flag of_type of_edition e f p q o = inl (e, f)

  begins : StandsH start
  begins = (session.starts number_then area_then reading es Names Fill End 1 refl (omega arith), inl (refl, refl))

  -- an answered call leaves a record that agrees with the number that it gives
  module _ (h : Held) (c : Found) (answered : is_answered c ≡ true) (n : Goes h.session c) (f : Finds i edition h c) (k : ℕ) (e : h.session.carried ≡ k + 1) where
    told : Hands c es k
    told = handing c answered h.session n k e

    carried_then_lem : (after h c).session.carried ≡ number_then c
    unfolding after_call
    carried_then_lem = rw answered

    agrees_then : Agrees (after h c)
    agrees_then = agree (ltb (k + told.n) (length es)) (call_of c).reading (after h c).session.carried (k + told.n) (input c.args 0) (input c.args 1) c.edition.0
        told.record_is (carried_then_lem ∙ told.next) n.goes.of_flag n.goes.of_type f.edition_is

  -- and a refused one leaves both
  agrees_still : (h : Held) (c : Found) → is_answered c ≡ false → Agrees h → Finds i edition h c → Agrees (after h c)
  unfolding after_call
  agrees_still h c refused a f =
      let kept : (call_of c).reading ≡ h.reading = refused_keeps c (standing_edition h a c f) refused ∙ f.reading_is in
      rw (refused, kept) a

  keeps : (h : Held) (c : Found) → StandsH h → Rule i edition flag type h c → StandsH (after h c)
  keeps h c s r = (
    session.stands_after number_then area_then reading es Names Fill End Goes unfinished step h.session c s.0 goes,
    decide (is_answered c)
        (λ answered. ⊎_elim
        (λ o. agrees_then h c answered (goes answered) r.0 o.0 o.1.named)
        (λ o. absurd (true≢false (sym o.finished ∙ (r.1 answered).unfinished)))
        s.0)
        (λ refused. agrees_still h c refused s.1 r.0),
  )
    where
      goes : is_answered c ≡ true → Goes h.session c
      goes answered = record { over = r.0.inventory_is; goes = r.1 answered }

  -- ---- a well-made call is answered while the session is open

  module _ (may : askable flag type ≡ true) (some-entry : 1 ≤ length es) where
    answers : (h : Held) (k : ℕ) → Open h.session k → Agrees h → (c : Found) → WellMade i edition flag type h c → is_answered c ≡ true
    answers h k o a c m =
        let k_less : k < length es = ⊎_elim (λ e. omega arith) (λ e. omega arith) o.place in
        let f = m.finds in
        let made = m.made in
        made_answers c flag type k (rw o.named at made) (rw f.inventory_is bytes) (rw f.inventory_is formed) may (rw f.inventory_is k_less)
        (named h a c f made.of_flag made.of_type made.numbered) (current h a c f made.of_flag made.of_type made.numbered)

  -- ---- the account of a session

  open_handed : (h : Held) (k : ℕ) → Open h.session k → Agrees h → HandedOut i edition flag type es h
  unfolding handed_out
  open_handed h k o a = record {
    handed = rw (o.unfinished, o.named, before_is k) o.handed;
    bounded = ⊎_elim (λ e. omega (arith, o.fills)) (λ e. omega (arith, o.fills)) o.place;
    answers = λ may some _. answers may some h k o a;
  }

  closed_handed : (h : Held) → session.Closed number_then area_then reading es Names Fill End h.session → HandedOut i edition flag type es h
  unfolding handed_out
  closed_handed h c = record { handed = rw (c.finished, take_all (length es) es (omega arith)) c.handed; bounded = c.ends; answers = λ _ _ e. absurd (true≢false (sym c.finished ∙ e)) }

  stands : (cs : List Found) → Session i edition flag type cs → StandsH (standing cs)
  stands cs h = session.kept after (Rule i edition flag type) StandsH keeps start cs begins h

  handed_out_lem : (cs : List Found) → Session i edition flag type cs → HandedOut i edition flag type es (standing cs)
  handed_out_lem cs h = let s = stands cs h in ⊎_elim (λ o. open_handed (standing cs) o.0 o.1 s.1) (closed_handed (standing cs)) s.0

  ends : (cs : List Found) → Session i edition flag type cs → Ends i edition flag type es cs
  ends cs h may some n a l = ⊎_elim (λ d. d)
      (λ g. ⊎_elim (λ o. absurd (⊎_elim (λ e. omega (arith, o.1.fills)) (λ e. omega (arith, o.1.fills)) o.1.place)) (λ o. o.finished) (stands cs h).0)
      (session.done_or_answered after (Rule i edition flag type) StandsH keeps (WellMade i edition flag type) (λ (x : Held). x.session.done) (λ (x : Held). length x.session.areas) stays grows more start cs n begins h a)
    where
      stays : (x : Held) (c : Found) → Rule i edition flag type x c → x.session.done ≡ true → (after x c).session.done ≡ true
      stays x c r = session.stays number_then area_then reading es Names Fill End Goes unfinished step x.session c (λ answered. record { over = r.0.inventory_is; goes = r.1 answered })

      grows : (x : Held) (c : Found) → length x.session.areas ≤ length (after x c).session.areas
      grows x c = session.grows number_then area_then reading es Names Fill End Goes unfinished step x.session c

      more : (x : Held) (c : Found) → StandsH x → x.session.done ≡ false → WellMade i edition flag type x c → length x.session.areas + 1 ≤ length (after x c).session.areas
      more x c s d m = ⊎_elim
          (λ o. omega (arith, session.after_answered number_then area_then reading es Names Fill End Goes unfinished step x.session c (answers may some x o.0 o.1 s.1 c m)))
          (λ o. absurd (true≢false (sym o.finished ∙ d)))
          s.0

pub whole_list : WholeList
whole_list i edition flag type bytes formed cs h = (handed_out_lem i edition flag type bytes formed cs h, ends i edition flag type bytes formed cs h)
