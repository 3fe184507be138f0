-- The forecast of a scope and state is the answer of an update-nodes call.
use mathlib.Core.Path.{◌≡◌, refl, sym, ap, ◌∙◌}
use mathlib.Core.Bool.{Bool, true, false, cond, true≢false}
use mathlib.Core.List.{List}
use mathlib.Core.Logic.{◌⊎◌, inl, inr, ⊎_elim}
use Prim.Native.Nat.{ℕ, ◌≤◌, ◌<◌}
use native.Mathlib.Omega.{arith}
use native.Mathlib.Nat.{add-zero}
use lib.Dec.{leb, ltb, eqb}
use borrow.Author.Tests.{leb-true, leb-false, eqb-true, eqb-false}
use lib.ListN.{length, drop}
use lib.Seq.{take-take}
use Rattle.words.specs.Claims.Exactly.{Exactly}
use Rattle.words.specs.Numbers.{be, be32, be64, be_bytes, word_bytes, zeros}
use Rattle.words.proofs.Choice.{decide}
use Rattle.words.proofs.Numbers.{be_drop, be_take}
use Rattle.journal.specs.declared.counts.Counts.{Counts}
use Rattle.journal.specs.declared.operation.Operation.{Operation}
use Rattle.journal.specs.declared.scope.Units.TheVariants.{All}
use Rattle.journal.specs.Journal.{well_formed, entries}
use Rattle.journal.specs.Scope.{negative, Selection, selection_of}
use Rattle.journal.specs.Reportable.{chosen, reportable, counts_of}
use Rattle.node_area.specs.Head.{head_of, carried_head}
use Rattle.node_area.specs.State.{is_within}
use Rattle.nodes.specs.Run.{run, remains, next_state}
use Rattle.nodes.proofs.Carried.{state_of_lem}
use Rattle.nodes.proofs.Listed.{chosen_code}
use Rattle.tallies.specs.Tallies.{recount_of}
use Rattle.tallies.proofs.Claims.{recount_claims}
use Rattle.calls.specs.Status.{status_word}
use Rattle.calls.specs.Lent.{part_at}
use Rattle.calls.specs.Buffer.{Found, Left, call_of}
use Rattle.calls.specs.Claims.Terms.{minus, HasStatus, status_of}
use Rattle.calls.specs.Claims.ExactNodes.{Asked, Clear, Answer, ExactNodes}
use Rattle.calls.proofs.Exactly.{equal, below, either}
use Rattle.calls.proofs.Exact.{demand2}
use Rattle.forecast.specs.declared.forecasting.Forecast.{Forecast}
use Rattle.forecast.specs.Forecast.{refused, answer_from, forecast_of}
use Rattle.forecast.specs.Claims.Forecast.{Ordinary, AsCalled, AsListed, AsTheCall}
use Rattle.forecast.proofs.Lists.{as_the_list}

-- a state is 0 or below the list's length
within_exact : (n all : ℕ) → Exactly (is_within n all ≡ true) ((n ≡ 0) ⊎ (n < all))
within_exact n all = either (eqb n 0) (ltb n all) (equal n 0) (below n all)

one_or_none : (t : Bool) → cond t 1 0 ≤ 1
one_or_none true = omega arith
one_or_none false = omega arith

-- a word of memory is that of the area which begins there
first_word : (m : List ℕ) (address : ℕ) → be32 m address ≡ be32 (part_at m address 4096) 0
unfolding part_at
first_word m address = sym (be_take 4 4096 (drop address m) 0 (omega arith) ∙ be_drop 4 address m 0 ∙ ap (be 4 m) (add-zero address))

-- the list of a selection answers as its three counts
selection_listed : (selection : Selection) (j : List ℕ) (state : ℕ) → AsListed (reportable selection j) state (answer_from (counts_of selection j) state)
unfolding reportable
selection_listed selection j state =
    as_the_list (chosen selection 1 (entries j)) (chosen selection 2 (entries j)) (chosen selection 3 (entries j)) (chosen_code selection 1 (entries j)) (chosen_code selection 2 (entries j)) (chosen_code selection 3 (entries j)) state

module _ (f : Found) (scope state : ℕ) (other : scope ≡ 3 → ⊥) (small : state < 0x1_0000_0000) (formed : well_formed f.journal ≡ true) (o : Ordinary f scope state) where
  abbrev address : ℕ
  address = be32 f.args 12

  abbrev area : List ℕ
  area = part_at f.memory address 4096

  abbrev unit : ℕ
  unit = be64 area 4

  abbrev os : List Operation
  os = reportable (selection_of scope unit) f.journal

  abbrev x : Left
  x = call_of f

  abbrev status : ℕ
  status = status_of f.args x

  -- ---- what demand 2 says of the call

  has_status : HasStatus x
  has_status = (demand2.numbers f).given (omega arith) (omega arith) (omega arith) (omega arith)

  exact : ExactNodes f.memory f.journal address scope status x.memory
  exact = rw o.scope_is at ((demand2.statuses f has_status).nodes o.asks).0

  -- ---- the area that the call finds

  begins : head_of area ≡ carried_head All state
  unfolding part_at be_bytes word_bytes
  begins = take-take 16 4096 (drop address f.memory) (omega arith) ∙ o.begins

  state-is : be32 area 0 ≡ state
  state-is = state_of_lem area All state begins small

  clear : Clear scope area
  unfolding zeros be_bytes word_bytes
  clear = record { other = λ _. ap (λ (l : List ℕ). zeros (drop 4 l)) begins; unit = λ e. absurd (other e) }

  -- ---- refused

  -- what is not answered is -3, since the journal is well-formed
  refused_as : (told : Forecast) → (status ≤ 1 → ⊥) → (status_word told.status ≡ minus 3) × (told.next ≡ 0) → AsCalled f x told
  refused_as told n is =
      let minus_3 = exact.otherwise n (λ h. true≢false (sym formed ∙ (exact.malformed.0 h).1)) in
      record { status = minus_3 ∙ sym is.0; one_of = λ _. is.0; next = λ h. absurd (omega (arith, is.0)); refused = λ _. is.1 }

  -- ---- answered

  answer : status ≤ 1 → Answer scope area (part_at x.memory address 4096) os (run os state) state status
  answer h = rw state-is at (exact.answers o.bytes.0 o.bytes.1 h)

  answered_as : (told : Forecast) → status ≤ 1 → (status_word told.status ≡ cond (remains os state) 1 0) × (told.next ≡ next_state os state) → AsCalled f x told
  unfolding remains next_state
  answered_as told h is =
      let low : status_word told.status ≤ 1 = rw is.0 (one_or_none (remains os state)) in
      record {
        status = (answer h).remaining ∙ sym is.0;
        one_of = λ n. absurd (n low);
        next = λ _. first_word x.memory address ∙ (answer h).new_state ∙ sym is.1;
        refused = λ e. absurd (omega arith);
      }

  -- ---- by the state, in a valid scope

  module _ (asked : Asked f.memory address scope) where
    answers : is_within state (length os) ≡ true → status ≤ 1
    answers w = exact.answered.1 (asked, record { formed = formed; clear = clear; begun = rw state-is ((within_exact state (length os)).0 w) })

    refuses : is_within state (length os) ≡ false → status ≤ 1 → ⊥
    refuses w h = true≢false (sym ((within_exact state (length os)).1 (rw state-is at (exact.answered.0 h).1.begun)) ∙ w)

    listed_as : (told : Forecast) → AsListed os state told → AsCalled f x told
    listed_as told is = decide (is_within state (length os)) (λ w. answered_as told (answers w) (is.inside w)) (λ w. refused_as told (refuses w) (is.outside w))

  -- ---- by the scope

  abbrev Scoped : Type 0
  Scoped = (0x8000_0000 ≤ scope) ⊎ ((scope ≡ 1) ⊎ ((scope ≡ 2) ⊎ (scope ≡ 3)))

  -- a row's counts answer for its scope
  row_as : (counts : Counts) → counts ≡ counts_of (selection_of scope unit) f.journal → Scoped → AsCalled f x (answer_from counts state)
  row_as counts is scoped =
      rw is (listed_as (record { aligned = o.aligned; inside = o.inside; scoped = scoped }) _ (selection_listed (selection_of scope unit) f.journal state))

  -- one of a single scope
  numbered_as : (n : ℕ) (counts : Counts) → scope ≡ n → counts ≡ counts_of (selection_of n unit) f.journal → Scoped → AsCalled f x (answer_from counts state)
  numbered_as n counts e is scoped = row_as counts (is ∙ ap (λ (s : ℕ). counts_of (selection_of s unit) f.journal) (sym e)) scoped

  -- a scope with no row is refused
  none_as : (Scoped → ⊥) → AsCalled f x refused
  none_as n = refused_as refused (λ h. n (exact.answered.0 h).0.scoped) (refl, refl)

  by_scope : AsCalled f x (forecast_of (recount_of f.journal) scope state)
  unfolding forecast_of negative
  by_scope =
      let rows = recount_claims.rows_of_scopes in
      decide (leb 0x8000_0000 scope)
      (λ t. let h = leb-true 0x8000_0000 scope t in rw t (row_as _ (rows.negative f.journal scope unit h) (inl h)))
      (λ t. decide (eqb scope 1)
      (λ u. let e = eqb-true scope 1 u in rw (t, u) (numbered_as 1 _ e (rows.first f.journal unit) (inr (inl e))))
      (λ u. decide (eqb scope 2)
      (λ v. let e = eqb-true scope 2 v in rw (t, u, v) (numbered_as 2 _ e (rows.second f.journal unit) (inr (inr (inl e)))))
      (λ v. rw (t, u, v) (none_as (λ s. not_scoped (leb-false 0x8000_0000 scope t) (eqb-false scope 1 u) (eqb-false scope 2 v) s)))))
    where
      not_scoped : scope < 0x8000_0000 → (scope ≡ 1 → ⊥) → (scope ≡ 2 → ⊥) → Scoped → ⊥
      not_scoped l one two s =
          ⊎_elim (λ (h : 0x8000_0000 ≤ scope). omega arith)
          (λ (r : (scope ≡ 1) ⊎ ((scope ≡ 2) ⊎ (scope ≡ 3))). ⊎_elim one (λ (q : (scope ≡ 2) ⊎ (scope ≡ 3)). ⊎_elim two other q) r) s

pub as_the_call : AsTheCall
as_the_call scope state other small f formed o = by_scope f scope state other small formed o
