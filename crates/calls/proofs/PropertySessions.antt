-- The answered update-properties calls of a session hand out the changes of the node, each once and in journal order (document 02, M-103).
use mathlib.Core.Path.{◌≡◌, refl, ap, ◌∙◌, sym, subst}
use mathlib.Core.Bool.{true, true≢false}
use mathlib.Core.List.{List, [], ◌∷◌, ◌++◌, append_assoc}
use mathlib.Core.Logic.{⊎_elim}
use Prim.Native.Nat.{ℕ, zero, suc, ◌+◌, ◌*◌, ◌-◌, ◌≤◌, ◌<◌}
use native.Mathlib.Omega.{arith}
use lib.Dec.{leb, ltb}
use borrow.Author.Tests.{leb-true, leb-false, ltb-true, ltb-false, lt-ltb, le-ltb}
use lib.ListN.{length, take, drop, length-append}
use lib.Seq.{take_at, drop_at}
use Rattle.words.specs.Numbers.{be_bytes, word_bytes, zeros}
use Rattle.words.specs.Reading.{read}
use Rattle.words.proofs.Choice.{decide}
use Rattle.words.proofs.Numbers.{be_take}
use Rattle.words.proofs.Places.{word_there}
use Rattle.journal.specs.Journal.{well_formed}
use Rattle.journal.proofs.Walks.{all_good_lem, within_limit}
use Rattle.node_area.specs.Head.{head_of}
use Rattle.property_area.specs.Head.{phandle_in, state_in, is_reserved, carried_head}
use Rattle.property_area.specs.Piece.{Piece}
use Rattle.property_area.specs.Reading.{reading}
use Rattle.properties.specs.Changes.{Change, changes, properties, is_due}
use Rattle.properties.specs.Filling.{area_room, fill, weight}
use Rattle.properties.specs.Session as area
use Rattle.properties.specs.Session.{state, states, member}
use Rattle.properties.specs.Inner.Terms.{handed_out}
use Rattle.properties.specs.Answer.{carries, handed}
use Rattle.properties.proofs.Areas.{after_last, handed_last}
use Rattle.properties.proofs.Steps.{placed_all}
use Rattle.properties.proofs.Sessions.{SessionOf, session_of}
use Rattle.calls.specs.UpdateNodes.{area_at}
use Rattle.calls.specs.Buffer.{input, Found}
use Rattle.calls.specs.Claims.Session.{is_answered, Standing}
use Rattle.calls.specs.Claims.NodeSession.{address, area_before, area_then, carried_then}
use Rattle.calls.specs.Claims.PropertySession.{start, standing, Continues, Session, WellMade, reported, joined_reading}
use Rattle.calls.specs.Claims.WholeNode.{Accounted, Ends, WholeNode}
use Rattle.calls.proofs.Memory.{part_length, part_stored}
use Rattle.calls.proofs.PropertiesCalls.{Passed, Answered, answered_is, will_answer}
use Rattle.calls.proofs.PropertyAnswers.{left, left_length, left_head, left_reads}
use Rattle.calls.proofs.Heads.{given_by, asks_by}
use Rattle.calls.proofs.Session as session

-- ---- the areas of the node's one session as a list of pieces

-- n areas and d more
handed_more : (n d : ℕ) (cs : List Change) → handed_out (n + d) cs ≡ handed_out n cs ++ handed_out d (area.after n cs)
unfolding handed_out area.after
handed_more zero d cs = let e : 0 + d ≡ d = omega arith in ap (λ (k : ℕ). handed_out k cs) e
handed_more (suc n) d cs =
    let e : suc n + d ≡ suc (n + d) = omega arith in
    let due = (fill area_room cs).due in
    ap (λ (k : ℕ). handed_out k cs) e ∙ rw (handed_more n d due) (sym (append_assoc (fill area_room cs).pieces (handed_out n due) (handed_out d (area.after n due))))

-- the areas of the whole session, what they hand out, and what one of them does
abbrev areas_of : List Change → ℕ
areas_of cs = length (states cs)

abbrev all_pieces : List Change → List Piece
all_pieces cs = handed_out (areas_of cs) cs

abbrev pieces_of : ℕ → List Change → List Piece
pieces_of n cs = (fill area_room (area.after n cs)).pieces

-- how many n areas hand out
abbrev place_of : ℕ → List Change → ℕ
place_of n cs = length (handed_out n cs)

module _ {hi : ℕ} {cs : List Change} (so : SessionOf hi cs) where
  abbrev areas : ℕ
  areas = areas_of cs

  abbrev es : List Piece
  es = all_pieces cs

  abbrev place : ℕ → ℕ
  place n = place_of n cs

  place_next : (n : ℕ) → place (suc n) ≡ place n + length (pieces_of n cs)
  place_next n = ap length (handed_last n cs) ∙ length-append (handed_out n cs) (pieces_of n cs)

  place_more : (n d : ℕ) → place n ≤ place (n + d)
  place_more n d = omega (arith, ap length (handed_more n d cs) ∙ length-append (handed_out n cs) (handed_out d (area.after n cs)))

  place-rises : (m n : ℕ) → m < n → is_due (area.after m cs) ≡ true → place m < place n
  place-rises m n h d =
      let e : suc m + (n - suc m) ≡ n = omega arith in
      omega (arith, so.gives m d, place_next m, place_more (suc m) (n - suc m), ap place e)

  place-within : (n : ℕ) → n ≤ areas → place n ≤ length es
  place-within n h = let e : n + (areas - n) ≡ areas = omega arith in omega (arith, place_more n (areas - n), ap place e)

  -- while something is due, a place tells how many areas there were
  same_place : (m n : ℕ) → is_due (area.after m cs) ≡ true → is_due (area.after n cs) ≡ true → place m ≡ place n → m ≡ n
  same_place m n d e p = decide (ltb m n)
      (λ t. absurd (omega (arith, place-rises m n (ltb-true _ _ t) d)))
      (λ t. decide (ltb n m) (λ u. absurd (omega (arith, place-rises n m (ltb-true _ _ u) e))) (λ u. omega (arith, ltb-false m n t, ltb-false n m u)))

  -- something is due before the end of the list
  due_place : (n : ℕ) → n ≤ areas → is_due (area.after n cs) ≡ ltb (place n) (length es)
  due_place n h = decide (is_due (area.after n cs))
      (λ d. d ∙ sym (lt-ltb (place n) (length es) (place-rises n areas (ltb-true _ _ (sym (so.counted n) ∙ d)) d)))
      (λ d. let e : n ≡ areas = omega (arith, ltb-false n areas (sym (so.counted n) ∙ d)) in d ∙ sym (le-ltb (place n) (length es) (omega (arith, ap place e))))

  module _ (n : ℕ) (h : n ≤ areas) where
    es_at : es ≡ handed_out n cs ++ handed_out (areas - n) (area.after n cs)
    es_at = let e : n + (areas - n) ≡ areas = omega arith in ap (λ (k : ℕ). handed_out k cs) (sym e) ∙ handed_more n (areas - n) cs

    -- so many areas hand out its first pieces
    first_pieces : take (place n) es ≡ handed_out n cs
    first_pieces = ap (take (place n)) es_at ∙ take_at (handed_out n cs) _ (place n) refl

  -- and one more the next ones
  next_pieces : (n : ℕ) → n < areas → take (length (pieces_of n cs)) (drop (place n) es) ≡ pieces_of n cs
  next_pieces n h =
      let rest = handed_out (areas - suc n) (area.after (suc n) cs) in
      let whole : es ≡ handed_out n cs ++ (pieces_of n cs ++ rest) = es_at (suc n) (omega arith) ∙ rw (handed_last n cs) (append_assoc (handed_out n cs) (pieces_of n cs) rest) in
      ap (λ (l : List Piece). take (length (pieces_of n cs)) (drop (place n) l)) whole
      ∙ rw (drop_at (handed_out n cs) (pieces_of n cs ++ rest) (place n) refl) (take_at (pieces_of n cs) rest (length (pieces_of n cs)) refl)

  -- the bound of the number of areas
  due_below : (n : ℕ) → is_due (area.after n cs) ≡ true → 4040 * n < weight (properties cs)
  due_below n d = decide (leb (weight (properties cs)) (4040 * n)) (λ t. absurd (true≢false (sym d ∙ so.ends n (leb-true _ _ t)))) (λ t. leb-false _ _ t)

-- ---- the sixteen bytes that are carried

module _ (l : List ℕ) (phandle state : ℕ) (e : head_of l ≡ carried_head phandle state) where
  phandle_of_lem : phandle < 0x1_0000_0000 → phandle_in l ≡ phandle
  unfolding word_bytes
  phandle_of_lem h = sym (be_take 4 16 l 0 (omega arith)) ∙ word_there (head_of l) 0 phandle _ e h

  state_of_lem : state < 0x1_0000_0000 → state_in l ≡ state
  unfolding word_bytes be_bytes
  state_of_lem h = sym (be_take 4 16 l 4 (omega arith)) ∙ word_there (head_of l) 4 state (word_bytes (0 ∷ 0 ∷ [])) (ap (drop 4) e) h

  reserved_of : is_reserved l ≡ true
  unfolding is_reserved zeros word_bytes be_bytes
  reserved_of = ap (λ (x : List ℕ). zeros (drop 8 x)) e

-- ---- the kind of session: phandle and state carry it on, and each answer is an area of the node's session

module _ (j : List ℕ) (phandle : ℕ) (small : phandle < 0x1_0000_0000) (formed : well_formed j ≡ true) (some : is_due (changes phandle j) ≡ true) where
  abbrev cs : List Change
  cs = changes phandle j

  so : SessionOf (length j) cs
  so = session_of 0 (length j) cs (placed_all phandle j (all_good_lem j formed)) some

  -- so many areas hand out so many pieces, and leave something due
  record Fill (a k : ℕ) : Type 0 where
    due : is_due (area.after a cs) ≡ true
    reached : k ≡ place_of a cs

  record Names (carried : List ℕ) (k : ℕ) : Type 0 where
    n : ℕ
    fills : Fill n k
    head : carried ≡ carried_head phandle (state n cs)

  abbrev End : ℕ → Type 0
  End a = 4040 * (a - 1) < weight (properties cs)

  abbrev Open : Standing (List ℕ) → ℕ → Type 0
  Open = session.Open carried_then area_then reading (all_pieces cs) Names Fill End

  abbrev Step : ℕ → ℕ → Found → Type 0
  Step = session.Step carried_then area_then reading (all_pieces cs) Names Fill End

  begins : session.Stands carried_then area_then reading (all_pieces cs) Names Fill End (start phandle)
  unfolding area.after handed_out state
  begins =
      let fill : Fill 0 0 = record { due = some; reached = refl } in
      session.starts carried_then area_then reading (all_pieces cs) Names Fill End (start phandle).carried (record { n = 0; fills = fill; head = refl }) fill

  -- ---- an open session is at an area of the node's session

  module _ (st : Standing (List ℕ)) (k : ℕ) (o : Open st k) where
    abbrev a : ℕ
    a = length st.areas

    due : is_due (area.after a cs) ≡ true
    due = o.fills.due

    before_end : a < areas_of cs
    before_end = ltb-true a _ (sym (so.counted a) ∙ due)

    carried_is : st.carried ≡ carried_head phandle (state a cs)
    carried_is =
        let n = o.named in
        n.head ∙ ap (λ (i : ℕ). carried_head phandle (state i cs)) (same_place so n.n a n.fills.due due (sym n.fills.reached ∙ o.fills.reached))

    state_small : state a cs < 0x1_0000_0000
    state_small = omega (arith, so.inside a due, within_limit j formed)

    good-state : member (state a cs) (states cs) ≡ true
    good-state = (so.carried (state a cs)).1 (a, due, refl)

    -- ---- an answered call of the session

    module _ (c : Found) (yes : is_answered c ≡ true) (n : Continues j st c) where
      answered : Answered c
      answered = answered_is c n.properties yes

      size : length (area_before c) ≡ 4096
      size = part_length c.memory (address c) 4096 answered.passed.inside

      for_node : phandle_in (area_before c) ≡ phandle
      for_node = phandle_of_lem (area_before c) phandle (state a cs) (n.carries ∙ carried_is) small

      handed_is : handed (area_before c) c.journal ≡ fill area_room (area.after a cs)
      unfolding handed
      handed_is = rw (n.unchanged, for_node, state_of_lem (area_before c) phandle (state a cs) (n.carries ∙ carried_is) state_small, so.afresh a due)

      area_is : area_then c ≡ left (area_before c) c.journal
      area_is =
          ap (λ (m : List ℕ). area_at m (address c)) answered.memory
          ∙ part_stored c.memory (address c) 4096 answered.passed.inside (left (area_before c) c.journal) (left_length (area_before c) c.journal size)

      carried_then_lem : carried_then c ≡ carried_head phandle (state (suc a) cs)
      unfolding state
      carried_then_lem = ap head_of area_is ∙ left_head (area_before c) c.journal ∙ rw (for_node, handed_is, after_last a cs)

      far : k + length (pieces_of a cs) ≡ place_of (suc a) cs
      far = omega (arith, o.fills.reached, place_next so a)

      due_then : is_due (area.after (suc a) cs) ≡ ltb (k + length (pieces_of a cs)) (length (all_pieces cs))
      due_then = due_place so (suc a) (omega (arith, before_end)) ∙ rw far

      fills_then : k + length (pieces_of a cs) < length (all_pieces cs) → Fill (suc a) (k + length (pieces_of a cs))
      fills_then l = record { due = due_then ∙ lt-ltb _ _ l; reached = far }

      step : Step a k c
      step =
          record {
            n = length (pieces_of a cs);
            inside = omega (arith, far, place-within so (suc a) (omega (arith, before_end)));
            reads =
                ap reading area_is ∙ left_reads (area_before c) c.journal answered.passed.formed answered.passed.known size
                ∙ ap read (rw (handed_is, o.fills.reached) (sym (next_pieces so a before_end)));
            status = answered.status ∙ rw (handed_is, ← after_last a cs, due_then);
            names = λ l. record { n = suc a; fills = fills_then l; head = carried_then_lem };
            fills = λ l. let e : suc a ≡ a + 1 = omega arith in subst (λ (i : ℕ). Fill i (k + length (pieces_of a cs))) e (fills_then l);
            ends = λ _. omega (arith, due_below so a due);
          }

    -- ---- a well-made call is answered while the session is open

    module _ (c : Found) (m : WellMade j st c) where
      known : carries (area_before c) c.journal ≡ true
      unfolding carries
      known =
          let head = m.carries ∙ carried_is in
          rw (
            reserved_of (area_before c) phandle (state a cs) head,
            m.unchanged,
            phandle_of_lem (area_before c) phandle (state a cs) head small,
            some,
            state_of_lem (area_before c) phandle (state a cs) head state_small,
          )
          good-state

      passed : Passed c.memory (address c) (input c.args 1) c.journal
      passed = record { aligned = m.aligned; inside = m.inside; scoped = m.scoped; formed = rw m.unchanged formed; known = known }

      answers : is_answered c ≡ true
      answers =
          let b = c.args in
          will_answer c (given_by 2 1 b m.two_inputs m.one_output refl refl m.whole) (asks_by 4 2 1 b m.properties m.two_inputs m.one_output) passed

  -- ---- the account of a session

  open_node : (st : Standing (List ℕ)) (k : ℕ) → Open st k → Accounted j cs st
  unfolding reported word_bytes be_bytes
  open_node st k o =
      let a = length st.areas in
      let due = o.fills.due in
      let state-is : state_in st.carried ≡ state a cs = state_of_lem st.carried phandle (state a cs) (ap head_of (carried_is st k o)) (state_small st k o) in
      let first : take k (all_pieces cs) ≡ handed_out a cs = rw o.fills.reached (first_pieces so a (omega (arith, before_end st k o))) in
      record {
        handed = ap joined_reading (o.handed ∙ ap read first) ∙ ap read (so.handed a due) ∙ rw (o.unfinished, state-is);
        bounded = omega (arith, due_below so a due);
        answers = λ _. answers st k o;
      }

  closed_node : (st : Standing (List ℕ)) → session.Closed carried_then area_then reading (all_pieces cs) Names Fill End st → Accounted j cs st
  unfolding reported
  closed_node st c =
      let n = areas_of cs in
      record {
        handed = ap joined_reading c.handed ∙ ap read (so.all n (so.counted n ∙ le-ltb n n (omega arith))) ∙ rw c.finished;
        bounded = c.ends;
        answers = λ e. absurd (true≢false (sym c.finished ∙ e));
      }

  accounted : (calls : List Found) → Session j phandle calls → Accounted j cs (standing phandle calls)
  accounted calls h = ⊎_elim (λ o. open_node (standing phandle calls) o.0 o.1) (closed_node (standing phandle calls))
      (session.stands carried_then area_then reading (all_pieces cs) Names Fill End (Continues j) (λ st c n. n.unfinished) step (start phandle) calls begins h)

  ends : (calls : List Found) → Session j phandle calls → Ends j phandle cs calls
  ends calls h n a l =
      session.session_ends carried_then area_then reading (all_pieces cs) Names Fill End (Continues j) (λ st c m. m.unfinished) step (WellMade j) answers (start phandle) calls n
      (λ b k f p g. omega (arith, due_below so b f.due)) begins h a

pub whole_node : WholeNode
whole_node j phandle bytes small formed some calls h = (accounted j phandle small formed some calls h, ends j phandle small formed some calls h)
