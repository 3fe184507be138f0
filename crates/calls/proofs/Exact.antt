-- Demand 2: the number of a call, and all that it leaves by its token and counts.
use mathlib.Core.Path.{◌≡◌, ap, ◌∙◌}
use mathlib.Core.Bool.{true, false, ◌||◌, or-true}
use mathlib.Core.List.{List}
use mathlib.Core.Logic.{⊎_elim}
use Prim.Native.Nat.{ℕ, ◌+◌, ◌*◌, ◌≤◌}
use native.Mathlib.Omega.{arith}
use borrow.Author.Tests.{lt-ltb, le-ltb, eq-eqb, ne_eqb}
use lib.Dec.{ltb}
use lib.ListN.{length}
use Rattle.words.specs.Numbers.{be32}
use Rattle.words.proofs.Choice.{decide}
use Rattle.words.proofs.Stores.{word_bytes_one}
use Rattle.calls.specs.Status.{number_of, is_given, status_word}
use Rattle.calls.specs.Buffer.{inputs, outputs, request_of, status_at, number_for, asks}
use Rattle.calls.specs.Buffer.{Found, Left, Outcome, nodes_outcome, indices_outcome, dump_outcome, properties_outcome, refusal, outcome, call_of}
use Rattle.calls.specs.GetIndices.{indices_status, next_number}
use Rattle.calls.specs.Claims.Terms.{HasStatus, Asks, status_of}
use Rattle.calls.specs.Claims.ExactNodes.{ExactNodes}
use Rattle.calls.specs.Claims.ExactIndices.{ExactIndices}
use Rattle.calls.specs.Claims.ExactDump.{ExactDump}
use Rattle.calls.specs.Claims.ExactProperties.{ExactProperties}
use Rattle.calls.specs.Claims.Demands.{Numbered, Unknown, ByToken, Demand2}
use Rattle.calls.proofs.Heads.{asked, asks_by, carried_out, number_is, has_given, nodes_outcome_lem, indices_outcome_lem, dump_outcome_lem, properties_outcome_lem}
use Rattle.calls.proofs.Calls.{status_word_lem}
use Rattle.calls.proofs.Requests.{passed_is}
use Rattle.calls.proofs.IndicesCalls.{number_word}
use Rattle.calls.proofs.Exactly.{at_most}
use Rattle.calls.proofs.ExactNodes.{exact_nodes}
use Rattle.calls.proofs.ExactIndices.{exact_indices}
use Rattle.calls.proofs.ExactDump.{exact_dump}
use Rattle.calls.proofs.ExactProperties.{exact_properties}

-- ---- the number

numbered : (b : List ℕ) → Numbered b (inputs b) (outputs b) (number_of (number_for b))
unfolding number_for
numbered b =
    let n = length b in
    let i = inputs b in
    let o = outputs b in
    let size = 12 + 4 * (i + o) in
    record {
      no_head = λ h. rw (lt-ltb n 12 h);
      too_many = λ h e. let many : (ltb 16 i || ltb 16 o) ≡ true = ⊎_elim (λ g. rw (lt-ltb 16 i g)) (λ g. simp (lt-ltb 16 o g, or-true)) e in rw (le-ltb n 12 h, many);
      cut_off = λ h g f l. rw (le-ltb n 12 h, le-ltb 16 i g, le-ltb 16 o f, lt-ltb n size l);
      no_outputs = λ g l e. rw (le-ltb n 12 (omega arith), le-ltb 16 i g, le-ltb 16 o (omega arith), le-ltb n size l, eq-eqb o 0 e);
      given = λ g f l s. rw (le-ltb n 12 (omega arith), le-ltb 16 i g, le-ltb 16 o f, le-ltb n size l, ne_eqb o 0 (λ e. omega arith));
    }

module _ (c : Found) where
  abbrev b : List ℕ
  b = c.args

  abbrev m : List ℕ
  m = c.memory

  abbrev i : List ℕ
  i = c.inventory

  abbrev x : Left
  x = call_of c

  numbers : Numbered b (be32 b 4) (be32 b 8) (number_of x.number)
  numbers = rw (number_is c) (numbered b)

  -- ---- the status and the rest

  module _ (zero_is : HasStatus x) where
    given : is_given (number_for b) ≡ true
    given = has_given c zero_is

    -- what is left where a call's own work is known
    module _ (o : Outcome) (e : outcome c ≡ o) where
      status_is : status_of b x ≡ status_word o.status
      status_is = status_word_lem c given ∙ ap (λ (y : Outcome). status_word y.status) e

      memory_is : x.memory ≡ o.memory
      memory_is = ap (λ (y : Left). y.memory) (carried_out c given) ∙ ap (λ (y : Outcome). y.memory) e

      registration_is : x.registration ≡ o.registration
      registration_is = ap (λ (y : Left). y.registration) (carried_out c given) ∙ ap (λ (y : Outcome). y.registration) e

      reading_is : x.reading ≡ o.reading
      reading_is = ap (λ (y : Left). y.reading) (carried_out c given) ∙ ap (λ (y : Outcome). y.reading) e

    asks_is : (t n k : ℕ) → Asks t n k b → asks t n k b ≡ true
    asks_is t n k h = asks_by t n k b h.0 h.1 h.2

    asks_not : (t n k : ℕ) → (Asks t n k b → ⊥) → asks t n k b ≡ false
    asks_not t n k h = decide (asks t n k b) (λ e. absurd (h (asked t n k b e))) (λ e. e)

    module _ (h : Asks 1 2 1 b) where
      own_nodes : outcome c ≡ nodes_outcome c
      own_nodes = nodes_outcome_lem c (asks_is 1 2 1 h)

      nodes : ExactNodes m c.journal (be32 b 12) (be32 b 16) (status_of b x) x.memory × (x.registration ≡ c.registration)
      unfolding nodes_outcome
      nodes = (rw (status_is (nodes_outcome c) own_nodes, memory_is (nodes_outcome c) own_nodes) (exact_nodes m c.journal (be32 b 12) (be32 b 16)), registration_is (nodes_outcome c) own_nodes)

    module _ (h : Asks 2 5 2 b) where
      own_indices : outcome c ≡ indices_outcome c
      own_indices = indices_outcome_lem c (asks_is 2 5 2 h)

      -- the second output stands behind five inputs and the status
      next-is : status_word (indices_status m i c.edition c.reading (request_of b)) ≤ 1 → be32 x.args 36 ≡ next_number i (request_of b)
      next-is l =
          let place : 36 ≡ status_at b + 4 = omega (arith, h.1) in
          ap (be32 x.args) place ∙ number_word c given (asks_is 2 5 2 h) (passed_is m i c.edition c.reading (request_of b) ((at_most _ 1).1 l))

      indices : ExactIndices m i c.edition.0 c.reading (be32 b 12) (be32 b 16) (be32 b 20) (be32 b 24) (be32 b 28) (status_of b x) (be32 x.args 36) x.memory x.reading × (x.registration ≡ c.registration)
      unfolding indices_outcome
      indices =
          let own = indices_outcome c in
          (rw (status_is own own_indices, memory_is own own_indices, reading_is own own_indices) (exact_indices m i c.edition c.reading (request_of b) (be32 x.args 36) next-is), registration_is own own_indices)

    module _ (h : Asks 3 3 1 b) where
      own_dump : outcome c ≡ dump_outcome c
      own_dump = dump_outcome_lem c (asks_is 3 3 1 h)

      dump : ExactDump m (be32 b 12) (be32 b 16) (be32 b 20) (status_of b x) c.registration x.registration × (x.memory ≡ m)
      unfolding dump_outcome
      dump = (rw (status_is (dump_outcome c) own_dump, registration_is (dump_outcome c) own_dump) (exact_dump m (be32 b 12) (be32 b 16) (be32 b 20) c.registration), memory_is (dump_outcome c) own_dump)

    module _ (h : Asks 4 2 1 b) where
      own_properties : outcome c ≡ properties_outcome c
      own_properties = properties_outcome_lem c (asks_is 4 2 1 h)

      properties : ExactProperties m c.journal (be32 b 12) (be32 b 16) (status_of b x) x.memory × (x.registration ≡ c.registration)
      unfolding properties_outcome
      properties =
          let own = properties_outcome c in
          (rw (status_is own own_properties, memory_is own own_properties) (exact_properties m c.journal (be32 b 12) (be32 b 16)), registration_is own own_properties)

    module _ (f : Asks 1 2 1 b → ⊥) (g : Asks 2 5 2 b → ⊥) (d : Asks 3 3 1 b → ⊥) (q : Asks 4 2 1 b → ⊥) where
      own_none : outcome c ≡ refusal c
      unfolding outcome
      own_none = rw (asks_not 1 2 1 f, asks_not 2 5 2 g, asks_not 3 3 1 d, asks_not 4 2 1 q)

      unknown : Unknown c x
      unknown = record {
        args = rw (carried_out c given, own_none, word_bytes_one (status_word (refusal c).status));
        memory = memory_is (refusal c) own_none;
        registration = registration_is (refusal c) own_none;
        reading = reading_is (refusal c) own_none;
      }

    by_token : ByToken c x
    by_token = record { nodes = nodes; indices = indices; dump = dump; properties = properties; other = unknown }

pub demand2 : Demand2
demand2 = record { numbers = numbers; statuses = by_token }
