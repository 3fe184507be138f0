-- The writer's stores one behind the other make the area that an answer leaves.
use mathlib.Core.Path.{◌≡◌, refl, sym, ap, ◌∙◌}
use mathlib.Core.Bool.{true}
use mathlib.Core.List.{List, [], ◌∷◌, ◌++◌, append_assoc}
use Prim.Native.Nat.{ℕ, ◌+◌, ◌-◌, ◌*◌, ◌≤◌}
use native.Mathlib.Nat.{zero-add, one-mul}
use native.Mathlib.Omega.{arith}
use lib.ListN.{length, drop, length-append, length-drop}
use lib.Seq.{sets, sets-eq}
use Rattle.journal.specs.Scope.{Selection}
use Rattle.words.specs.Numbers.{be_bytes, word_bytes}
use Rattle.words.proofs.Stores.{length_word_bytes, words_behind, store_first}
use Rattle.journal.specs.declared.scope.Units.{Units}
use Rattle.journal.specs.declared.counts.Counts.{Counts}
use Rattle.journal.specs.Journal.{well_formed, entries}
use Rattle.journal.specs.Reportable.{chosen, reportable, counts_of}
use Rattle.journal.proofs.Entries.{operations_few}
use Rattle.journal.proofs.Walks.{within_limit}
use Rattle.node_area.specs.Head.{area_size, head_size, head_words, carried_head}
use Rattle.nodes.specs.Run.{cut, run, next_state}
use Rattle.node_area.specs.State.{total, passed_of, remaining_of}
use Rattle.nodes.specs.Area.{body, answer, written}
use Rattle.nodes.specs.Inner.Writing.{Handed, body_from}
use Rattle.nodes.proofs.Cut.{Parts}
use Rattle.nodes.proofs.Listed.{parts, fits, body_is, total-is}
use Rattle.nodes.proofs.Runs.{length_body, run_facts}

-- counts of a well-formed journal are small
pub counts_small : (selection : Selection) (j : List ℕ) (c : Counts) → well_formed j ≡ true → c ≡ counts_of selection j → total c ≤ 3_145_728
counts_small selection j c w e = rw e (omega (arith, within_limit j w, operations_few selection j 1, operations_few selection j 2, operations_few selection j 3))

-- ---- the parts and the terminator

pub body_stored : (l l₁ l₂ l₃ l₄ p₁ p₂ p₃ : List ℕ) (t₁ t₂ t₃ : ℕ) → l₁ ≡ sets l head_size (word_bytes p₁) → t₁ ≡ head_size + 4 * length p₁ → l₂ ≡ sets l₁ t₁ (word_bytes p₂) → t₂ ≡ t₁ + 4 * length p₂
    → l₃ ≡ sets l₂ t₂ (word_bytes p₃) → t₃ ≡ t₂ + 4 * length p₃ → l₄ ≡ sets l₃ t₃ (be_bytes 4 0) → l₄ ≡ sets l head_size (word_bytes (p₁ ++ (p₂ ++ (p₃ ++ (0 ∷ [])))))
body_stored l l₁ l₂ l₃ l₄ p₁ p₂ p₃ t₁ t₂ t₃ e₁ f₁ e₂ f₂ e₃ f₃ e₄ =
    store_first l₃ l₄ t₃ 0 e₄
    ∙ ap (λ (m : List ℕ). sets m t₃ (word_bytes (0 ∷ []))) e₃ ∙ words_behind l₂ t₂ t₃ p₃ (0 ∷ []) f₃
    ∙ ap (λ (m : List ℕ). sets m t₂ (word_bytes (p₃ ++ (0 ∷ [])))) e₂ ∙ words_behind l₁ t₁ t₂ p₂ (p₃ ++ (0 ∷ [])) f₂
    ∙ ap (λ (m : List ℕ). sets m t₁ (word_bytes (p₂ ++ (p₃ ++ (0 ∷ []))))) e₁ ∙ words_behind l head_size t₁ p₁ (p₂ ++ (p₃ ++ (0 ∷ []))) f₁

module _ (selection : Selection) (j : List ℕ) (c : Counts) (k : ℕ) (counted : c ≡ counts_of selection j) (inside : k ≤ total c) (r : Counts) (fitting : r ≡ cut (remaining_of c k)) where
  -- what the writer of the parts is asked
  pub handed : Handed selection j (passed_of c k) r
  handed =
      let p : Parts _ _ _ r.deletes r.updates r.additions = parts selection j c k counted inside r fitting in
      record {
        deletes = rw (← length-drop k (chosen selection 1 (entries j))) p.x_in;
        updates = rw (← length-drop (k - c.deletes) (chosen selection 2 (entries j))) p.y_in;
        additions = rw (← length-drop (k - c.deletes - c.updates) (chosen selection 3 (entries j))) p.z_in;
        room = rw (one-mul r.deletes, one-mul r.updates) (fits selection j c k counted inside r fitting);
      }

  -- the head, and behind it the parts and the terminator, are the whole answer
  body_written : body_from selection j (passed_of c k) r ≡ body (run (reportable selection j) k) ++ (0 ∷ [])
  unfolding body_from
  body_written = sym (ap (λ (l : List ℕ). l ++ (0 ∷ [])) (body_is selection j c k counted inside r fitting) ∙ simp append_assoc)

  pub answer_stored : (units : Units) (l l₁ l₂ : List ℕ) → length l ≡ area_size → l₁ ≡ sets l 0 (carried_head units (next_state (reportable selection j) k)) → l₂ ≡ sets l₁ head_size (word_bytes (body_from selection j (passed_of c k) r))
      → l₂ ≡ written units l (reportable selection j) k
  unfolding written answer
  answer_stored units l l₁ l₂ n e f =
      let os = reportable selection j in
      let ws = head_words units (next_state os k) ++ (body (run os k) ++ (0 ∷ [])) in
      let within : k ≤ length os = omega (arith, inside, total-is selection j, ap total counted) in
      let size : length (word_bytes ws) ≤ area_size = rw (length_word_bytes ws, length-append (body (run os k)) (0 ∷ []), length_body (run os k)) (omega (arith, (run_facts os k within).fits)) in
      f ∙ ap (λ (v : List ℕ). sets l₁ head_size (word_bytes v)) body_written ∙ ap (λ (m : List ℕ). sets m head_size (word_bytes (body (run os k) ++ (0 ∷ [])))) e
      ∙ words_behind l 0 head_size (head_words units (next_state os k)) (body (run os k) ++ (0 ∷ [])) refl
      ∙ sets-eq (word_bytes ws) l 0 (omega arith) ∙ ap (λ (i : ℕ). word_bytes ws ++ drop i l) (zero-add (length (word_bytes ws)))
