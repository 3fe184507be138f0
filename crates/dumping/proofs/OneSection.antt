-- Laws of one section of a run: what it reads, what it copies, and what is told of it.
use mathlib.Core.Path.{◌≡◌, refl, sym, ◌∙◌}
use mathlib.Core.Bool.{◌||◌}
use mathlib.Core.List.{List, [], ◌∷◌}
use mathlib.Core.Logic.{inl, inr, ⊎_elim}
use Prim.Native.Nat.{ℕ, zero, suc, ◌+◌, ◌≤◌, ◌<◌}
use native.Mathlib.Nat.{add-zero, add-suc, suc-add}
use native.Mathlib.Omega.{arith}
use lib.Dec.{leb, ltb, eqb}
use lib.ListN.{length, get_or, set, take, drop, length-set, length-take, length-drop}
use lib.Seq.{sets, length-sets, get_or-set_same, get_or-take, get_or-drop}
use borrow.Author.Tests.{eqb-true, eqb-false, eq-eqb, ne_eqb}
use Rattle.words.specs.Claims.Exactly.{Outside}
use Rattle.words.proofs.Choice.{decide, choose}
use Rattle.words.proofs.Stores.{sets_before, sets_after}
use Rattle.dumping.specs.declared.section.Section.{Section}
use Rattle.dumping.specs.Section.{has, room, error_flags, actual_length}
use Rattle.dumping.specs.Running.{source_of, is_asked, errors_of, actual_of, memory_after}
use Rattle.dumping.specs.Claims.Run.{Reads, Copies}
use Rattle.dumping.proofs.Flags.{flag_most}
use Rattle.dumping.proofs.Claims.{section_claims}

-- ---- stores

-- a byte beside a store of at most n bytes
pub beside : (vs l : List ℕ) (at n i : ℕ) → length vs ≤ n → Outside at n i → get_or (sets l at vs) i 0 ≡ get_or l i 0
beside vs l at n i h = ⊎_elim (sets_before vs l at i) (λ (g : at + n ≤ i). sets_after vs l at i (omega arith))

-- a byte of a store
stored_at : (vs l : List ℕ) (at i : ℕ) → i < length vs → at + length vs ≤ length l → get_or (sets l at vs) (at + i) 0 ≡ get_or vs i 0
stored_at [] l at i h k = absurd (omega arith)
stored_at (v ∷ vs) l at zero h k = rw add-zero (sets_before vs (set l at v) (suc at) at (omega arith) ∙ get_or-set_same l at v 0 (omega arith))
stored_at (v ∷ vs) l at (suc i) h k = rw (add-suc, ← suc-add) (stored_at vs (set l at v) (suc at) i (omega arith) (omega (arith, length-set l at v)))

module _ (platform memory : List ℕ) (x : Section) where
  -- ---- what it reads

  reads_source : Reads platform memory (source_of platform memory x) x.kind
  unfolding source_of
  reads_source = record {
    from_platform = ⊎_elim (λ (e : x.kind ≡ 1). rw e) (λ (e : x.kind ≡ 2). rw e);
    from_memory = λ a b. rw (ne_eqb x.kind 1 a, ne_eqb x.kind 2 b);
  }

  -- and nothing else
  source_is : (source : List ℕ) → Reads platform memory source x.kind → source_of platform memory x ≡ source
  unfolding source_of
  source_is source r = decide (eqb x.kind 1)
      (λ t. rw t (sym (r.from_platform (inl (eqb-true x.kind 1 t)))))
      (λ f. decide (eqb x.kind 2)
      (λ t. rw (f, t) (sym (r.from_platform (inr (eqb-true x.kind 2 t)))))
      (λ g. rw (f, g) (sym (r.from_memory (eqb-false x.kind 1 f) (eqb-false x.kind 2 g)))))

  -- ---- its error flags and its actual length

  pub asked_errors : (source : List ℕ) → x.request ≡ 1 → Reads platform memory source x.kind → errors_of platform memory x ≡ error_flags (length source) (length memory) x
  unfolding errors_of
  asked_errors source a r = rw (eq-eqb x.request 1 a, source_is source r)

  pub asked_actual : (source : List ℕ) → x.request ≡ 1 → Reads platform memory source x.kind → actual_of platform memory x ≡ actual_length (length source) (length memory) x
  unfolding actual_of
  asked_actual source a r = rw (eq-eqb x.request 1 a, source_is source r)

  flags_most : (source size : ℕ) → error_flags source size x ≤ 30_720
  unfolding error_flags
  flags_most source size =
      let start = flag_most (leb source x.start) 16_384 _ refl in
      let long = flag_most (ltb source (x.start + x.requested)) 8192 _ refl in
      let destination = flag_most (leb size x.destination) 4096 _ refl in
      let short = flag_most (ltb (room size x) (has source x)) 2048 _ refl in
      omega arith

  pub errors_most : errors_of platform memory x ≤ 30_720
  unfolding errors_of
  errors_most = choose (is_asked x) (λ (n : ℕ). n ≤ 30_720) (λ _. flags_most (length (source_of platform memory x)) (length memory)) (λ _. omega arith)

  -- ---- its actual length

  pub actual_most : actual_of platform memory x ≤ x.requested
  unfolding actual_of actual_length
  actual_most = choose (is_asked x) (λ (n : ℕ). n ≤ x.requested) (λ _. omega arith) (λ _. omega arith)

  actual_inside : 0 < actual_of platform memory x → (x.start + actual_of platform memory x ≤ length (source_of platform memory x)) × (x.destination + actual_of platform memory x ≤ length memory)
  unfolding actual_of
  actual_inside = choose (is_asked x) (λ (n : ℕ). 0 < n → (x.start + n ≤ length (source_of platform memory x)) × (x.destination + n ≤ length memory))
      (λ _ h. (section_claims.copied_inside _ _ x h).1)
      (λ _ h. absurd (omega arith))

  -- ---- what it copies

  pub section_copies : Copies platform memory (memory_after platform memory x) x (actual_of platform memory x)
  unfolding memory_after
  section_copies =
      let n = actual_of platform memory x in
      let source = source_of platform memory x in
      let vs = take n (drop x.start source) in
      let size = length-take n (drop x.start source) in
      record {
        source = source;
        reads = reads_source;
        same_size = length-sets memory x.destination vs;
        inside = actual_inside;
        copied = λ i h.
            let fits = actual_inside (omega arith) in
            let all : length vs ≡ n = omega (arith, length-drop x.start source) in
            stored_at vs memory x.destination i (omega arith) (omega arith) ∙ get_or-take n (drop x.start source) i 0 h ∙ get_or-drop x.start source i 0;
        others = λ i. beside vs memory x.destination n i (omega arith);
      }

-- What is told of it depends on the size of memory alone.
module _ (platform m n : List ℕ) (x : Section) (size : length m ≡ length n) where
  source_size : length (source_of platform m x) ≡ length (source_of platform n x)
  unfolding source_of
  source_size = decide (eqb x.kind 1 || eqb x.kind 2) (λ t. rw t) (λ f. rw f size)

  pub errors_size : errors_of platform m x ≡ errors_of platform n x
  unfolding errors_of
  errors_size = rw (source_size, size)

  pub actual_size : actual_of platform m x ≡ actual_of platform n x
  unfolding actual_of
  actual_size = rw (source_size, size)
