-- Laws of bytes that are put behind a text.
use mathlib.Core.Path.{◌≡◌, refl, sym, ◌∙◌}
use mathlib.Core.List.{List, [], ◌++◌}
use Prim.Native.Nat.{ℕ, ◌+◌, ◌≤◌}
use native.Mathlib.Nat.{add-zero}
use native.Mathlib.Omega.{arith}
use lib.ListN.{length, length-append}
use lib.Seq.{length-sets}
use Rattle.words.proofs.Stores.{sets_append}
use Rattle.printing.specs.declared.put.Text.{Text}
use Rattle.printing.specs.Put.{Fits, Put}

-- the buffer keeps its length
pub put_length : {a b : Text} {us : List ℕ} → Put a b us → length b.buffer.now ≡ length a.buffer.now
put_length {a} {b} {us} p = rw p.stored (length-sets a.buffer.now a.length us)

-- a text that fits: its first part fits, and the rest after it
pub fits-first : {room : ℕ} (at : ℕ) (us vs : List ℕ) → at + length (us ++ vs) ≤ room → at + length us ≤ room
fits-first at us vs h = omega (arith, length-append us vs)

pub fits_then : {a b : Text} {us : List ℕ} (vs : List ℕ) → Fits a (us ++ vs) → Put a b us → Fits b vs
fits_then {us = us} vs h p = omega (arith, length-append us vs, p.place, put_length p)

pub put_none : (a : Text) → Put a a []
put_none a = record { same = refl; place = sym (add-zero a.length); stored = refl }

pub put_then : {a b c : Text} {us vs : List ℕ} → Put a b us → Put b c vs → Put a c (us ++ vs)
put_then {a} {b} {c} {us} {vs} p q =
    record {
      same = q.same ∙ p.same;
      place = omega (arith, length-append us vs, p.place, q.place);
      stored = q.stored ∙ rw (p.stored, p.place) (sym (sets_append a.buffer.now a.length us vs));
    }

-- ---- text in parts

-- a part of a text is put, and the rest is still to come
pub record Ahead (all : List ℕ) (a b : Text) (rest : List ℕ) : Type 0 where
  pub fits : Fits b rest
  pub whole : {c : Text} → Put b c rest → Put a c all

pub ahead_first : (all : List ℕ) (a : Text) → Fits a all → Ahead all a a all
ahead_first all a h = record { fits = h; whole = λ p. p }

module _ {all : List ℕ} {a b : Text} where
  pub ahead_then : {c : Text} {us : List ℕ} (vs : List ℕ) → Ahead all a b (us ++ vs) → Put b c us → Ahead all a c vs
  ahead_then vs h p = record { fits = fits_then vs h.fits p; whole = λ q. h.whole (put_then p q) }

  pub ahead_none : Ahead all a b [] → Put a b all
  ahead_none h = h.whole (put_none b)
