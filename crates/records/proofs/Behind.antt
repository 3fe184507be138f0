-- Bytes that went behind the held ones, and what is due at a place, over any rule for a length and a kind.
use mathlib.Core.Path.{◌≡◌, refl, sym, ap, ◌∙◌}
use mathlib.Core.Bool.{Bool, true, false, cond}
use mathlib.Core.List.{List, ◌++◌, append_assoc}
use Prim.Native.Nat.{ℕ, ◌+◌, ◌-◌, ◌<◌, ◌≤◌, min}
use native.Mathlib.Nat.{zero-add}
use native.Mathlib.Omega.{arith}
use lib.ListN.{length, take, drop, length-append, length-drop, take-append-drop}
use lib.Seq.{sets, sets-eq, take_all, take_at, take-add, length-take-le}
use Rattle.std.specs.Prelude.{Option, Some, None, is_some}
use Rattle.words.proofs.Stores.{sets_behind}
use Rattle.records.specs.Cutting.{due, ripe}
use Rattle.records.specs.Inner.Filling.{Filled}
use Rattle.records.proofs.Due.{due_least, due_front, due_ripe, raw_short, ripe_due, short_raw}

-- ---- bytes behind the held ones

pub filled_front : (buffer : List ℕ) (held : ℕ) (bytes : List ℕ) (from n : ℕ) (after : List ℕ) → held + n ≤ length buffer → from + n ≤ length bytes → after ≡ sets buffer held (take n (drop from bytes))
    → take (held + n) after ≡ take held buffer ++ take n (drop from bytes)
filled_front buffer held bytes from n after l m e =
    let vs = take n (drop from bytes) in
    let k : length vs ≡ n = length-take-le n (drop from bytes) (omega (arith, length-drop from bytes)) in
    let h : length (take held buffer) ≡ held = length-take-le held buffer (omega arith) in
    ap (take (held + n)) (e ∙ sets-eq vs buffer held (omega arith))
    ∙ take_at (take held buffer ++ vs) (drop (held + length vs) buffer) (held + n) (omega (arith, length-append (take held buffer) vs))

-- what is left of a burst from a place on, held where nothing was: all of it, if there is room
pub record Left (bytes : List ℕ) (from : ℕ) (after : List ℕ) (n : ℕ) : Type 0 where
  pub amount : n ≡ length bytes - from
  pub front : take n after ≡ take n (drop from bytes)
  pub all : take n after ≡ drop from bytes

pub left_of_lem : {buffer bytes : List ℕ} {from : ℕ} {after : List ℕ} {n : ℕ} → Filled buffer 0 bytes from (length buffer) after n → length bytes - from ≤ length buffer → Left bytes from after n
left_of_lem {buffer} {bytes} {from} {after} {n} f l =
    let amount : n ≡ length bytes - from = omega (arith, f.amount) in
    let front : take n after ≡ take n (drop from bytes) = rw zero-add at f.front in
    record { amount = amount; front = front; all = front ∙ take_all n (drop from bytes) (omega (arith, length-drop from bytes)) }

sum_least : (h n m d b : ℕ) → n ≤ d - h → n ≤ b → m ≡ min (d - (h + n)) (b - n) → n + m ≡ min (d - h) b
sum_least h n m d b l k e = omega arith

module _ (good : ℕ → ℕ → Bool) where
  -- ---- what is due at a place

  abbrev pub ripe_at : List ℕ → Bool → ℕ
  ripe_at b t = cond t (due good b) 0

  module _ (b : List ℕ) (i : ℕ) where
    pub ripe_less : (n : ℕ) → n ≡ due good (drop i b) → length b - i < n → 0 ≡ ripe_at (drop i b) (ripe good (drop i b))
    ripe_less n e h = rw (raw_short good (drop i b) (omega (arith, length-drop i b)))

    pub ripe_short : length b - i < 4 → 0 ≡ ripe_at (drop i b) (ripe good (drop i b))
    ripe_short h = ripe_less _ refl (omega (arith, due_least good (drop i b)))

    pub ripe_all : (n : ℕ) → n ≡ due good (drop i b) → n ≤ length b - i → n ≡ ripe_at (drop i b) (ripe good (drop i b))
    ripe_all n e h = rw (ripe_due good (drop i b) (omega (arith, length-drop i b))) e

  -- the same, where all of it is there
  abbrev pub ripened : List ℕ → Option ℕ
  ripened b = cond (ripe good b) (Some (due good b)) None

  module _ (b : List ℕ) (i : ℕ) where
    pub none_less : (n : ℕ) → n ≡ due good (drop i b) → length b - i < n → None ≡ ripened (drop i b)
    none_less n e h = rw (raw_short good (drop i b) (omega (arith, length-drop i b)))

    pub none_short : length b - i < 4 → None ≡ ripened (drop i b)
    none_short h = none_less _ refl (omega (arith, due_least good (drop i b)))

    pub some_all : (n : ℕ) → n ≡ due good (drop i b) → n ≤ length b - i → Some n ≡ ripened (drop i b)
    some_all n e h = rw (ripe_due good (drop i b) (omega (arith, length-drop i b)), e)

  module _ (b : List ℕ) (o : Option ℕ) (e : o ≡ ripened b) where
    pub none_ripe : o ≡ None → 0 ≡ ripe_at b (ripe good b)
    none_ripe z = go (ripe good b) (sym z ∙ e)
      where
        go : (t : Bool) → None ≡ cond t (Some (due good b)) None → 0 ≡ ripe_at b t
        go true f = cc
        go false f = refl

    pub not_ripe : is_some o ≡ false → 0 ≡ ripe_at b (ripe good b)
    not_ripe s = go (ripe good b) e
      where
        go : (t : Bool) → o ≡ cond t (Some (due good b)) None → 0 ≡ ripe_at b t
        go true f = let z : true ≡ false = rw f at s in cc
        go false f = refl

    pub is_ripe : is_some o ≡ true → (due good b ≡ ripe_at b (ripe good b)) × (due good b ≡ 0 → ⊥)
    is_ripe s = go (ripe good b) e
      where
        go : (t : Bool) → o ≡ cond t (Some (due good b)) None → (due good b ≡ ripe_at b t) × (due good b ≡ 0 → ⊥)
        go true f = (refl, λ m. omega (arith, due_least good b))
        go false f = let z : false ≡ true = rw f at s in cc

    pub tells_ripe : is_some o ≡ ripe good b
    tells_ripe = go (ripe good b) e
      where
        go : (t : Bool) → o ≡ cond t (Some (due good b)) None → is_some o ≡ t
        go true f = rw f
        go false f = rw f

    pub some_ripe : (n : ℕ) → o ≡ Some n → (n ≡ ripe_at b (ripe good b)) × (n ≡ 0 → ⊥)
    some_ripe n z = go (ripe good b) (sym z ∙ e)
      where
        go : (t : Bool) → Some n ≡ cond t (Some (due good b)) None → (n ≡ ripe_at b t) × (n ≡ 0 → ⊥)
        go true f = let same : n ≡ due good b = cc in (same, λ m. omega (arith, due_least good b))
        go false f = cc

  -- a record that is there
  pub record Ripe (b : List ℕ) (i n : ℕ) : Type 0 where
    pub is : due good (drop i b) ≡ n
    pub fits : i + n ≤ length b
    pub some : 4 ≤ n

  module _ (b : List ℕ) (i n : ℕ) where
    pub ripe_is : i ≤ length b → n ≡ ripe_at (drop i b) (ripe good (drop i b)) → (n ≡ 0 → ⊥) → Ripe b i n
    ripe_is l e z = go (ripe good (drop i b)) refl e
      where
        go : (t : Bool) → ripe good (drop i b) ≡ t → n ≡ ripe_at (drop i b) t → Ripe b i n
        go true f g = record { is = sym g; fits = omega (arith, due_ripe good (drop i b) f, length-drop i b); some = omega (arith, due_least good (drop i b)) }
        go false f g = absurd (z g)

    pub ripe_not : n ≡ ripe_at (drop i b) (ripe good (drop i b)) → n ≡ 0 → length (drop i b) < due good (drop i b)
    ripe_not e z = go (ripe good (drop i b)) refl e
      where
        go : (t : Bool) → ripe good (drop i b) ≡ t → n ≡ ripe_at (drop i b) t → length (drop i b) < due good (drop i b)
        go true f g = absurd (omega (arith, due_least good (drop i b)))
        go false f g = short_raw good (drop i b) f

  -- ---- a record's front behind the held bytes, then all that is due

  -- four bytes tell it
  pub front_due : (h bytes : List ℕ) (k : ℕ) → 4 ≤ length (h ++ take k bytes) → due good (h ++ take k bytes) ≡ due good (h ++ bytes)
  front_due h bytes k l =
      sym (due_front good (h ++ take k bytes) (drop k bytes) l)
      ∙ ap (due good) (append_assoc h (take k bytes) (drop k bytes) ∙ ap (λ (l : List ℕ). h ++ l) (take-append-drop k bytes))

  module _ (buffer : List ℕ) (held : ℕ) (bytes one : List ℕ) (n : ℕ) (f : Filled buffer held bytes 0 4 one n) where
    abbrev Due : ℕ
    Due = due good (take held buffer ++ bytes)

    pub gather_short : held + n < 4 → Filled buffer held bytes 0 Due one n
    gather_short l = record { amount = omega (arith, f.amount, due_least good (take held buffer ++ bytes)); whole = f.whole; front = f.front }

    module _ (l : held ≤ length buffer) (four : 4 ≤ held + n) where
      taken_long : length (take n bytes) ≡ n
      taken_long = length-take-le n bytes (omega (arith, f.amount))

      front_long : length (take held buffer ++ take n bytes) ≡ held + n
      front_long = omega (arith, length-append (take held buffer) (take n bytes), length-take-le held buffer l, taken_long)

      gather_due : due good one ≡ Due
      gather_due =
          let k : 4 ≤ length (take (held + n) one) = rw f.front (omega (arith, front_long)) in
          ap (due good) (sym (take-append-drop (held + n) one)) ∙ due_front good (take (held + n) one) (drop (held + n) one) k
          ∙ ap (due good) f.front ∙ front_due (take held buffer) bytes n (omega (arith, front_long))

      pub gather_all : (two : List ℕ) (d m : ℕ) → d ≡ due good one → Filled one (held + n) bytes n d two m → Filled buffer held bytes 0 Due two (n + m)
      gather_all two d m e g =
          let s = sum_least held n m Due (length bytes) (omega (arith, f.amount, due_least good (take held buffer ++ bytes))) (omega (arith, f.amount)) (rw (← gather_due, ← e) g.amount) in
          let k : held + (n + m) ≡ held + n + m = omega arith in
          record {
            amount = omega (arith, s);
            whole = g.whole ∙ ap (λ (l : List ℕ). sets l (held + n) (take m (drop n bytes))) f.whole
                ∙ sets_behind buffer held (held + n) (take n bytes) (take m (drop n bytes)) (omega (arith, taken_long))
                ∙ ap (sets buffer held) (sym (take-add n m bytes));
            front = ap (λ (i : ℕ). take i two) k ∙ g.front ∙ ap (λ (l : List ℕ). l ++ take m (drop n bytes)) f.front ∙ append_assoc (take held buffer) (take n bytes) (take m (drop n bytes))
                ∙ ap (λ (l : List ℕ). take held buffer ++ l) (sym (take-add n m bytes));
          }
