-- What is left after dividing both numbers by what Euclid's steps reach is in lowest terms.
use mathlib.Core.Path.{◌≡◌, refl, sym, ap, ◌∙◌}
use Prim.Native.Nat.{ℕ, zero, suc, ◌*◌, ◌/◌, ◌%◌, ◌<◌, ◌∣◌}
use native.Mathlib.Nat.{mul_comm, one-mul, mod-lt, dvd_refl, dvd-zero, dvd-mod_iff, dvd-mul_right, pos_of_dvd_of_pos, mul-dvd-mul_right, dvd_of_mul-dvd-mul_right, eq-one_of_dvd-one, div-mul_cancel, mul-div_assoc}
use native.Mathlib.Omega.{arith}
use borrow.Author.Tests.{ne_eqb}
use Rattle.shares.specs.Share.{divisor_in, divisor, share_of}
use Rattle.shares.specs.Claims.Share.{Lowest, LowestTerms, NoneAnswered, ShareReadings, ShareClaims}

-- a step, and the end
step : (n a b : ℕ) → 0 < b → divisor_in (suc n) a b ≡ divisor_in n b (a % b)
unfolding divisor_in
step n a b h = rw (ne_eqb b 0 (λ e. absurd (omega arith)))

over : (n a : ℕ) → divisor_in (suc n) a 0 ≡ a
unfolding divisor_in
over n a = refl

-- more steps than needed change nothing
more : (n m a b : ℕ) → b < n → b < m → divisor_in n a b ≡ divisor_in m a b
more zero m a b h k = absurd (omega arith)
more (suc n) zero a b h k = absurd (omega arith)
more (suc n) (suc m) a zero h k = rw (over n a, over m a)
more (suc n) (suc m) a (suc b) h k =
    let less = mod-lt a {m = suc b} (omega arith) in
    rw (step n a (suc b) (omega arith), step m a (suc b) (omega arith)) (more n m (suc b) (a % suc b) (omega arith) (omega arith))

pub divisor_step : (a b : ℕ) → 0 < b → divisor b (a % b) ≡ divisor a b
divisor_step a b h = more (suc (a % b)) b b (a % b) (omega arith) (mod-lt a h) ∙ sym (step b a b h)

pub divisor_over : (a b : ℕ) → b ≡ 0 → a ≡ divisor a b
divisor_over a b e = rw (e, over 0 a)

-- what the steps reach divides both numbers
both : (n a b : ℕ) → b < n → (divisor_in n a b ∣ a) × (divisor_in n a b ∣ b)
both zero a b h = absurd (omega arith)
both (suc n) a zero h = rw (over n a) (dvd_refl a, dvd-zero a)
both (suc n) a (suc b) h =
    let less = mod-lt a {m = suc b} (omega arith) in
    let d = both n (suc b) (a % suc b) (omega arith) in
    rw (step n a (suc b) (omega arith)) ((dvd-mod_iff _ d.0).0 d.1, d.0)

pub divisor_some : (a b : ℕ) → 0 < b → 0 < divisor a b
divisor_some a b h = pos_of_dvd_of_pos (both (suc b) a b (omega arith)).1 h

-- and every number that divides both divides it
greatest : (n a b d : ℕ) → b < n → d ∣ a → d ∣ b → d ∣ divisor_in n a b
greatest zero a b d h p q = absurd (omega arith)
greatest (suc n) a zero d h p q = rw (over n a) p
greatest (suc n) a (suc b) d h p q =
    let less = mod-lt a {m = suc b} (omega arith) in
    rw (step n a (suc b) (omega arith)) (greatest n (suc b) (a % suc b) d (omega arith) q ((dvd-mod_iff _ q).1 p))

-- two numbers over a divisor of both that every such number divides
divided : (u a g : ℕ) → 0 < a → g ∣ u → g ∣ a → ((d : ℕ) → d ∣ u → d ∣ a → d ∣ g) → Lowest u a (record { part = u / g; whole = a / g })
divided u a g some gu ga top =
    record {
      same = mul_comm (u / g) a ∙ sym (mul-div_assoc _ a gu) ∙ ap (λ (n : ℕ). n / g) (mul_comm a u) ∙ mul-div_assoc _ u ga;
      positive = pos_of_dvd_of_pos (rw (div-mul_cancel _ ga) at (dvd-mul_right (a / g) g)) some;
      lowest = λ d p q.
          let du : d * g ∣ u = rw (div-mul_cancel _ gu) at (mul-dvd-mul_right _ (∣ p ∣₁) g) in
          let da : d * g ∣ a = rw (div-mul_cancel _ ga) at (mul-dvd-mul_right _ (∣ q ∣₁) g) in
          eq-one_of_dvd-one (dvd_of_mul-dvd-mul_right d (pos_of_dvd_of_pos ga some) (rw (one-mul g) (top (d * g) du da)));
    }

lowest_terms : LowestTerms
unfolding share_of
lowest_terms u a h =
    let d = both (suc a) u a (omega arith) in
    rw (ne_eqb a 0 (λ e. absurd (omega arith))) (divided u a (divisor u a) h d.0 d.1 (λ e. greatest (suc a) u a e (omega arith)))

none_answered : NoneAnswered
unfolding share_of
none_answered u = refl

readings : ShareReadings
unfolding share_of divisor_in
readings = tt

pub share_claims : ShareClaims
share_claims = record { lowest_terms = lowest_terms; none_answered = none_answered; readings = readings }
