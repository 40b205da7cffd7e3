-- Two values that add up to a number, as what is left of the number when one of them is taken away.
use mathlib.Core.Path.{◌≡◌, sym, ap, ◌∙◌, subst}
use mathlib.Core.Bool.{Bool, true, false}
use Prim.Native.Nat.{ℕ, ◌+◌, ◌*◌, ◌^◌}
use native.Mathlib.Nat.{add-mul, eq_of_mul-eq-mul_right}
use native.Mathlib.Omega.{arith}
use borrow.Author.Tests.{eq-eqb, eqb-true}
use lib.Dec.{T}
use lib.Pow.{pow_pos}
use Rattle.rounding_spec.specs.Format.{Format, low}
use Rattle.rounding_spec.specs.Value.{Value, nan, infinite, finite, is_zero, is_finite}
use Rattle.pattern_spec.specs.Exact.{negate, plus, finer}
use Rattle.augmented_spec.specs.Pairs.{rest, adds_up}
use Rattle.errorfree_spec.proofs.Signed.{Rel, Is, rel-own, rel-dist, is-negate, is-plus, is-shift}

-- ---- in the finer unit
rel-scale : (r s : Bool) (m p n U : ℕ) → Rel r s m p n → Rel r s (m * U) (p * U) (n * U)
rel-scale false false m p n U h = sym (add-mul m n U) ∙ ap (λ (z : ℕ). z * U) h
rel-scale false true m p n U h = sym (add-mul m p U) ∙ ap (λ (z : ℕ). z * U) h
rel-scale true false m p n U h = sym (add-mul m p U) ∙ ap (λ (z : ℕ). z * U) h
rel-scale true true m p n U h = sym (add-mul m n U) ∙ ap (λ (z : ℕ). z * U) h

pub is-finer : (F : Format) (r : Bool) (v : Value) (p n : ℕ) → Is r v p n → Is r (finer F v) (p * 2 ^ low F) (n * 2 ^ low F)
unfolding finer
is-finer F r nan p n h = absurd h
is-finer F r (infinite s) p n h = absurd h
is-finer F r (finite s m) p n h = rel-scale r s m p n (2 ^ low F) h

-- a value that is zero, and one that is none
pub is-zero : (r : Bool) (v : Value) (p n : ℕ) → Is r v p n → p ≡ n → is_zero v ≡ true
is-zero r nan p n h e = absurd h
is-zero r (infinite s) p n h e = absurd h
is-zero r (finite s m) p n h e = eq-eqb m 0 (omega (arith, rel-dist r s m p n h))

pub zero_is : (r : Bool) (v : Value) (p n : ℕ) → Is r v p n → is_zero v ≡ true → p ≡ n
zero_is r nan p n h e = absurd h
zero_is r (infinite s) p n h e = absurd h
zero_is r (finite s m) p n h e = omega (arith, rel-dist r s m p n h, eqb-true m 0 e)

-- every number is a difference, seen from any sign
seen : (s t : Bool) (m : ℕ) → (p : ℕ) × (q : ℕ) × Rel s t m p q
seen false false m = (m, 0, omega arith)
seen false true m = (0, m, omega arith)
seen true false m = (0, m, omega arith)
seen true true m = (m, 0, omega arith)

-- ---- n units with the sign s, less A units, less b = p - q
module _ (F : Format) (s : Bool) (n A : ℕ) (b : Value) where
  abbrev U : ℕ
  U = 2 ^ low F

  left_is : (p q : ℕ) → Is s b p q → Is s (rest F (rest F (finite s (n * U)) (finite s A)) b) (n * U + 0 + q * U) (0 + A * U + p * U)
  unfolding rest
  left_is p q h =
      let a = finer F (finite s A) in
      let e = plus (finite s (n * U)) (negate a) in
      let x : Is s a (A * U) (0 * U) = is-finer F s (finite s A) A 0 (rel-own s A) in
      let x' : Is s (negate a) 0 (A * U) = is-shift s (negate a) (0 * U) (A * U) 0 (A * U) (is-negate s a (A * U) (0 * U) x) (omega arith) in
      let y : Is s e (n * U + 0) (0 + A * U) = is-plus s (finite s (n * U)) (negate a) (n * U) 0 0 (A * U) (rel-own s (n * U)) x' in
      is-plus s e (negate (finer F b)) (n * U + 0) (0 + A * U) (q * U) (p * U) y (is-negate s (finer F b) (p * U) (q * U) (is-finer F s b p q h))

  pub adds-up : Is s b n A → adds_up F (finite s (n * U)) (record { first = finite s A; second = b }) ≡ true
  unfolding adds_up
  adds-up h = is-zero s (rest F (rest F (finite s (n * U)) (finite s A)) b) (n * U + 0 + A * U) (0 + A * U + n * U) (left_is n A h) (omega arith)

  -- and back
  pub up-adds : is_finite b ≡ true → adds_up F (finite s (n * U)) (record { first = finite s A; second = b }) ≡ true → Is s b n A
  unfolding adds_up
  up-adds f e = go b f (λ p q h. zero_is s (rest F (rest F (finite s (n * U)) (finite s A)) b) (n * U + 0 + q * U) (0 + A * U + p * U) (left_is p q h) e)
    where
      go : (v : Value) → is_finite v ≡ true → ((p q : ℕ) → Is s v p q → n * U + 0 + q * U ≡ 0 + A * U + p * U) → Is s v n A
      go nan f k = absurd (subst (λ (c : Bool). T c) (sym f) tt)
      go (infinite t) f k = absurd (subst (λ (c : Bool). T c) (sym f) tt)
      go (finite t m) f k =
          let o = seen s t m in
          let c : n + o.1 ≡ A + o.0 = eq_of_mul-eq-mul_right U (pow_pos (low F)) (n + o.1) (A + o.0) (omega (arith, k o.0 o.1 o.2, add-mul n o.1 U, add-mul A o.0 U)) in
          is-shift s (finite t m) o.0 o.1 n A o.2 (omega arith)
