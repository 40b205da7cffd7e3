-- Fractions that are whole numbers of a unit 2 ^ -l: their order, sum, difference and product are those of the numbers.
use mathlib.Core.Path.{◌≡◌, refl, sym, ap, ap₂, ◌∙◌}
use Prim.Native.Nat.{ℕ, zero, suc, ◌+◌, ◌-◌, ◌*◌, ◌^◌, ◌<◌}
use native.Mathlib.Nat.{mul_comm, mul_assoc, mul_right_comm, mul-mul-mul_comm, mul-sub, mul-pos, zero-lt-suc, mul-lt-mul_of_pos_right, lt_of_mul-lt-mul_right, eq_of_mul-eq-mul_right}
use native.Mathlib.Omega.{arith}
use lib.Dec.{eqb, eqb-suc-zero}
use lib.Pow.{pow-add, pow_pos}

-- a / c is x units
pub record Counts (l x a c : ℕ) : Type 0 where
  pub pos : 0 < c
  pub is : a * 2 ^ l ≡ x * c

module _ {l x y a b c : ℕ} (p : Counts l x a c) (q : Counts l y b c) where
  pub counts-add : Counts l (x + y) (a + b) c
  counts-add = record { pos = p.pos; is = omega arith }

  pub counts-sub : Counts l (x - y) (a - b) c
  counts-sub =
      let e : 2 ^ l * (a - b) ≡ c * (x - y) = mul-sub (2 ^ l) a b ∙ ap₂ (λ (i j : ℕ). i - j) (counts p) (counts q) ∙ sym (mul-sub c x y) in
      record { pos = p.pos; is = mul_comm (a - b) (2 ^ l) ∙ e ∙ mul_comm c (x - y) }
    where
      counts : {x a : ℕ} → Counts l x a c → 2 ^ l * a ≡ c * x
      counts {x} {a} p = mul_comm (2 ^ l) a ∙ p.is ∙ mul_comm x c

  pub counts-lt : x < y → a < b
  counts-lt h = lt_of_mul-lt-mul_right (2 ^ l) (omega (arith, p.is, q.is, mul-lt-mul_of_pos_right h p.pos))

  pub counts-eq : x ≡ y → a ≡ b
  counts-eq e = eq_of_mul-eq-mul_right (2 ^ l) (pow_pos l) a b (p.is ∙ ap (λ (z : ℕ). z * c) e ∙ sym q.is)

-- over a larger denominator
pub counts-over : {l x a c : ℕ} (d : ℕ) → 0 < d → Counts l x a c → Counts l x (a * d) (c * d)
counts-over {l} {x} {a} {c} d h p =
    record { pos = mul-pos p.pos h; is = mul_right_comm a d (2 ^ l) ∙ ap (λ (z : ℕ). z * d) p.is ∙ mul_assoc x c d }

-- in units of 2 ^ -(l + l)
pub counts-finer : {l x a c : ℕ} → Counts l x a c → Counts (l + l) (x * 2 ^ l) a c
counts-finer {l} {x} {a} {c} p =
    record { pos = p.pos; is = ap (λ (z : ℕ). a * z) (pow-add 2 l l) ∙ sym (mul_assoc a (2 ^ l) (2 ^ l)) ∙ ap (λ (z : ℕ). z * 2 ^ l) p.is ∙ mul_right_comm x c (2 ^ l) }

pub counts-mul : {l x y a b c d : ℕ} → Counts l x a c → Counts l y b d → Counts (l + l) (x * y) (a * b) (c * d)
counts-mul {l} {x} {y} {a} {b} {c} {d} p q =
    record {
      pos = mul-pos p.pos q.pos;
      is = ap (λ (z : ℕ). a * b * z) (pow-add 2 l l) ∙ mul-mul-mul_comm a b (2 ^ l) (2 ^ l) ∙ ap₂ (λ (i j : ℕ). i * j) p.is q.is ∙ mul-mul-mul_comm x c y d;
    }

-- one is zero where the other is
pub counts_zero : {l c : ℕ} (x m u : ℕ) → 0 < u → Counts l x (m * u) c → eqb x 0 ≡ eqb m 0
counts_zero {l} {c} zero zero u h p = refl
counts_zero {l} {c} zero (suc m) u h p = absurd (omega (arith, p.is, mul-pos (mul-pos (zero-lt-suc m) h) (pow_pos l)))
counts_zero {l} {c} (suc x) zero u h p = absurd (omega (arith, p.is, mul-pos (zero-lt-suc x) p.pos))
counts_zero {l} {c} (suc x) (suc m) u h p = eqb-suc-zero x ∙ sym (eqb-suc-zero m)
