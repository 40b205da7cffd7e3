-- Exact products of operands: their value and their bounds; a third operand brought to 24 digits.
use mathlib.Core.Path.{◌≡◌, ap, ◌∙◌, sym}
use mathlib.Core.Logic.{inl, inr}
use mathlib.Core.Bool.{true, false}
use Prim.Native.Nat.{ℕ, ◌+◌, ◌*◌, ◌^◌, ◌≤◌, ◌<◌}
use native.Mathlib.Nat.{zero-mul, mul-pos, pos_of_ne-zero, mul-mul-mul_comm, mul-le-mul_left, mul-lt-mul_of_pos_right, lt_of_le_of_lt, le_of_lt, le_of_eq, le_trans}
use native.Mathlib.Nat.{le-mul_of_pos_right, mul_comm, eq-zero-or-pos}
use native.Mathlib.Omega.{arith}
use lib.Dec.{eqb}
use lib.Pow.{pow-add, pow_pos}
use borrow.Author.Tests.{eq-eqb, ne_eqb}
use Rattle.pattern_spec.specs.Inner.{Operand, Product}

-- ---- zero or not
pub none : (n d : ℕ) → n ≡ 0 → eqb (n * 2 ^ d) 0 ≡ true
none n d e = eq-eqb (n * 2 ^ d) 0 (rw (e, zero-mul))

pub some_left : (n d : ℕ) → (n ≡ 0 → ⊥) → eqb (n * 2 ^ d) 0 ≡ false
some_left n d h = ne_eqb (n * 2 ^ d) 0 (λ e. omega (arith, mul-pos (pos_of_ne-zero h) (pow_pos d)))

-- ---- the product
pub product_value : (m e n d : ℕ) → m * 2 ^ e * (n * 2 ^ d) ≡ m * n * 2 ^ (e + d)
product_value m e n d = mul-mul-mul_comm m (2 ^ e) n (2 ^ d) ∙ ap (λ (x : ℕ). m * n * x) (sym (pow-add 2 e d))

product_lt : (m n : ℕ) → m < 2 ^ 24 → n < 2 ^ 24 → m * n < 2 ^ 48
product_lt m n h k = lt_of_le_of_lt (mul-le-mul_left m (le_of_lt k)) (mul-lt-mul_of_pos_right h (pow_pos 24))

-- a factor of a product that is not zero is no larger than the product
left_le : (m n : ℕ) → 0 < m * n → m ≤ m * n
left_le m n h = elim (eq-zero-or-pos n) [ inl e ↦ absurd (let z : m * n ≡ m * 0 = ap (λ (x : ℕ). m * x) e in omega arith) | inr p ↦ le-mul_of_pos_right m p ]

right_le : (m n : ℕ) → 0 < m * n → n ≤ m * n
right_le m n h = le_trans (left_le n m (le_trans h (le_of_eq (mul_comm m n)))) (le_of_eq (mul_comm n m))

pub product-bounded : (m e n d : ℕ) → Operand m e → Operand n d → Product (m * n) (e + d)
product-bounded m e n d o p =
    record {
      sig = product_lt m n o.sig p.sig;
      exp = omega (arith, o.exp, p.exp);
      leads = λ h k. elim (eq-zero-or-pos e) [ inl z ↦ le_trans (p.leads (omega arith)) (right_le m n k) | inr q ↦ le_trans (o.leads q) (left_le m n k) ];
    }

-- ---- a zero at one exponent is a zero at another
pub vanished : (n e d : ℕ) → n ≡ 0 → 0 * 2 ^ e ≡ n * 2 ^ d
vanished n e d q = zero-mul (2 ^ e) ∙ sym (zero-mul (2 ^ d)) ∙ ap (λ (x : ℕ). x * 2 ^ d) (sym q)
