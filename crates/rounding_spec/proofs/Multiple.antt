-- Multiples of a power of two.
use mathlib.Core.Path.{◌≡◌, sym, ap, ◌∙◌}
use Prim.Native.Nat.{ℕ, ◌+◌, ◌-◌, ◌*◌, ◌^◌, ◌≤◌}
use native.Mathlib.Nat.{mul_assoc, mul_comm, add-mul, mul-sub, sub-add_cancel, zero-mul, mul-pos, pos_of_ne-zero}
use native.Mathlib.Decide.{ℕ_discrete}
use native.Mathlib.Omega.{arith}
use borrow.Author.Tests.{eq-eqb, ne_eqb}
use lib.Dec.{eqb}
use lib.Pow.{pow-add, pow_pos}
use Rattle.rounding_spec.specs.Nearest.{dist}

abbrev pub Mult : ℕ → ℕ → Type 0
Mult g n = (c : ℕ) × (n ≡ c * 2 ^ g)

-- a number of units of 2 ^ i, counted 2 ^ j times finer
pub joined : (m i j k : ℕ) → i + j ≡ k → m * 2 ^ i * 2 ^ j ≡ m * 2 ^ k
joined m i j k e = mul_assoc m (2 ^ i) (2 ^ j) ∙ ap (λ (x : ℕ). m * x) (sym (pow-add 2 i j) ∙ ap (λ (x : ℕ). 2 ^ x) e)

-- nothing is nothing in every unit
pub digits-zero : (m i : ℕ) → eqb (m * 2 ^ i) 0 ≡ eqb m 0
digits-zero m i =
    elim (ℕ_discrete m 0) [
      | yes e ↦ eq-eqb (m * 2 ^ i) 0 (ap (λ (x : ℕ). x * 2 ^ i) e ∙ zero-mul (2 ^ i)) ∙ sym (eq-eqb m 0 e)
      | no h ↦ ne_eqb (m * 2 ^ i) 0 (λ e. omega (arith, mul-pos (pos_of_ne-zero h) (pow_pos i))) ∙ sym (ne_eqb m 0 h)
    ]

pub split-unit : (m : ℕ) {g e : ℕ} → g ≤ e → m * 2 ^ e ≡ m * 2 ^ (e - g) * 2 ^ g
split-unit m {g} {e} h = sym (joined m (e - g) g e (sub-add_cancel h))

pub mult-down : {g e : ℕ} (n : ℕ) → g ≤ e → Mult e n → Mult g n
mult-down {g} {e} n h m = (m.0 * 2 ^ (e - g), m.1 ∙ split-unit m.0 h)

pub sub-mul : (c d G : ℕ) → (c - d) * G ≡ c * G - d * G
sub-mul c d G = mul_comm (c - d) G ∙ mul-sub G c d ∙ simp (mul_comm)

-- ---- sums and differences
pub mult-add : (g a b : ℕ) → Mult g a → Mult g b → Mult g (a + b)
mult-add g a b x y = (x.0 + y.0, simp (x.1, y.1, add-mul))

pub mult-sub : (g a b : ℕ) → Mult g a → Mult g b → Mult g (a - b)
mult-sub g a b x y = (x.0 - y.0, simp (x.1, y.1, sub-mul))

pub mult-dist : (g a b : ℕ) → Mult g a → Mult g b → Mult g (dist a b)
mult-dist g a b x y = mult-add g (a - b) (b - a) (mult-sub g a b x y) (mult-sub g b a y x)
