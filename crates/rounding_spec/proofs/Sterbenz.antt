-- Differences of neighbouring numbers are exact (Sterbenz), and so are the inner steps of Fast2Sum, on magnitudes.
use mathlib.Core.Path.{◌≡◌, refl, ap, ◌∙◌, sym}
use Prim.Native.Nat.{ℕ, suc, ◌+◌, ◌-◌, ◌*◌, ◌^◌, ◌≤◌, ◌<◌}
use native.Mathlib.Nat.{le_refl, le_trans, le_of_eq, lt_of_le_of_lt, mul-lt-mul_of_pos_right, mul_left_comm, pow-succ'}
use native.Mathlib.Decide.{dec_le}
use native.Mathlib.Omega.{arith}
use lib.Pow.{pow_pos}
use Rattle.rounding_spec.specs.Nearest.{dist, Rep, Near}
use Rattle.rounding_spec.proofs.Multiple.{Mult, mult-sub}
use Rattle.rounding_spec.proofs.Representable.{rep-low, rep-lt, rep-within}
use Rattle.rounding_spec.proofs.NearLaws.{near-exact, near-ge, near_le}

-- a difference of two numbers of which neither is more than twice the other (Sterbenz)
pub sterbenz : {p l : ℕ} (x y : ℕ) → Rep p l x → Rep p l y → y ≤ x → x ≤ 2 * y → Rep p l (x - y)
sterbenz x y r s h k = rep-within (x - y) r s (λ g a b. mult-sub g x y a b) (omega arith) (omega arith)

pub dist-ge : {a b : ℕ} → b ≤ a → dist a b ≡ a - b
dist-ge h = omega arith

pub dist-le : {a b : ℕ} → a ≤ b → dist a b ≡ b - a
dist-le h = omega arith

pub rep-dist : {p l x y : ℕ} → Rep p l x → Rep p l y → y ≤ 2 * x → x ≤ 2 * y → Rep p l (dist x y)
rep-dist {x = x} {y = y} r s h k =
    elim (dec_le y x) [
      | yes g ↦ rw (dist-ge g) (sterbenz x y r s g k)
      | no g ↦ rw (dist-le (let z : x ≤ y = omega arith in z)) (sterbenz y x s r (omega arith) h)
    ]

pub rep-double : {p l x : ℕ} → Rep p l x → Rep p l (2 * x)
rep-double {x = x} r = record {
  e = suc r.e;
  m = r.m;
  low = omega (arith, r.low);
  small = r.small;
  is = ap (λ (z : ℕ). 2 * z) r.is ∙ mul_left_comm 2 r.m (2 ^ r.e)
      ∙ ap (λ (z : ℕ). r.m * z) (sym (pow-succ' 2 r.e));
}

-- half of a number X is a number of the format, unless X is at the lowest exponent, where every multiple below X is one
pub half-ge : {p l X n A : ℕ} → Rep (suc p) l X → Mult l n → n ≤ X → X ≤ 2 * n → Near (suc p) l n A → X ≤ 2 * A
half-ge {p} {l} {X} {n} {A} r c u v h = go r.e r.low r.is
  where
    go : (e : ℕ) → l ≤ e → X ≡ r.m * 2 ^ e → X ≤ 2 * A
    go e b i = elim (dec_le e l) [
      | yes k ↦
          let s : e ≡ l = omega arith in
          let top : n < 2 ^ suc p * 2 ^ l = lt_of_le_of_lt (le_trans u (le_of_eq (i ∙ ap (λ (z : ℕ). r.m * 2 ^ z) s))) (mul-lt-mul_of_pos_right r.small (pow_pos l)) in
          omega (arith, near-exact h (rep-lt l n (le_refl l) c top))
      | no k ↦
          let s : 2 ^ e ≡ 2 * 2 ^ (e - 1) = ap (λ (z : ℕ). 2 ^ z) (let q : e ≡ suc (e - 1) = omega arith in q) ∙ pow-succ' 2 (e - 1) in
          let H = r.m * 2 ^ (e - 1) in
          let t : X ≡ 2 * H = i ∙ ap (λ (z : ℕ). r.m * z) s ∙ mul_left_comm r.m 2 (2 ^ (e - 1)) in
          let w = near-ge h {m = H} (record { e = e - 1; m = r.m; low = omega arith; small = r.small; is = refl }) (omega arith) in
          omega arith
    ]

-- ---- Fast2Sum: what is subtracted first is exact. X + Y is rounded to A.
module _ {p l X Y A : ℕ} (x : Rep (suc p) l X) (y : Rep (suc p) l Y) (le : Y ≤ X) where
  pub add-ge : Near (suc p) l (X + Y) A → X ≤ A
  add-ge h = near-ge h x (omega arith)

  pub add-le : Near (suc p) l (X + Y) A → A ≤ 2 * X
  add-le h = near_le h (rep-double x) (omega arith)

  pub add-v : Near (suc p) l (X + Y) A → Rep (suc p) l (A - X)
  add-v h = sterbenz A X h.rep x (add-ge h) (add-le h)

  -- the same for X - Y
  pub sub-le : Near (suc p) l (X - Y) A → A ≤ X
  sub-le h = near_le h x (omega arith)

  pub sub-v : Near (suc p) l (X - Y) A → Rep (suc p) l (X - A)
  sub-v h =
      elim (dec_le X (2 * Y)) [
        | yes k ↦ let e : X - A ≡ Y = omega (arith, near-exact h (sterbenz X Y x y le k)) in rw e y
        | no k ↦ sterbenz X A x h.rep (sub-le h) (half-ge x (mult-sub l X Y (rep-low x) (rep-low y)) (omega arith) (omega arith) h)
      ]
