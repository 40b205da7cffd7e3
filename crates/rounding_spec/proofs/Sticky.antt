-- Of what stands below the digit after the last place, only whether it is nothing counts: rounding to odd first changes nothing.
use mathlib.Core.Path.{◌≡◌, sym, ap, ◌∙◌, subst}
use mathlib.Core.Logic.{◌⊎◌, inl, inr}
use Prim.Native.Nat.{ℕ, suc, ◌+◌, ◌-◌, ◌*◌, ◌/◌, ◌%◌, ◌^◌, ◌≤◌, ◌<◌}
use native.Mathlib.Decide.{dec_le}
use native.Mathlib.Nat.{le_of_lt, add-mul, eq-zero-or-pos, mul-le-mul_right, le-div_iff_mul-le, mod-lt, div-add-mod', div-div-eq-div-mul, pow-suc, pow-succ'}
use native.Mathlib.Omega.{arith}
use lib.Arith.{digits_lt, digits_div, digits_mod, mod-mul}
use lib.Dec.{lit<}
use lib.Pow.{pow-add, pow_pos, pow-lt, shr_lt}
use Rattle.rounding_spec.specs.declared.Ties.{Ties}
use Rattle.rounding_spec.specs.Round.{keep, last_place, rounded}
use Rattle.rounding_spec.proofs.LastPlace.{place_is, place-ge, place-gt, place-above, place-below}
use Rattle.rounding_spec.proofs.Keep.{keep-lt, keep-gt}
use Rattle.rounding_spec.proofs.Multiple.{mult-down}
use Rattle.rounding_spec.proofs.Rounded.{rounded-keep}

-- ---- g counts halves of the last place, and r is what is below
module _ (t : Ties) (h g r : ℕ) (l : r < 2 ^ h) where
  half-quot : (g * 2 ^ h + r) / 2 ^ suc h ≡ g / 2
  half-quot = rw (pow-suc 2 h, ← div-div-eq-div-mul (g * 2 ^ h + r) (2 ^ h) 2, digits_div g l)

  half-rem : (g * 2 ^ h + r) % 2 ^ suc h ≡ g % 2 * 2 ^ h + r
  half-rem = rw (pow-succ' 2 h, mod-mul (g * 2 ^ h + r) (lit< {m = 0} {n = 2} tt) (pow_pos h), digits_div g l, digits_mod g l)

  half_down : g % 2 ≡ 0 → keep t (suc h) (g * 2 ^ h + r) ≡ g / 2
  half_down e = keep-lt t (suc h) (g * 2 ^ h + r) (rw (half-rem, e, pow-succ' 2 h) (omega arith)) ∙ half-quot

  half_up : g % 2 ≡ 1 → 0 < r → keep t (suc h) (g * 2 ^ h + r) ≡ suc (g / 2)
  half_up e z = keep-gt t (suc h) (g * 2 ^ h + r) (rw (half-rem, e, pow-succ' 2 h) (omega arith)) ∙ ap suc half-quot

parity : (g : ℕ) → (g % 2 ≡ 0) ⊎ (g % 2 ≡ 1)
parity g = elim (eq-zero-or-pos (g % 2)) [ inl e ↦ inl e | inr p ↦ inr (omega arith) ]

keep-sticky : (t : Ties) (h g r s : ℕ) → 0 < r → r < 2 ^ h → 0 < s → s < 2 ^ h → keep t (suc h) (g * 2 ^ h + r) ≡ keep t (suc h) (g * 2 ^ h + s)
keep-sticky t h g r s r0 rl s0 sl =
    elim (parity g) [
      | inl e ↦ half_down t h g r rl e ∙ sym (half_down t h g s sl e)
      | inr e ↦ half_up t h g r rl e r0 ∙ sym (half_up t h g s sl e s0)
    ]

-- ---- the digits of A that lie below 2 ^ (i + h), with those of r
module _ (i h A r : ℕ) where
  regroup : A * 2 ^ h + r ≡ A / 2 ^ i * 2 ^ (i + h) + (A % 2 ^ i * 2 ^ h + r)
  regroup =
      let s : A / 2 ^ i * 2 ^ i + A % 2 ^ i ≡ A = div-add-mod' A (2 ^ i) in
      ap (λ (x : ℕ). x * 2 ^ h + r) (sym s) ∙ rw (pow-add 2 i h) (omega arith)

  rest_lt : r < 2 ^ h → A % 2 ^ i * 2 ^ h + r < 2 ^ (i + h)
  rest_lt l = rw (pow-add 2 i h) (digits_lt (mod-lt A (pow_pos i)) l)

-- k is a variable here: `rw` would rewrite inside of it too
keep-sticky-up : (t : Ties) (k h A r s : ℕ) → h < k → 0 < r → r < 2 ^ h → 0 < s → s < 2 ^ h → keep t k (A * 2 ^ h + r) ≡ keep t k (A * 2 ^ h + s)
keep-sticky-up t k h A r s over r0 rl s0 sl =
    let i = k - suc h in
    let at : k ≡ suc (i + h) = omega arith in
    subst (λ (x : ℕ). keep t x (A * 2 ^ h + r) ≡ keep t x (A * 2 ^ h + s)) (sym at)
    (rw (regroup i h A r, regroup i h A s)
    (keep-sticky t (i + h) (A / 2 ^ i) (A % 2 ^ i * 2 ^ h + r) (A % 2 ^ i * 2 ^ h + s) (omega arith) (rest_lt i h A r rl) (omega arith) (rest_lt i h A s sl)))

-- ---- two numbers that differ below 2 ^ h alone, h being below the last place, and neither a multiple of 2 ^ h
pub sticky : (t : Ties) (f L h A r s : ℕ) → h < last_place f L (A * 2 ^ h + r) → 0 < r → r < 2 ^ h → 0 < s → s < 2 ^ h → rounded t f L (A * 2 ^ h + r) ≡ rounded t f L (A * 2 ^ h + s)
unfolding rounded
sticky t f L h A r s over r0 rl s0 sl =
    let N = A * 2 ^ h + r in
    let M = A * 2 ^ h + s in
    let k = last_place f L N in
    let i = k - suc h in
    let up : M < 2 ^ (suc f + k) =
    let e : suc f + k ≡ suc f + suc i + h = omega arith in
    let g : A < 2 ^ (suc f + suc i) = subst (λ (x : ℕ). x < 2 ^ (suc f + suc i)) (digits_div A rl) (shr_lt (suc f + suc i) h (rw (← e) (place-above f L N))) in
    rw (e, pow-add 2 (suc f + suc i) h) (digits_lt g sl)
    in
    let down : L < k → 2 ^ (f + k) ≤ M = λ l.
    let e : f + k ≡ f + suc i + h = omega arith in
    let g : 2 ^ (f + suc i) ≤ A = subst (λ (x : ℕ). 2 ^ (f + suc i) ≤ x) (digits_div A rl) ((le-div_iff_mul-le (pow_pos h)).1 (rw (← pow-add 2 (f + suc i) h, ← e) (place-below f L N l))) in
    rw (e, pow-add 2 (f + suc i) h) (omega (arith, mul-le-mul_right (2 ^ h) g))
    in
    let same : last_place f L M ≡ k = place_is f L k M (place-ge f L N) up down in
    rw same (ap (λ (x : ℕ). x * 2 ^ (k - L)) (keep-sticky-up t k h A r s over r0 rl s0 sl))

-- what lies between two neighbouring multiples of 2 ^ h, and has more digits above it than are kept, loses something
pub between-lost : (t : Ties) (f L h A N : ℕ) → 2 ^ suc f ≤ A → A * 2 ^ h < N → N < A * 2 ^ h + 2 ^ h → rounded t f L N * 2 ^ L ≡ N → ⊥
between-lost t f L h A N a l u e =
    let big : 2 ^ (suc f + h) ≤ N = rw (pow-add 2 (suc f) h) (omega (arith, mul-le-mul_right (2 ^ h) a)) in
    let c = mult-down N (le_of_lt (place-gt f L h N big)) (keep t (last_place f L N) N, sym e ∙ rounded-keep t f L N) in
    let is = c.1 in
    elim (dec_le c.0 A) [
      | yes g ↦ omega (arith, mul-le-mul_right (2 ^ h) g)
      | no g ↦ let m : A + 1 ≤ c.0 = omega arith in omega (arith, mul-le-mul_right (2 ^ h) m, add-mul A 1 (2 ^ h))
    ]

-- rounding to odd first: an odd number of units stands for all that lies within one unit of it
pub odd : (t : Ties) (f L h A N : ℕ) → 2 ^ suc f ≤ A → A * 2 ^ suc h < N → N < A * 2 ^ suc h + 2 ^ suc h → rounded t f L N ≡ rounded t f L ((2 * A + 1) * 2 ^ h)
odd t f L h A N a l u =
    let r = N - A * 2 ^ suc h in
    let e : A * 2 ^ suc h + r ≡ N = omega arith in
    let p : 2 ^ suc h ≡ 2 * 2 ^ h = pow-succ' 2 h in
    let s : A * 2 ^ suc h + 2 ^ h ≡ (2 * A + 1) * 2 ^ h = rw p (omega arith) in
    let big : 2 ^ (suc f + suc h) ≤ A * 2 ^ suc h + r = rw (pow-add 2 (suc f) (suc h)) (omega (arith, mul-le-mul_right (2 ^ suc h) a)) in
    ap (rounded t f L) (sym e) ∙ sticky t f L (suc h) A r (2 ^ h) (place-gt f L (suc h) (A * 2 ^ suc h + r) big) (omega arith) (omega arith) (pow_pos h) (pow-lt (omega arith)) ∙ ap (rounded t f L) s
