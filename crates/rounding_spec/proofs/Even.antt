-- Ties to even: where another number is equally near, the last bit of the result's pattern is 0, and the other one's is 1.
use mathlib.Core.Path.{◌≡◌, sym, ap, ◌∙◌}
use mathlib.Core.Logic.{inl, inr}
use Prim.Native.Nat.{ℕ, suc, ◌+◌, ◌-◌, ◌*◌, ◌/◌, ◌%◌, ◌^◌, ◌≤◌, ◌<◌}
use native.Mathlib.Nat.{le_refl, le_trans, lt_of_lt_of_le, mod-eq_of_lt, div-eq_of_lt, add-mul, div-add-mod', mod-lt, suc-mul, mul_assoc, eq_of_mul-eq-mul_right, pow-suc}
use native.Mathlib.Decide.{dec_le}
use native.Mathlib.Omega.{arith}
use lib.Pow.{pow-add, pow_pos, pow_mono}
use Rattle.rounding_spec.specs.declared.Ties.TheVariants.{ToEven}
use Rattle.rounding_spec.specs.Round.{tied, keep, last_place, rounded}
use Rattle.rounding_spec.specs.Value.{bits}
use Rattle.rounding_spec.specs.Nearest.{dist, Rep}
use Rattle.rounding_spec.proofs.Compare.{tri}
use Rattle.rounding_spec.proofs.LastPlace.{place_is, place-ge, place-below}
use Rattle.rounding_spec.proofs.Keep.{keep-lt, keep-eq, keep-gt}
use Rattle.rounding_spec.proofs.Multiple.{split-unit}
use Rattle.rounding_spec.proofs.Representable.{floor-best, ceil-best}
use Rattle.rounding_spec.proofs.Rounded.{quot-lt, quot-ge, rounded-keep}
use Rattle.rounding_spec.proofs.Bits.{bits_at, bits-rounded}

-- ---- a second number at the same distance makes a tie
module _ (f L N m : ℕ) (r : Rep (suc f) L m) (ne : m ≡ rounded ToEven f L N * 2 ^ L → ⊥) (e : dist m N ≡ dist (rounded ToEven f L N * 2 ^ L) N) where
  tie-only : 2 * (N % 2 ^ last_place f L N) ≡ 2 ^ last_place f L N
  tie-only =
      let k = last_place f L N in
      let q = N / 2 ^ k in
      let s = div-add-mod' N (2 ^ k) in
      let l = mod-lt N (pow_pos k) in
      let u = suc-mul q (2 ^ k) in
      let is = rounded-keep ToEven f L N in
      let high : L < k → 2 ^ f * 2 ^ k ≤ N = λ g. rw (← pow-add 2 f k) (place-below f L N g) in
      elim (tri (2 * (N % 2 ^ k)) (2 ^ k)) [
        | inl h ↦
            let a = ap (λ (x : ℕ). x * 2 ^ k) (keep-lt ToEven k N h) in
            absurd (elim (dec_le m N) [ yes g ↦ ne (omega arith) | no g ↦ let b = ceil-best f L N k high m r (omega arith) in omega arith ])
        | inr o ↦ elim o [
          | inl h ↦ h
          | inr h ↦
              let a = ap (λ (x : ℕ). x * 2 ^ k) (keep-gt ToEven k N h) in
              absurd (elim (dec_le m N) [ yes g ↦ let b = floor-best f L N k high m r g in omega arith | no g ↦ ne (omega arith) ])
        ]
      ]

  -- the rounded significand is the even one of two, and m has the odd one
  keep-is : keep ToEven (last_place f L N) N ≡ N / 2 ^ last_place f L N + N / 2 ^ last_place f L N % 2
  keep-is = keep-eq ToEven (last_place f L N) N tie-only

  other-is : m ≡ (N / 2 ^ last_place f L N + 1 - N / 2 ^ last_place f L N % 2) * 2 ^ last_place f L N
  other-is =
      let k = last_place f L N in
      let q = N / 2 ^ k in
      let x = q + 1 - q % 2 in
      let s = div-add-mod' N (2 ^ k) in
      let is = rounded-keep ToEven f L N ∙ ap (λ (y : ℕ). y * 2 ^ k) keep-is in
      let both : (x + (q + q % 2)) * 2 ^ k ≡ (q + (q + 1)) * 2 ^ k = ap (λ (y : ℕ). y * 2 ^ k) (let z : x + (q + q % 2) ≡ q + (q + 1) = omega arith in z) in
      let sums : m + (q + q % 2) * 2 ^ k ≡ 2 * N = omega (arith, is) in
      omega (arith, tie-only, add-mul x (q + q % 2) (2 ^ k), add-mul q (q + 1) (2 ^ k), add-mul q 1 (2 ^ k))

-- ---- the patterns' last bits
even_sum : (d g q : ℕ) → (d * (g * 2) + q) % 2 ≡ q % 2
even_sum d g q = let z : d * (g * 2) ≡ d * g * 2 = sym (mul_assoc d g 2) in omega arith

last_bit : (f d q : ℕ) → 0 < f → (d * 2 ^ f + q) % 2 ≡ q % 2
last_bit f d q pos =
    let p : 2 ^ f ≡ 2 ^ (f - 1) * 2 = ap (λ (x : ℕ). 2 ^ x) (let z : f ≡ suc (f - 1) = omega arith in z) ∙ pow-suc 2 (f - 1) in
    ap (λ (x : ℕ). (d * x + q) % 2) p ∙ even_sum d (2 ^ (f - 1)) q

even-half : (q : ℕ) → (q + q % 2) % 2 ≡ 0
even-half q = omega arith

odd-half : (q : ℕ) → (q + 1 - q % 2) % 2 ≡ 1
odd-half q = omega arith

pub rounded-even : (f L N m : ℕ) → 0 < f → Rep (suc f) L m → (m ≡ rounded ToEven f L N * 2 ^ L → ⊥) → dist m N ≡ dist (rounded ToEven f L N * 2 ^ L) N → bits f (rounded ToEven f L N) % 2 ≡ 0
rounded-even f L N m pos r ne e =
    let k = last_place f L N in
    ap (λ (x : ℕ). x % 2) (bits-rounded ToEven f L N) ∙ last_bit f (k - L) (keep ToEven k N) pos ∙ ap (λ (x : ℕ). x % 2) (keep-is f L N m r ne e) ∙ even-half (N / 2 ^ k)

pub neighbour-odd : (f L N m : ℕ) → 0 < f → Rep (suc f) L (m * 2 ^ L) → (m ≡ rounded ToEven f L N → ⊥) → dist (m * 2 ^ L) N ≡ dist (rounded ToEven f L N * 2 ^ L) N → bits f m % 2 ≡ 1
neighbour-odd f L N m pos r ne e =
    let k = last_place f L N in
    let q = N / 2 ^ k in
    let x = q + 1 - q % 2 in
    let apart : m * 2 ^ L ≡ rounded ToEven f L N * 2 ^ L → ⊥ = λ z. ne (eq_of_mul-eq-mul_right (2 ^ L) (pow_pos L) m (rounded ToEven f L N) z) in
    let v : m ≡ x * 2 ^ (k - L) = eq_of_mul-eq-mul_right (2 ^ L) (pow_pos L) m (x * 2 ^ (k - L)) (other-is f L N (m * 2 ^ L) r apart e ∙ split-unit x (place-ge f L N)) in
    let b : bits f m ≡ (k - L) * 2 ^ f + x = ap (bits f) v ∙ bits_at f (k - L) x (omega (arith, quot-lt f L N)) (λ h. le_trans (quot-ge f L N (omega arith)) (omega arith)) in
    ap (λ (y : ℕ). y % 2) b ∙ last_bit f (k - L) x pos ∙ odd-half q

-- ---- half of u is halfway between 0 and u, and goes to 0
pub half-to-even : (f L N : ℕ) → 2 * N ≡ 2 ^ L → rounded ToEven f L N ≡ 0
half-to-even f L N e =
    let less : N < 2 ^ L = omega (arith, pow_pos L) in
    let place : last_place f L N ≡ L = place_is f L L N (le_refl L) (lt_of_lt_of_le less (pow_mono (let z : L ≤ suc f + L = omega arith in z))) (λ h. absurd (omega arith)) in
    let kept : keep ToEven L N ≡ 0 = keep-eq ToEven L N (ap (λ (z : ℕ). 2 * z) (mod-eq_of_lt less) ∙ e) ∙ ap (tied ToEven) (div-eq_of_lt less) in
    eq_of_mul-eq-mul_right (2 ^ L) (pow_pos L) (rounded ToEven f L N) 0 (rounded-keep ToEven f L N ∙ ap (λ (k : ℕ). keep ToEven k N * 2 ^ k) place ∙ ap (λ (z : ℕ). z * 2 ^ L) kept)
