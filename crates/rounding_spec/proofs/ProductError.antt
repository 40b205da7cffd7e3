-- The error of a rounded product of two significands is a number of the format.
use mathlib.Core.Path.{◌≡◌, sym, ap, ◌∙◌}
use Prim.Native.Nat.{ℕ, suc, ◌+◌, ◌*◌, ◌/◌, ◌%◌, ◌^◌, ◌≤◌, ◌<◌}
use native.Mathlib.Nat.{le_of_eq, lt_of_lt_of_le, lt_of_le_of_lt, mul-lt-mul_of_pos_right, lt_of_mul-lt-mul_right, mul_comm, mul_assoc, mod-lt, div-add-mod', suc-mul}
use native.Mathlib.Omega.{arith}
use lib.Pow.{pow-add, pow_pos}
use Rattle.rounding_spec.specs.Nearest.{dist, Rep, Near}
use Rattle.rounding_spec.proofs.Multiple.{mult-dist}
use Rattle.rounding_spec.proofs.Representable.{rep-le, rep-lt}
use Rattle.rounding_spec.proofs.NearLaws.{near-mult}
use Rattle.rounding_spec.proofs.TieDown.{dbl}

-- a nearest number is at most half of 2 ^ k away, where n has at most p + 1 digits above 2 ^ k
pub near-half : {p l n a : ℕ} (k : ℕ) → Near (suc p) l n a → l ≤ k → n < 2 ^ suc p * 2 ^ k → 2 * dist a n ≤ 2 ^ k
near-half {p} {l} {n} {a} k h low top =
    let q = n / 2 ^ k in
    let s : q * 2 ^ k + n % 2 ^ k ≡ n = div-add-mod' n (2 ^ k) in
    let r = mod-lt n (pow_pos k) in
    let c : q < 2 ^ suc p = lt_of_mul-lt-mul_right (2 ^ k) {m = q} (omega arith) in
    let x = h.best (q * 2 ^ k) (rep-le p l q k low (omega arith)) in
    let y = h.best (suc q * 2 ^ k) (rep-le p l (suc q) k low c) in
    omega (arith, suc-mul q (2 ^ k))

-- ---- a product of two significands
pub product-error : {p l N a : ℕ} (g c : ℕ) → l ≤ g → N ≡ c * 2 ^ g → c < 2 ^ suc p * 2 ^ suc p → Near (suc p) l N a → Rep (suc p) l (dist a N)
product-error {p} {l} {N} {a} g c low is small h =
    let e : 2 ^ suc p * 2 ^ (g + suc p) ≡ 2 ^ suc p * 2 ^ suc p * 2 ^ g = ap (λ (z : ℕ). 2 ^ suc p * z) (pow-add 2 g (suc p) ∙ mul_comm (2 ^ g) (2 ^ suc p))
    ∙ sym (mul_assoc (2 ^ suc p) (2 ^ suc p) (2 ^ g)) in
    let top : N < 2 ^ suc p * 2 ^ (g + suc p) = lt_of_le_of_lt (le_of_eq is) (lt_of_lt_of_le (mul-lt-mul_of_pos_right small (pow_pos g)) (le_of_eq (sym e))) in
    let half = near-half (g + suc p) h (omega arith) top in
    let le : dist a N ≤ 2 ^ p * 2 ^ g = omega (arith, half, pow-add 2 g (suc p), mul_comm (2 ^ g) (2 ^ suc p), dbl p g) in
    rep-lt g (dist a N) low (mult-dist g a N (near-mult g h (c, is)) (c, is)) (lt_of_le_of_lt le (mul-lt-mul_of_pos_right (let z : 2 ^ p < 2 ^ suc p = omega (arith, pow_pos p) in z) (pow_pos g)))
