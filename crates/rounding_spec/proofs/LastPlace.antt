-- The exponent of the last place: what fixes it, and how it moves with the number.
use mathlib.Core.Path.{◌≡◌, sym, ap, ◌∙◌}
use mathlib.Core.Logic.{inl, inr}
use Prim.Native.Nat.{ℕ, suc, ◌+◌, ◌*◌, ◌^◌, ◌≤◌, ◌<◌}
use native.Mathlib.Nat.{add_assoc, lt_of_lt_of_le, lt_of_le_of_lt, lt_of_not-le, not-le_of_lt, eq-or-lt_of_le, mul-le-mul_right, mul-lt-mul_of_pos_right}
use native.Mathlib.Omega.{arith}
use lib.Pow.{pow-add, pow_pos, pow_mono}
use lib.Ieee.{size}
use lib.Ieee.Digits.{size-lt, size-le, size_reaches}
use Rattle.rounding_spec.specs.Round.{last_place}

size-gt : (n j : ℕ) → 2 ^ j ≤ n → j < size n
size-gt n j h = lt_of_not-le (λ (g : size n ≤ j). not-le_of_lt (lt_of_lt_of_le (size-lt n) (pow_mono g)) h)

-- at k the number has at most suc f digits, and as many as that where k is above L
pub place_is : (f L k N : ℕ) → L ≤ k → N < 2 ^ (suc f + k) → (L < k → 2 ^ (f + k) ≤ N) → last_place f L N ≡ k
unfolding last_place
place_is f L k N l h g =
    let a = size-le N (suc f + k) h in
    elim (eq-or-lt_of_le l) [ inl e ↦ omega arith | inr m ↦ omega (arith, size-gt N (f + k) (g m)) ]

pub place-ge : (f L N : ℕ) → L ≤ last_place f L N
unfolding last_place
place-ge f L N = omega arith

pub place-le : (f L k N : ℕ) → L ≤ k → N < 2 ^ (suc f + k) → last_place f L N ≤ k
unfolding last_place
place-le f L k N l h = omega (arith, size-le N (suc f + k) h)

pub place-gt : (f L h N : ℕ) → 2 ^ (suc f + h) ≤ N → h < last_place f L N
unfolding last_place
place-gt f L h N g = omega (arith, size-gt N (suc f + h) g)

pub place-above : (f L N : ℕ) → N < 2 ^ (suc f + last_place f L N)
unfolding last_place
place-above f L N = lt_of_lt_of_le (size-lt N) (pow_mono (omega arith))

pub place-below : (f L N : ℕ) → L < last_place f L N → 2 ^ (f + last_place f L N) ≤ N
unfolding last_place
place-below f L N h = size_reaches N (f + last_place f L N) (omega arith)

pub place_mono : (f L N M : ℕ) → N ≤ M → last_place f L N ≤ last_place f L M
unfolding last_place
place_mono f L N M h = omega (arith, size-le N (size M) (lt_of_le_of_lt h (size-lt M)))

pub place-scale : (f L s N : ℕ) → last_place f (L + s) (N * 2 ^ s) ≡ last_place f L N + s
place-scale f L s N =
    let k = last_place f L N in
    let e : (x : ℕ) → 2 ^ (x + (k + s)) ≡ 2 ^ (x + k) * 2 ^ s = λ x. ap (λ (y : ℕ). 2 ^ y) (sym (add_assoc x k s)) ∙ pow-add 2 (x + k) s in
    place_is f (L + s) (k + s) (N * 2 ^ s) (omega (arith, place-ge f L N))
    (rw (e (suc f)) (mul-lt-mul_of_pos_right (place-above f L N) (pow_pos s)))
    (λ h. rw (e f) (mul-le-mul_right (2 ^ s) (place-below f L N (omega arith))))
