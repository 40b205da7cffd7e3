-- Walking over the words of a whole number adds to it, or takes away.
use mathlib.Core.Path.{◌≡◌, refl, ap, ◌∙◌}
use mathlib.Core.Bool.{Bool, true, false}
use mathlib.Core.List.{List, [], ◌∷◌, map}
use Prim.Native.Nat.{ℕ, zero, suc, ◌+◌, ◌-◌, ◌/◌, ◌%◌, ◌^◌, ◌≤◌, ◌<◌}
use native.Mathlib.Decide.{dec_le}
use native.Mathlib.Omega.{arith}
use lib.IntN.{ℤ, pos, negsuc, neg_ℤ, sub_ℕ, ◌+ℤ◌}
use borrow.Author.Tests.{lt-ltb, le-ltb}
use Rattle.pattern_spec.specs.Exact.{int}
use Rattle.accumulator_spec.specs.Words.{words_of_natural, words_of_integer, complement}
use Rattle.accumulator_spec.proofs.Complements.{words-words, complement-back}
use Rattle.accumulator_spec.proofs.Carry.{walk}

-- ---- adding
-- to a natural number
up : (k a n : ℕ) → walk false (words_of_natural k a) n ≡ words_of_natural k (a + n)
unfolding walk words_of_natural
up zero a n = refl
up (suc k) a n =
    let h : (a % 4294967296 + n) % 4294967296 ≡ (a + n) % 4294967296 = omega arith in
    let t : a / 4294967296 + (a % 4294967296 + n) / 4294967296 ≡ (a + n) / 4294967296 = omega arith in
    rw (h, up k (a / 4294967296) ((a % 4294967296 + n) / 4294967296), t)

-- n to -(n + e + 1), which is -(e + 1)
below-zero : (k n e : ℕ) → walk false (map complement (words_of_natural k (n + e))) n ≡ map complement (words_of_natural k e)
unfolding walk words_of_natural
below-zero zero n e = refl
below-zero (suc k) n e =
    let q = (4294967295 - (n + e) % 4294967296 + n) / 4294967296 in
    let h : (4294967295 - (n + e) % 4294967296 + n) % 4294967296 ≡ 4294967295 - e % 4294967296 = omega arith in
    let t : (n + e) / 4294967296 ≡ q + e / 4294967296 = omega arith in
    rw (h, t, below-zero k q (e / 4294967296))

-- m + 1 + d to -(m + 1), which is d
past-zero : (k m d : ℕ) → walk false (map complement (words_of_natural k m)) (m + 1 + d) ≡ words_of_natural k d
unfolding walk words_of_natural
past-zero zero m d = refl
past-zero (suc k) m d =
    let h : (4294967295 - m % 4294967296 + (m + 1 + d)) % 4294967296 ≡ d % 4294967296 = omega arith in
    let t : (4294967295 - m % 4294967296 + (m + 1 + d)) / 4294967296 ≡ m / 4294967296 + 1 + d / 4294967296 = omega arith in
    rw (h, t, past-zero k (m / 4294967296) (d / 4294967296))

sub-lt : (a b : ℕ) → a < b → sub_ℕ a b ≡ negsuc (b - suc a)
sub-lt a b h = rw (lt-ltb a b h)

sub-ge : (a b : ℕ) → b ≤ a → sub_ℕ a b ≡ pos (a - b)
sub-ge a b h = rw (le-ltb a b h)

-- by whether zero is passed
module _ (k m n : ℕ) where
  past : suc m ≤ n → walk false (map complement (words_of_natural k m)) n ≡ words_of_integer k (sub_ℕ n (suc m))
  unfolding words_of_integer
  past h =
      let d : n ≡ m + 1 + (n - suc m) = omega arith in
      rw (sub-ge n (suc m) h) (ap (walk false (map complement (words_of_natural k m))) d ∙ past-zero k m (n - suc m))

  short : n < suc m → walk false (map complement (words_of_natural k m)) n ≡ words_of_integer k (sub_ℕ n (suc m))
  unfolding words_of_integer
  short h =
      let d : m ≡ n + (suc m - suc n) = omega arith in
      rw (sub-lt n (suc m) h) (ap (λ (x : ℕ). walk false (map complement (words_of_natural k x)) n) d ∙ below-zero k n (suc m - suc n))

add-integer : (k : ℕ) (z : ℤ) (n : ℕ) → walk false (words_of_integer k z) n ≡ words_of_integer k (z +ℤ pos n)
unfolding words_of_integer
add-integer k (pos a) n = up k a n
add-integer k (negsuc m) n = elim (dec_le (suc m) n) [ yes h ↦ past k m n h | no h ↦ short k m n (omega arith) ]

-- ---- taking away, through the complements
-- the whole number whose words are the complements
abbrev opposite : ℤ → ℤ
opposite (pos n) = negsuc n
opposite (negsuc n) = pos n

opposite-words : (k : ℕ) (z : ℤ) → map complement (words_of_integer k z) ≡ words_of_integer k (opposite z)
unfolding words_of_integer
opposite-words k (pos n) = refl
opposite-words k (negsuc n) = complement-back (words_of_natural k n) (words-words k n)

opposite-sum : (z : ℤ) (n : ℕ) → opposite (opposite z +ℤ pos n) ≡ z +ℤ neg_ℤ (pos n)
opposite-sum (pos a) zero = let e : suc a - suc 0 ≡ a + 0 = omega arith in rw (sub-lt 0 (suc a) (omega arith)) (ap pos e)
opposite-sum (pos a) (suc n) =
    elim (dec_le (suc a) (suc n)) [
      | yes h ↦ rw (sub-ge (suc n) (suc a) h, sub-lt a (suc n) (omega arith))
      | no h ↦ let e : suc a - suc (suc n) ≡ a - suc n = omega arith in rw (sub-lt (suc n) (suc a) (omega arith), sub-ge a (suc n) (omega arith)) (ap pos e)
    ]
opposite-sum (negsuc a) zero = let e : a + 0 ≡ suc a - suc 0 = omega arith in rw (sub-lt 0 (suc a) (omega arith)) (ap negsuc e)
opposite-sum (negsuc a) (suc n) = let e : a + suc n ≡ suc (a + n) = omega arith in ap negsuc e

walk-opposite : (ws : List ℕ) (n : ℕ) → walk true ws n ≡ map complement (walk false (map complement ws) n)
unfolding walk
walk-opposite [] n = refl
walk-opposite (w ∷ ws) n = ap (λ (xs : List ℕ). complement ((complement w + n) % 2 ^ 32) ∷ xs) (walk-opposite ws ((complement w + n) / 2 ^ 32))

-- ---- either
pub walk-integer : (s : Bool) (k : ℕ) (z : ℤ) (n : ℕ) → walk s (words_of_integer k z) n ≡ words_of_integer k (z +ℤ int s n)
walk-integer false k z n = add-integer k z n
walk-integer true k z n =
    walk-opposite (words_of_integer k z) n
    ∙ rw (opposite-words k z, add-integer k (opposite z) n, opposite-words k (opposite z +ℤ pos n), opposite-sum z n)
