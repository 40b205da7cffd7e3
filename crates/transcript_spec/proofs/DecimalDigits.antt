-- A decimal is digits that make its number, and has no zero in front.
use Prim.Native.Nat.{ℕ, zero, suc, ◌+◌, ◌*◌, ◌-◌, ◌/◌, ◌%◌, ◌^◌, ◌≤◌, ◌<◌}
use Prim.Native.Char.{code}
use mathlib.Core.Path.{◌≡◌, refl, ap}
use mathlib.Core.Logic.{◌≢◌, ⊎_elim}
use mathlib.Core.List.{List, [], ◌∷◌, ◌++◌}
use native.Mathlib.Nat.{pow-succ'}
use native.Mathlib.Omega.{arith}
use lib.ListN.{length, get_or, get_or-append}
use Rattle.transcript_spec.specs.Texts.{decimal_up_to, decimal}
use Rattle.transcript_spec.specs.Theorems.{from_digits, Digits}
use Rattle.transcript_spec.proofs.DecimalLaws.{small-or-not, one, last, some}

-- one digit more
from_last : (n : ℕ) (t : List ℕ) (c : ℕ) → from_digits n (t ++ (c ∷ [])) ≡ from_digits n t * 10 + (c - code "0")
unfolding from_digits
from_last n [] c = refl
from_last n (a ∷ t) c = from_last (n * 10 + (a - code "0")) t c

digits_last : (t : List ℕ) (c : ℕ) → Digits t → code "0" ≤ c → c ≤ code "9" → Digits (t ++ (c ∷ []))
unfolding Digits
digits_last [] c d h k = (h, k, tt)
digits_last (a ∷ t) c d h k = (d.0, d.1, digits_last t c d.2 h k)

one-makes : (n : ℕ) → n < 10 → from_digits 0 ((code "0" + n) ∷ []) ≡ n
unfolding from_digits
one-makes n h = omega arith

one-is-digit : (n : ℕ) → n < 10 → Digits ((code "0" + n) ∷ [])
unfolding Digits
one-is-digit n h = (omega arith, omega arith, tt)

makes : (k n : ℕ) → n < 10 ^ k → from_digits 0 (decimal_up_to k n) ≡ n
unfolding decimal_up_to from_digits
makes zero n h = omega arith
makes (suc k) n h =
    let e = pow-succ' 10 k in
    let rest = makes k (n / 10) (omega arith) in
    ⊎_elim (λ s. rw (one k n s) (one-makes n s))
    (λ l. rw (last k n l, from_last 0 (decimal_up_to k (n / 10)) (code "0" + n % 10), rest) (omega arith)) (small-or-not n)

pub makes-number : (n : ℕ) → n < 2 ^ 32 → from_digits 0 (decimal n) ≡ n
makes-number n h = makes 10 n (omega arith)

digits : (k n : ℕ) → Digits (decimal_up_to k n)
unfolding decimal_up_to Digits
digits zero n = tt
digits (suc k) n =
    let rest = digits k (n / 10) in
    ⊎_elim (λ s. rw (one k n s) (one-is-digit n s)) (λ l. rw (last k n l) (digits_last (decimal_up_to k (n / 10)) (code "0" + n % 10) rest (omega arith) (omega arith))) (small-or-not n)

pub are-digits : (n : ℕ) → Digits (decimal n)
are-digits n = digits 10 n

-- the first digit of a number that is not 0
first : (k n : ℕ) → 1 ≤ n → n < 10 ^ k → get_or (decimal_up_to k n) 0 0 ≢ code "0"
unfolding decimal_up_to
first zero n h low = absurd (omega arith)
first (suc k) n h low =
    let e = pow-succ' 10 k in
    let rest : 1 ≤ n / 10 → get_or (decimal_up_to k (n / 10)) 0 0 ≢ code "0" = λ p. first k (n / 10) p (omega arith) in
    ⊎_elim (λ s. rw (one k n s) (λ z. omega (arith, z)))
    (λ l. rw (last k n l, get_or-append (decimal_up_to k (n / 10)) ((code "0" + n % 10) ∷ []) 0 0 (some k (n / 10) (omega arith) (omega arith))) (rest (omega arith))) (small-or-not n)

pub no-zero-first : (n : ℕ) → n < 2 ^ 32 → 1 < length (decimal n) → get_or (decimal n) 0 0 ≢ code "0"
no-zero-first n low more =
    ⊎_elim (λ s. absurd (omega (arith, ap length (one 9 n s), more))) (λ l. first 10 n (omega arith) (omega arith)) (small-or-not n)
