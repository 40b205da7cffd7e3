-- Decimals: the last digit and those before it, how many there are, and the number that they make.
use Prim.Native.Nat.{ℕ, zero, suc, ◌+◌, ◌/◌, ◌%◌, ◌^◌, ◌≤◌, ◌<◌}
use Prim.Native.Char.{code}
use mathlib.Core.Path.{◌≡◌, refl, sym, ◌∙◌, ap}
use mathlib.Core.Logic.{◌⊎◌, inl, inr, ⊎_elim}
use mathlib.Core.Bool.{Bool, true, false}
use mathlib.Core.List.{List, [], ◌∷◌, ◌++◌}
use native.Mathlib.Nat.{pow-succ'}
use native.Mathlib.Omega.{arith}
use borrow.Author.Tests.{lt-ltb, le-ltb, ltb-true, ltb-false}
use lib.Dec.{ltb}
use lib.ListN.{length, length-append}
use Rattle.transcript_spec.specs.Texts.{decimal_up_to, decimal}

pub small-or-not : (n : ℕ) → (n < 10) ⊎ (10 ≤ n)
small-or-not n = go (ltb n 10) (ltb-true n 10) (ltb-false n 10)
  where
    go : (b : Bool) → (b ≡ true → n < 10) → (b ≡ false → 10 ≤ n) → (n < 10) ⊎ (10 ≤ n)
    go true p q = inl (p refl)
    go false p q = inr (q refl)

-- one digit
pub one : (k n : ℕ) → n < 10 → decimal_up_to (suc k) n ≡ (code "0" + n) ∷ []
unfolding decimal_up_to
one k n h = rw (lt-ltb n 10 h)

-- the last digit, after the others
pub last : (k n : ℕ) → 10 ≤ n → decimal_up_to (suc k) n ≡ decimal_up_to k (n / 10) ++ ((code "0" + n % 10) ∷ [])
unfolding decimal_up_to
last k n h = rw (le-ltb n 10 h)

-- a digit more that is allowed makes no difference where there are enough
enough : (k n : ℕ) → n < 10 ^ suc k → decimal_up_to (suc (suc k)) n ≡ decimal_up_to (suc k) n
enough zero n h = ⊎_elim (λ s. one 1 n s ∙ sym (one 0 n s)) (λ l. absurd (omega (arith, h))) (small-or-not n)
enough (suc k) n h =
    let e = pow-succ' 10 (suc k) in
    let rest : n / 10 < 10 ^ suc k → decimal_up_to (suc (suc k)) (n / 10) ≡ decimal_up_to (suc k) (n / 10) = enough k (n / 10) in
    let same = rest (omega arith) in
    ⊎_elim (λ s. one (suc (suc k)) n s ∙ sym (one (suc k) n s))
    (λ l. last (suc (suc k)) n l ∙ ap (λ (t : List ℕ). t ++ ((code "0" + n % 10) ∷ [])) same ∙ sym (last (suc k) n l)) (small-or-not n)

pub one-digit : (n : ℕ) → n < 10 → decimal n ≡ (code "0" + n) ∷ []
one-digit n h = one 9 n h

pub last-digit : (n : ℕ) → 10 ≤ n → n < 2 ^ 32 → decimal n ≡ decimal (n / 10) ++ ((code "0" + n % 10) ∷ [])
last-digit n l h = last 9 n l ∙ ap (λ (t : List ℕ). t ++ ((code "0" + n % 10) ∷ [])) (sym (enough 8 (n / 10) (omega arith)))

-- how many digits: at most as many as are allowed, one below 10, at most two below 100
at_most : (k n : ℕ) → length (decimal_up_to k n) ≤ k
unfolding decimal_up_to
at_most zero n = omega arith
at_most (suc k) n =
    let rest : length (decimal_up_to k (n / 10)) ≤ k = at_most k (n / 10) in
    ⊎_elim (λ s. rw (one k n s) (omega arith))
    (λ l. rw (last k n l, length-append (decimal_up_to k (n / 10)) ((code "0" + n % 10) ∷ [])) (omega arith)) (small-or-not n)

pub decimal-most : (n : ℕ) → length (decimal n) ≤ 10
decimal-most n = at_most 10 n

pub decimal-length : (n : ℕ) → 10 ≤ n → n < 2 ^ 32 → length (decimal n) ≡ length (decimal (n / 10)) + 1
decimal-length n l h = rw (last-digit n l h, length-append (decimal (n / 10)) ((code "0" + n % 10) ∷ [])) (refl)

pub one-length : (n : ℕ) → n < 10 → length (decimal n) ≡ 1
one-length n h = rw (one-digit n h)

pub two-lengths : (n : ℕ) → n < 100 → length (decimal n) ≤ 2
two-lengths n h =
    ⊎_elim (λ s. rw (one-digit n s) (omega arith)) (λ l. rw (decimal-length n l (omega arith), one-length (n / 10) (omega arith)) (omega arith)) (small-or-not n)

pub decimal-least : (n : ℕ) → 1 ≤ length (decimal n)
decimal-least n =
    ⊎_elim (λ s. rw (one-digit n s) (omega arith))
    (λ l. rw (last 9 n l, length-append (decimal_up_to 9 (n / 10)) ((code "0" + n % 10) ∷ [])) (omega arith)) (small-or-not n)

-- a number that is not 0 has a digit
pub some : (k n : ℕ) → 1 ≤ n → n < 10 ^ k → 0 < length (decimal_up_to k n)
unfolding decimal_up_to
some zero n h low = absurd (omega arith)
some (suc k) n h low =
    ⊎_elim (λ s. rw (one k n s) (omega arith))
    (λ l. rw (last k n l, length-append (decimal_up_to k (n / 10)) ((code "0" + n % 10) ∷ [])) (omega arith)) (small-or-not n)
