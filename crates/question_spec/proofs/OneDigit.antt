-- A hexadecimal digit's byte and its value, each from the other.
use Prim.Native.Nat.{ℕ, ◌+◌, ◌-◌, ◌≤◌, ◌<◌}
use Prim.Native.Char.{code}
use mathlib.Core.Path.{◌≡◌, refl}
use mathlib.Core.Logic.{◌⊎◌, inl, inr, ⊎_elim}
use mathlib.Core.Bool.{Bool, true, false, ◌&&◌, ◌||◌}
use native.Mathlib.Omega.{arith}
use borrow.Author.Tests.{leb-true, le-leb, lt-leb, ltb-true, ltb-false, lt-ltb, le-ltb}
use lib.Dec.{leb, ltb}
use Rattle.pattern_spec.proofs.Truth.{both_of}
use Rattle.question_spec.specs.Questions.{is_digit, digit_value, digit}
use Rattle.question_spec.specs.Theorems.{Hexadecimal}

or-and : (a b d e : Bool) → ((a && b) || (d && e)) ≡ true → ((a ≡ true) × (b ≡ true)) ⊎ ((d ≡ true) × (e ≡ true))
or-and true true d e is = inl (refl, refl)
or-and true false d e is = inr (both_of d e is)
or-and false b d e is = inr (both_of d e is)

-- 0-9 or A-F
pub digit-range : (c : ℕ) → is_digit c ≡ true → Hexadecimal c
digit-range c is =
    ⊎_elim (λ w. inl (leb-true (code "0") c w.0, leb-true c (code "9") w.1)) (λ w. inr (leb-true (code "A") c w.0, leb-true c (code "F") w.1))
    (or-and (leb (code "0") c) (leb c (code "9")) (leb (code "A") c) (leb c (code "F")) is)

pub in-range : (c : ℕ) → Hexadecimal c → is_digit c ≡ true
in-range c =
    ⊎_elim (λ w. rw (le-leb (code "0") c w.0, le-leb c (code "9") w.1))
    (λ w. let h : code "9" < c = omega arith in
    rw (le-leb (code "0") c (omega (arith, w.0)), lt-leb c (code "9") h, le-leb (code "A") c w.0, le-leb c (code "F") w.1))

pub digit_low : (c : ℕ) → is_digit c ≡ true → digit_value c < 16
digit_low c is =
    ⊎_elim (λ w. rw (le-leb c (code "9") w.1) (omega (arith, w.1))) (λ w. let h : code "9" < c = omega arith in rw (lt-leb c (code "9") h) (omega (arith, w.1))) (digit-range c is)

pub byte-back : (c : ℕ) → is_digit c ≡ true → digit (digit_value c) ≡ c
byte-back c is =
    ⊎_elim (λ w. rw (le-leb c (code "9") w.1, lt-ltb (c - code "0") 10 (omega (arith, w.1))) (omega (arith, w.0)))
    (λ w. let h : code "9" < c = omega arith in rw (lt-leb c (code "9") h, le-ltb (c - (code "A" - 10)) 10 (omega (arith, w.0))) (omega (arith, w.0))) (digit-range c is)

module _ (d : ℕ) (low : d < 16) where
  small : (b : Bool) → (b ≡ true → d < 10) → (b ≡ false → 10 ≤ d) → ((d < 10) ⊎ (10 ≤ d))
  small true p q = inl (p refl)
  small false p q = inr (q refl)

  pub value-back : digit_value (digit d) ≡ d
  value-back =
      ⊎_elim (λ h. rw (lt-ltb d 10 h, le-leb (code "0" + d) (code "9") (omega arith)) (omega arith)) (λ h. rw (le-ltb d 10 h, lt-leb (code "A" - 10 + d) (code "9") (omega arith)) (omega arith))
      (small (ltb d 10) (ltb-true d 10) (ltb-false d 10))

  pub digit-is : is_digit (digit d) ≡ true
  digit-is =
      ⊎_elim (λ h. rw (lt-ltb d 10 h) (in-range (code "0" + d) (inl (omega arith, omega arith))))
      (λ h. rw (le-ltb d 10 h) (in-range (code "A" - 10 + d) (inr (omega arith, omega arith)))) (small (ltb d 10) (ltb-true d 10) (ltb-false d 10))
