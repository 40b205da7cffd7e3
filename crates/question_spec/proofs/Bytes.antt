-- The digits of a line's patterns, told from its bytes.
use Prim.Native.Nat.{ℕ, zero, suc, ◌+◌, ◌-◌, ◌≤◌, ◌<◌}
use mathlib.Core.Path.{◌≡◌, refl, sym, ap, ◌∙◌, subst}
use mathlib.Core.Logic.{inl, inr, ⊎_elim}
use mathlib.Core.Bool.{true, ◌&&◌}
use mathlib.Core.List.{List, [], ◌∷◌}
use native.Mathlib.Omega.{arith}
use lib.ListN.{length, get_or, take, drop, length-drop}
use lib.Seq.{get_or-take, get_or-drop, length-take-le}
use Rattle.pattern_spec.proofs.Truth.{both_of}
use Rattle.question_spec.specs.Questions.{is_digit, all_digits, first_pattern, second_pattern}
use Rattle.question_spec.specs.Theorems.{InPattern, Hexadecimal}
use Rattle.question_spec.proofs.OneDigit.{digit-range, in-range}

-- all bytes of a list are digits, and each one is
each-digit : (l : List ℕ) → all_digits l ≡ true → (i : ℕ) → i < length l → Hexadecimal (get_or l i 0)
unfolding all_digits
each-digit [] is i h = absurd (omega arith)
each-digit (c ∷ cs) is zero h = digit-range c (both_of (is_digit c) (all_digits cs) is).0
each-digit (c ∷ cs) is (suc i) h = each-digit cs (both_of (is_digit c) (all_digits cs) is).1 i (omega arith)

every-digit : (l : List ℕ) → ((i : ℕ) → i < length l → Hexadecimal (get_or l i 0)) → all_digits l ≡ true
unfolding all_digits
every-digit [] each = refl
every-digit (c ∷ cs) each = rw (in-range c (each 0 (omega arith)), every-digit cs (λ i h. each (suc i) (omega arith)))

-- the eight bytes of a line from the n-th on
module _ (line : List ℕ) (n : ℕ) (long : n + 8 ≤ length line) where
  eight : length (take 8 (drop n line)) ≡ 8
  eight = length-take-le 8 (drop n line) (rw (length-drop n line) (omega arith))

  in-line : (i : ℕ) → i < 8 → get_or (take 8 (drop n line)) i 0 ≡ get_or line (n + i) 0
  in-line i h = get_or-take 8 (drop n line) i 0 h ∙ get_or-drop n line i 0

  each-of-eight : all_digits (take 8 (drop n line)) ≡ true → (i : ℕ) → n ≤ i → i < n + 8 → Hexadecimal (get_or line i 0)
  each-of-eight is i low high =
      let place : n + (i - n) ≡ i = omega arith in
      let at : i - n < 8 = omega arith in
      subst Hexadecimal (in-line (i - n) at ∙ ap (λ (k : ℕ). get_or line k 0) place) (each-digit (take 8 (drop n line)) is (i - n) (omega (arith, eight)))

  all-of-eight : ((i : ℕ) → n ≤ i → i < n + 8 → Hexadecimal (get_or line i 0)) → all_digits (take 8 (drop n line)) ≡ true
  all-of-eight each =
      every-digit (take 8 (drop n line)) (λ i h.
      let at : i < 8 = omega (arith, eight, h) in
      subst Hexadecimal (sym (in-line i at)) (each (n + i) (omega arith) (omega arith)))

module _ (line : List ℕ) (full : length line ≡ 21) where
  -- digits in both patterns, place by place
  pub digits-at : (all_digits (first_pattern line) && all_digits (second_pattern line)) ≡ true → (i : ℕ) → InPattern i → Hexadecimal (get_or line i 0)
  digits-at is i =
      let both = both_of (all_digits (first_pattern line)) (all_digits (second_pattern line)) is in
      ⊎_elim (λ w. each-of-eight line 4 (omega arith) both.0 i w.0 (omega (arith, w.1))) (λ w. each-of-eight line 13 (omega arith) both.1 i w.0 (omega (arith, w.1)))

  pub digits-everywhere : ((i : ℕ) → InPattern i → Hexadecimal (get_or line i 0)) → (all_digits (first_pattern line) && all_digits (second_pattern line)) ≡ true
  digits-everywhere each =
      rw (
        all-of-eight line 4 (omega arith) (λ i low high. each i (inl (low, omega arith))),
        all-of-eight line 13 (omega arith) (λ i low high. each i (inr (low, omega arith))),
      )
