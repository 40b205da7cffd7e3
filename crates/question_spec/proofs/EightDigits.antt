-- The eight digits of a pattern and the number that they make, each from the other.
use Prim.Native.Nat.{ℕ, ◌+◌, ◌*◌, ◌/◌, ◌%◌, ◌^◌, ◌<◌}
use mathlib.Core.Path.{◌≡◌, sym, ◌∙◌, ap}
use mathlib.Core.Bool.{true}
use mathlib.Core.List.{List, [], ◌∷◌}
use native.Mathlib.Omega.{arith}
use lib.ListN.{length, get_or, drop_of_length-le}
use lib.Seq.{drop-cons}
use Rattle.pattern_spec.proofs.Truth.{both_of}
use Rattle.question_spec.specs.Questions.{is_digit, digit_value, all_digits, pattern_from, pattern_text}
use Rattle.question_spec.proofs.OneDigit.{digit_low, byte-back, value-back, digit-is}

-- the number of eight digits
abbrev joined : ℕ → ℕ → ℕ → ℕ → ℕ → ℕ → ℕ → ℕ → ℕ
joined a b c d e f g h = (((((((0 * 16 + a) * 16 + b) * 16 + c) * 16 + d) * 16 + e) * 16 + f) * 16 + g) * 16 + h

split : (a b c d e f g h : ℕ) → a < 16 → b < 16 → c < 16 → d < 16 → e < 16 → f < 16 → g < 16 → h < 16 → (n : ℕ) → n ≡ joined a b c d e f g h
    → (n < 2 ^ 32) × (n / 268435456 % 16 ≡ a) × (n / 16777216 % 16 ≡ b) × (n / 1048576 % 16 ≡ c) × (n / 65536 % 16 ≡ d)
    × (n / 4096 % 16 ≡ e) × (n / 256 % 16 ≡ f) × (n / 16 % 16 ≡ g) × (n % 16 ≡ h)
split a b c d e f g h la lb lc ld le lf lg lh n is = (omega arith, omega arith, omega arith, omega arith, omega arith, omega arith, omega arith, omega arith, omega arith)

module _ (a b c d e f g h : ℕ) where
  all-eight : all_digits (a ∷ b ∷ c ∷ d ∷ e ∷ f ∷ g ∷ h ∷ []) ≡ true
      → (is_digit a ≡ true) × (is_digit b ≡ true) × (is_digit c ≡ true) × (is_digit d ≡ true)
      × (is_digit e ≡ true) × (is_digit f ≡ true) × (is_digit g ≡ true) × (is_digit h ≡ true)
  unfolding all_digits
  all-eight is =
      let pa = both_of (is_digit a) (all_digits (b ∷ c ∷ d ∷ e ∷ f ∷ g ∷ h ∷ [])) is in
      let pb = both_of (is_digit b) (all_digits (c ∷ d ∷ e ∷ f ∷ g ∷ h ∷ [])) pa.1 in
      let pc = both_of (is_digit c) (all_digits (d ∷ e ∷ f ∷ g ∷ h ∷ [])) pb.1 in
      let pd = both_of (is_digit d) (all_digits (e ∷ f ∷ g ∷ h ∷ [])) pc.1 in
      let pe = both_of (is_digit e) (all_digits (f ∷ g ∷ h ∷ [])) pd.1 in
      let pf = both_of (is_digit f) (all_digits (g ∷ h ∷ [])) pe.1 in
      let pg = both_of (is_digit g) (all_digits (h ∷ [])) pf.1 in
      let ph = both_of (is_digit h) (all_digits []) pg.1 in
      (pa.0, pb.0, pc.0, pd.0, pe.0, pf.0, pg.0, ph.0)

  eight-back : (n : ℕ) → n ≡ pattern_from 0 (a ∷ b ∷ c ∷ d ∷ e ∷ f ∷ g ∷ h ∷ []) → all_digits (a ∷ b ∷ c ∷ d ∷ e ∷ f ∷ g ∷ h ∷ []) ≡ true
      → (n < 2 ^ 32) × (pattern_text n ≡ a ∷ b ∷ c ∷ d ∷ e ∷ f ∷ g ∷ h ∷ [])
  unfolding pattern_from
  eight-back n is all =
      let are = all-eight all in
      let s =
      split (digit_value a) (digit_value b) (digit_value c) (digit_value d) (digit_value e) (digit_value f) (digit_value g) (digit_value h) (digit_low a are.0) (digit_low b are.1)
      (digit_low c are.2) (digit_low d are.3) (digit_low e are.4) (digit_low f are.5) (digit_low g are.6) (digit_low h are.7) n is in (
        s.0,
        rw (
          s.1,
          s.2,
          s.3,
          s.4,
          s.5,
          s.6,
          s.7,
          s.8,
          byte-back a are.0,
          byte-back b are.1,
          byte-back c are.2,
          byte-back d are.3,
          byte-back e are.4,
          byte-back f are.5,
          byte-back g are.6,
          byte-back h are.7,
        ),
      )

as-eight : (l : List ℕ) → length l ≡ 8
    → get_or l 0 0 ∷ get_or l 1 0 ∷ get_or l 2 0 ∷ get_or l 3 0 ∷ get_or l 4 0 ∷ get_or l 5 0 ∷ get_or l 6 0 ∷ get_or l 7 0 ∷ [] ≡ l
as-eight l is =
    let a = drop-cons l 0 0 (omega arith) in
    let b = drop-cons l 1 0 (omega arith) in
    let c = drop-cons l 2 0 (omega arith) in
    let d = drop-cons l 3 0 (omega arith) in
    let e = drop-cons l 4 0 (omega arith) in
    let f = drop-cons l 5 0 (omega arith) in
    let g = drop-cons l 6 0 (omega arith) in
    let h = drop-cons l 7 0 (omega arith) in
    let z = drop_of_length-le l {i = 8} (omega arith) in
    cc (a, b, c, d, e, f, g, h, z)

-- eight digits are the text of their number
pub text-back : (l : List ℕ) (n : ℕ) → length l ≡ 8 → all_digits l ≡ true → pattern_from 0 l ≡ n → (n < 2 ^ 32) × (l ≡ pattern_text n)
text-back l n len all is =
    let e = as-eight l len in
    let back = eight-back (get_or l 0 0) (get_or l 1 0) (get_or l 2 0) (get_or l 3 0) (get_or l 4 0) (get_or l 5 0) (get_or l 6 0) (get_or l 7 0) n (sym is ∙ ap (pattern_from 0) (sym e))
    (ap all_digits e ∙ all) in
    (back.0, sym (back.1 ∙ e))

nibble : (n : ℕ) → n % 16 < 16
nibble n = omega arith

-- a pattern's text is digits,
pub text-digits : (n : ℕ) → all_digits (pattern_text n) ≡ true
unfolding all_digits
text-digits n =
    rw (
      digit-is (n / 268435456 % 16) (nibble (n / 268435456)),
      digit-is (n / 16777216 % 16) (nibble (n / 16777216)),
      digit-is (n / 1048576 % 16) (nibble (n / 1048576)),
      digit-is (n / 65536 % 16) (nibble (n / 65536)),
      digit-is (n / 4096 % 16) (nibble (n / 4096)),
      digit-is (n / 256 % 16) (nibble (n / 256)),
      digit-is (n / 16 % 16) (nibble (n / 16)),
      digit-is (n % 16) (nibble n),
    )

whole : (n : ℕ) → n < 2 ^ 32
    → joined (n / 268435456 % 16) (n / 16777216 % 16) (n / 1048576 % 16) (n / 65536 % 16) (n / 4096 % 16) (n / 256 % 16) (n / 16 % 16) (n % 16) ≡ n
whole n low =
    let e0 : 0 * 16 + n / 268435456 % 16 ≡ n / 268435456 = omega arith in
    let e1 : n / 268435456 * 16 + n / 16777216 % 16 ≡ n / 16777216 = omega arith in
    let e2 : n / 16777216 * 16 + n / 1048576 % 16 ≡ n / 1048576 = omega arith in
    let e3 : n / 1048576 * 16 + n / 65536 % 16 ≡ n / 65536 = omega arith in
    let e4 : n / 65536 * 16 + n / 4096 % 16 ≡ n / 4096 = omega arith in
    let e5 : n / 4096 * 16 + n / 256 % 16 ≡ n / 256 = omega arith in
    let e6 : n / 256 * 16 + n / 16 % 16 ≡ n / 16 = omega arith in
    let e7 : n / 16 * 16 + n % 16 ≡ n = omega arith in
    rw (e0, e1, e2, e3, e4, e5, e6) e7

-- and makes its number
pub text-value : (n : ℕ) → n < 2 ^ 32 → pattern_from 0 (pattern_text n) ≡ n
unfolding pattern_from
text-value n low =
    rw (
      value-back (n / 268435456 % 16) (nibble (n / 268435456)),
      value-back (n / 16777216 % 16) (nibble (n / 16777216)),
      value-back (n / 1048576 % 16) (nibble (n / 1048576)),
      value-back (n / 65536 % 16) (nibble (n / 65536)),
      value-back (n / 4096 % 16) (nibble (n / 4096)),
      value-back (n / 256 % 16) (nibble (n / 256)),
      value-back (n / 16 % 16) (nibble (n / 16)),
      value-back (n % 16) (nibble n),
    ) (whole n low)
