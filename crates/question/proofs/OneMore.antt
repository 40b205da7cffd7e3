-- One digit of a pattern more, and the last one.
use mathlib.Core.Path.{◌≡◌}
use mathlib.Core.List.{List}
use mathlib.Core.Bool.{true, false}
use Prim.Native.Nat.{ℕ, ◌+◌, ◌*◌, ◌^◌, ◌≤◌, ◌<◌}
use native.Mathlib.Nat.{pow-succ', pow-le-pow_right}
use native.Mathlib.Omega.{arith}
use native.Mathlib.Numerals.{add-one}
use lib.Dec.{lit<}
use lib.ListN.{length, drop, get_or, drop_of_length-le}
use lib.Seq.{drop-cons}
use Rattle.std.specs.Prelude.{Option, Some, None}
use Rattle.question_spec.specs.Questions.{is_digit, digit_value, all_digits, pattern_from}
use Rattle.question_spec.proofs.OneDigit.{digit_low}
use Rattle.question.specs.Inner.{digit_read}
use Rattle.question.proofs.Chosen.{some-chosen, none-chosen}

-- one digit more: n read so far, i digits
module _ (s : List ℕ) (i n : ℕ) (inside : i < length s) where
  module _ (d : ℕ) (is : ◌≡◌ {A = Option ℕ} (Some d) (digit_read (get_or s i 0))) where
    known : (is_digit (get_or s i 0) ≡ true) × (d ≡ digit_value (get_or s i 0))
    known = some-chosen (is_digit (get_or s i 0)) (digit_value (get_or s i 0)) d is

    pub low : d < 16
    low = omega (arith, known.1, digit_low (get_or s i 0) known.0)

    pub pattern-more : pattern_from (n * 16 + d) (drop (i + 1) s) ≡ pattern_from n (drop i s)
    unfolding pattern_from
    pattern-more = rw (add-one, drop-cons s i 0, known.1)

    pub all_more : all_digits (drop (i + 1) s) ≡ all_digits (drop i s)
    unfolding all_digits
    all_more = rw (add-one, drop-cons s i 0, known.0)

  pub not-all : ◌≡◌ {A = Option ℕ} None (digit_read (get_or s i 0)) → false ≡ all_digits (drop i s)
  unfolding all_digits
  not-all is = rw (drop-cons s i 0, none-chosen (is_digit (get_or s i 0)) (digit_value (get_or s i 0)) is)

pub pattern-done : (s : List ℕ) (i n : ℕ) → length s ≤ i → pattern_from n (drop i s) ≡ n
unfolding pattern_from
pattern-done s i n h = rw (drop_of_length-le s)

pub all_done : (s : List ℕ) (i : ℕ) → length s ≤ i → all_digits (drop i s) ≡ true
unfolding all_digits
all_done s i h = rw (drop_of_length-le s)

-- n is below 16 to the power of the digits read
pub room : (n i : ℕ) → n < 16 ^ i → i < 8 → (n * 16 + 15 < 16 ^ (i + 1)) × (n * 16 + 15 < 2 ^ 32)
room n i h hi =
    let e : 16 ^ (i + 1) ≡ 16 * 16 ^ i = rw (add-one, pow-succ' 16 i) in
    let top : 16 ^ (i + 1) ≤ 16 ^ 8 = pow-le-pow_right {n = 16} (lit< tt) {i = i + 1} {j = 8} (omega arith) in
    (omega arith, omega arith)
