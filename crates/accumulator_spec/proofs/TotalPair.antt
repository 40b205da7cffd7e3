-- The two patterns of a total's number, by the class of the first: what `accumulator_read::of_number` gives.
use mathlib.Core.Path.{◌≡◌, refl, sym, ap, ap₂, ◌∙◌}
use mathlib.Core.Bool.{Bool, true, false, not, true≢false}
use mathlib.Core.List.{List}
use Prim.Native.Nat.{ℕ, ◌+◌, ◌*◌, ◌^◌, ◌≤◌, ◌<◌}
use native.Mathlib.Nat.{mul_assoc}
use native.Mathlib.Omega.{arith}
use lib.IntN.{ℤ, nat_abs, ◌+ℤ◌}
use lib.Pow.{pow-add}
use Rattle.rounding_spec.specs.declared.Ties.TheVariants.{ToZero}
use Rattle.rounding_spec.specs.Format.{binary32}
use Rattle.rounding_spec.specs.Value.{Value, nan, infinite, finite, Fits, decode, encode, round, is_finite, RN0}
use Rattle.rounding_spec.proofs.Codec.{decode-encode}
use Rattle.rounding_spec.proofs.RoundValue.{round-fits}
use Rattle.rounding_spec.specs.Numbers.{number}
use Rattle.pattern_spec.specs.declared.Class.{Class}
use Rattle.pattern_spec.specs.declared.Class.TheVariants.{Finite}
use Rattle.pattern_spec.specs.Classes.{class_of, value_of, zero_pattern}
use Rattle.pattern_spec.specs.Exact.{int}
use Rattle.pattern_spec.proofs.Classified.{class-value}
use Rattle.augmented_spec.specs.Pairs.{rest, zero_takes, second_of, pair_of}
use Rattle.augmented_spec.proofs.Patterns.{zero_pattern_lem}
use Rattle.accumulator_spec.specs.Words.{integer, words_of_integer}
use Rattle.accumulator_spec.proofs.TwosComplement.{integer-held}
use Rattle.accumulator_spec.specs.Totals.{number_size, pair_read, exact_number, pair_answer}
use Rattle.accumulator_spec.proofs.Rest.{rest-whole, rest_le}

-- a zero's pattern with the sign s, at every value of the format
pub zero-taken : (s : Bool) (v : Value) → Fits binary32 v → zero_pattern s (encode binary32 v) ≡ encode binary32 (zero_takes s v)
unfolding zero_takes Fits encode decode
zero-taken s nan h = refl
zero-taken s (infinite true) h = refl
zero-taken s (infinite false) h = refl
zero-taken s (finite r a) h = zero_pattern_lem s r a h.0 h.1

-- over variables, since omega takes no number as long as 2 ^ 639
held_below : (P n m : ℕ) → n ≤ m → m < P → 2 * n < 2 * P
held_below P n m h l = omega arith

module _ (z : ℤ) (first : ℕ) (is : first ≡ encode binary32 (round ToZero binary32 (exact_number z))) where
  -- the class of the first pattern stands for the first half
  class-first : (c : Class) → c ≡ class_of first → RN0 binary32 (exact_number z) ≡ value_of c
  class-first c e =
      sym (class-value first c e ∙ ap (decode binary32) is ∙ decode-encode binary32 (omega arith) (round ToZero binary32 (exact_number z)) (round-fits ToZero binary32 (exact_number z)))

  -- infinite, or NaN, which it never is: twice
  pub halves-other : (c : Class) → c ≡ class_of first → is_finite (value_of c) ≡ false → pair_read first first ≡ pair_answer (pair_of binary32 (exact_number z))
  unfolding pair_of second_of
  halves-other c e h = ap₂ pair_read is (is ∙ ap (encode binary32) (same (RN0 binary32 (exact_number z)) (ap is_finite (class-first c e) ∙ h)))
    where
      same : (v : Value) → is_finite v ≡ false → v ≡ second_of binary32 (exact_number z) v
      same nan h = refl
      same (infinite s) h = refl
      same (finite s a) h = absurd (true≢false h)

  module _ (s : Bool) (sig exp : ℕ) (class : Finite (number s sig exp) ≡ class_of first) where
    -- the number less the first half
    abbrev left : ℤ
    left = z +ℤ int (not s) (sig * 2 ^ (exp + 149))

    first-is : RN0 binary32 (exact_number z) ≡ finite s (sig * 2 ^ exp)
    unfolding value_of
    first-is = class-first (Finite (number s sig exp)) class

    scaled : sig * 2 ^ exp * 2 ^ 149 ≡ sig * 2 ^ (exp + 149)
    scaled = mul_assoc sig (2 ^ exp) (2 ^ 149) ∙ ap (λ (x : ℕ). sig * x) (sym (pow-add 2 exp 149))

    rest-left : rest binary32 (exact_number z) (finite s (sig * 2 ^ exp)) ≡ exact_number left
    rest-left = rest-whole z s (sig * 2 ^ exp) ∙ ap (λ (x : ℕ). exact_number (z +ℤ int (not s) x)) scaled

    left_le : nat_abs left ≤ nat_abs z
    left_le = rw (← scaled) (rest_le z s (sig * 2 ^ exp) first-is)

    left-held : nat_abs z < 2 ^ 639 → integer (words_of_integer number_size left) ≡ left
    left-held h = integer-held number_size left (held_below (2 ^ 639) (nat_abs left) (nat_abs z) left_le h)

    second_is : zero_pattern s (encode binary32 (round ToZero binary32 (exact_number left))) ≡ encode binary32 (pair_of binary32 (exact_number z)).second
    unfolding pair_of second_of
    second_is =
        zero-taken s (round ToZero binary32 (exact_number left)) (round-fits ToZero binary32 (exact_number left))
        ∙ ap (λ (v : Value). encode binary32 (zero_takes s (round ToZero binary32 v))) (sym rest-left)
        ∙ ap (λ (v : Value). encode binary32 (second_of binary32 (exact_number z) v)) (sym first-is)

    -- finite: the second is what is left, rounded, from the words that hold it
    pub halves-finite : nat_abs z < 2 ^ 639 → (words : List ℕ) → words ≡ words_of_integer number_size left
        → (second : ℕ) → second ≡ encode binary32 (round ToZero binary32 (exact_number (integer words)))
        → (last : ℕ) → last ≡ zero_pattern s second → pair_read first last ≡ pair_answer (pair_of binary32 (exact_number z))
    unfolding pair_of
    halves-finite h words w second e last l =
        let y : integer words ≡ left = ap integer w ∙ left-held h in
        ap₂ pair_read is (l ∙ ap (zero_pattern s) (e ∙ ap (λ (x : ℤ). encode binary32 (round ToZero binary32 (exact_number x))) y) ∙ second_is)
