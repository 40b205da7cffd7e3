-- What the functions below `augmented` promise each other. No contract of `augmented`'s entry points cites it.
use Rattle.std.specs.Prelude.{ℕ, ◌+◌, ◌*◌, ◌^◌, ◌≤◌, ◌<◌, ◌≡◌, Bool, false, List}
use Rattle.rounding_spec.specs.declared.Ties.TheVariants.{ToZero}
use Rattle.rounding_spec.specs.Format.{binary32}
use Rattle.rounding_spec.specs.Round.{left_over}
use Rattle.rounding_spec.specs.Value.{finite, decode, encode, is_infinite}
use Rattle.pattern_spec.specs.Inner.{Operand}
use Rattle.binary32_spec.specs.Steps.{result}
use Rattle.augmented_spec.specs.declared.Flags.{Flags}
use Rattle.augmented_spec.specs.declared.Halves.{Halves as Patterns}
use Rattle.augmented_spec.specs.declared.Pair.{Pair}
use Rattle.augmented_spec.specs.Pairs.{Halves, pair_of, invalid, overflowed, underflowed, flags_of}

-- both patterns; only a NaN's goes by the operands
abbrev pub both : ℕ → ℕ → Patterns
both a b = record { first = a; second = b }

abbrev pub patterns_of : List ℕ → Halves → Patterns
patterns_of operands p = both (result binary32 operands p.first) (result binary32 operands p.second)

-- ---- answers
-- the flags of two operands whose first has the pattern c, but for U
abbrev pub flags_without_u : ℕ → ℕ → ℕ → Flags
flags_without_u x y c = flags_of (invalid binary32 x y (decode binary32 c)) (overflowed binary32 x y (decode binary32 c)) false

-- two patterns as a pair with these flags
abbrev pub pair_without_u : ℕ → ℕ → ℕ → ℕ → Pair
pair_without_u x y c d = record { first = c; second = d; flags = flags_without_u x y c }

-- the answer of finite operands
abbrev pub finite_answer : Halves → Bool → Pair
finite_answer p u =
    record {
      first = encode binary32 p.first;
      second = encode binary32 p.second;
      flags = flags_of false (is_infinite p.first) u;
    }

-- the answer of finite operands whose product is N with the sign s, in u * u
abbrev pub product_answer : Bool → ℕ → Pair
product_answer s N = let p = pair_of binary32 (finite s N) in finite_answer p (underflowed binary32 (finite s N) p)

-- ---- exact results that need no second rounding
-- what rounding leaves of m * 2 ^ e has at most 24 digits, and none below u
pub record ShortRest (m e : ℕ) : Type 0 where
  pub unit : 149 ≤ e
  pub left : left_over ToZero 23 149 (m * 2 ^ e) < 2 ^ 24 * 2 ^ e

-- two finite patterns whose exponents are at least 26 apart: the second does not reach a quarter of the first one's last place
pub record Apart (p q : ℕ) : Type 0 where
  pub s : Bool
  pub m : ℕ
  pub e : ℕ
  pub t : Bool
  pub n : ℕ
  pub d : ℕ
  pub left : decode binary32 p ≡ finite s (m * 2 ^ e)
  pub right : decode binary32 q ≡ finite t (n * 2 ^ d)
  pub operands : Operand m e × Operand n d
  pub far : d + 26 ≤ e
