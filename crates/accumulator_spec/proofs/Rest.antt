-- The rest of a total's number, when a half is taken from it, is a whole number again, and not a larger one.
use mathlib.Core.Path.{◌≡◌, refl, sym, ap, ◌∙◌}
use mathlib.Core.Bool.{Bool, true, false, not}
use Prim.Native.Nat.{ℕ, zero, suc, ◌+◌, ◌*◌, ◌^◌, ◌≤◌, ◌<◌}
use native.Mathlib.Decide.{dec_le}
use native.Mathlib.Nat.{le_trans, le_of_eq}
use native.Mathlib.Omega.{arith}
use borrow.Author.Tests.{lt-ltb, le-ltb}
use lib.IntN.{ℤ, pos, negsuc, nat_abs, neg_ℤ, sub_ℕ, ◌+ℤ◌, neg_ℤ-+ℤ}
use Rattle.rounding_spec.specs.declared.Ties.TheVariants.{ToZero}
use Rattle.rounding_spec.specs.Format.{binary32, limit}
use Rattle.rounding_spec.specs.Round.{rounded}
use Rattle.rounding_spec.specs.Nearest.{dist}
use Rattle.rounding_spec.specs.Value.{finite, round, round_finite, RN0}
use Rattle.rounding_spec.proofs.Representable.{rep_zero}
use Rattle.rounding_spec.proofs.Rounded.{rounded-near}
use Rattle.rounding_spec.proofs.RoundValue.{round-below, round-above, round-finite}
use Rattle.pattern_spec.specs.Exact.{negate, plus, finer, int}
use Rattle.pattern_spec.proofs.Integers.{plus-exact}
use Rattle.pattern_spec.proofs.Sums.{sum_same}
use Rattle.augmented_spec.specs.Pairs.{rest}
use Rattle.accumulator_spec.specs.Totals.{exact_number}

-- ---- the rest as a whole number
-- a number by its sign and magnitude, where a zero has the sign +
pub exact-int : (r : Bool) (c : ℕ) → (c ≡ 0 → r ≡ false) → exact_number (int r c) ≡ finite r c
exact-int false c h = refl
exact-int true zero h = ap (λ (b : Bool). finite b 0) (sym (h refl))
exact-int true (suc c) h = refl

-- the exact value of a whole number, and a magnitude with its sign added: never a zero with the sign -
plus-whole : (z : ℤ) (t : Bool) (b : ℕ) → plus (exact_number z) (finite t b) ≡ exact_number (z +ℤ int t b)
unfolding plus
plus-whole (pos n) t b = let p = plus-exact false n t b in p.2 ∙ sym (exact-int p.0 p.1 p.4) ∙ ap exact_number p.3
plus-whole (negsuc n) false b = let p = plus-exact true (suc n) false b in p.2 ∙ sym (exact-int p.0 p.1 p.4) ∙ ap exact_number p.3
plus-whole (negsuc n) true b =
    sum_same true (suc n) true b refl ∙ sym (exact-int true (suc n + b) (λ (e : suc n + b ≡ 0). absurd (omega arith))) ∙ ap exact_number (neg_ℤ-+ℤ (pos (suc n)) (pos b))

-- a units of u, of either sign, taken from z units of u * u
pub rest-whole : (z : ℤ) (s : Bool) (a : ℕ) → rest binary32 (exact_number z) (finite s a) ≡ exact_number (z +ℤ int (not s) (a * 2 ^ 149))
unfolding rest negate finer
rest-whole z s a = plus-whole z (not s) (a * 2 ^ 149)

-- ---- its magnitude
pub abs-sub : (a b : ℕ) → nat_abs (sub_ℕ a b) ≡ dist a b
abs-sub a b =
    elim (dec_le b a) [
      | yes h ↦ rw (le-ltb a b h) (omega arith)
      | no h ↦ let l : a < b = omega arith in rw (lt-ltb a b l) (omega arith)
    ]

abs-less : (n b : ℕ) → nat_abs (pos n +ℤ neg_ℤ (pos b)) ≡ dist b n
abs-less n zero = omega arith
abs-less n (suc b) = abs-sub n (suc b) ∙ omega arith

from_zero : (N : ℕ) → dist 0 N ≡ N
from_zero N = omega arith

-- what RN0 makes of a magnitude is as near to it as zero is
near-zero : (s : Bool) (N : ℕ) (r : Bool) (a : ℕ) → round_finite ToZero binary32 s N ≡ finite r a → dist (a * 2 ^ 149) N ≤ N
near-zero s N r a e = rw (round-finite ToZero binary32 s N r a e) (le_trans ((rounded-near ToZero 23 149 N).best 0 rep_zero) (le_of_eq (from_zero N)))

-- a rounded number keeps its sign
same_sign_lem : (s : Bool) (N : ℕ) (r : Bool) (a : ℕ) → round_finite ToZero binary32 s N ≡ finite r a → r ≡ s
same_sign_lem s N r a e =
    elim (dec_le (limit binary32) (rounded ToZero 23 149 N)) [
      | yes h ↦ let x = round-above ToZero binary32 s N h in cc
      | no h ↦ let x = round-below ToZero binary32 s N (omega arith) in cc
    ]

-- zero is a number of the format, so what is left is not larger
pub rest_le : (z : ℤ) (s : Bool) (a : ℕ) → RN0 binary32 (exact_number z) ≡ finite s a → nat_abs (z +ℤ int (not s) (a * 2 ^ 149)) ≤ nat_abs z
unfolding round
rest_le (pos n) s a e = rw (same_sign_lem false n s a e, abs-less n (a * 2 ^ 149)) (near-zero false n s a e)
rest_le (negsuc n) s a e = rw (same_sign_lem true (suc n) s a e, abs-sub (a * 2 ^ 149) (suc n)) (near-zero true (suc n) s a e)
