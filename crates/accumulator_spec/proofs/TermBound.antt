-- The whole number of a finite term has a magnitude of at most 2 ^ 554.
use mathlib.Core.Path.{◌≡◌, sym, refl}
use mathlib.Core.Bool.{true≢false, Bool, true, false, ◌&&◌}
use Prim.Native.Nat.{ℕ, zero, suc, ◌*◌, ◌^◌, ◌≤◌}
use native.Mathlib.Nat.{le_trans, le_of_eq, le_of_lt, mul-le-mul}
use lib.Dec.{lit<, lit≤}
use lib.Ieee.{unlike}
use lib.IntN.{nat_abs}
use lib.Pow.{shl_lt, pow_mono}
use Rattle.rounding_spec.specs.Format.{binary32, limit}
use Rattle.rounding_spec.specs.Value.{Value, nan, infinite, finite, Fits, decode, is_finite}
use Rattle.rounding_spec.proofs.Codec.{decode-fits}
use Rattle.pattern_spec.specs.Exact.{whole, int, times, finer}
use Rattle.accumulator_spec.specs.Totals.{Term, of_pattern, of_product, finite_operands, exact_term}

int-magnitude : (s : Bool) (a : ℕ) → nat_abs (int s a) ≡ a
int-magnitude false a = refl
int-magnitude true zero = refl
int-magnitude true (suc a) = refl

-- a pattern's, in u * u, is below 2 ^ 426
pattern-bound : (v : Value) → Fits binary32 v → is_finite v ≡ true → nat_abs (whole (finer binary32 v)) ≤ 2 ^ 554
unfolding Fits limit finer
pattern-bound nan f e = absurd (true≢false (sym e))
pattern-bound (infinite s) f e = absurd (true≢false (sym e))
pattern-bound (finite s a) f e = le_trans (le_of_eq (int-magnitude s (a * 2 ^ 149))) (le_trans (le_of_lt (shl_lt 277 149 f.1)) (pow_mono {i = 426} {j = 554} (lit≤ tt)))

-- a product's is below 2 ^ 277 * 2 ^ 277
product-bound : (v w : Value) → Fits binary32 v → Fits binary32 w → is_finite v && is_finite w ≡ true → nat_abs (whole (times v w)) ≤ 2 ^ 554
unfolding Fits limit times
product-bound nan w f g e = absurd (true≢false (sym e))
product-bound (infinite s) w f g e = absurd (true≢false (sym e))
product-bound (finite s a) nan f g e = absurd (true≢false (sym e))
product-bound (finite s a) (infinite t) f g e = absurd (true≢false (sym e))
product-bound (finite s a) (finite t b) f g e = le_trans (le_of_eq (int-magnitude (unlike s t) (a * b))) (mul-le-mul (le_of_lt f.1) (le_of_lt g.1))

pub term-bound : (x : Term) → finite_operands x ≡ true → nat_abs (whole (exact_term x)) ≤ 2 ^ 554
term-bound (of_pattern x) e = pattern-bound (decode binary32 x) (decode-fits binary32 (lit< tt) x) e
term-bound (of_product x y) e = product-bound (decode binary32 x) (decode binary32 y) (decode-fits binary32 (lit< tt) x) (decode-fits binary32 (lit< tt) y) e
