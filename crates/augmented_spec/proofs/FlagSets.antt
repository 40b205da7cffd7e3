-- Only the flag sets -, I, OX and UX occur: a NaN first raises neither O nor U, an infinite one neither I nor U, a finite one neither I nor O.
use mathlib.Core.Path.{◌≡◌, refl, sym}
use mathlib.Core.Logic.{◌⊎◌, inl, inr}
use mathlib.Core.Bool.{Bool, true, false, ◌&&◌, and-true}
use Prim.Native.Nat.{ℕ}
use Rattle.rounding_spec.specs.Format.{Format}
use Rattle.rounding_spec.specs.Value.{Value, nan, infinite, finite, decode, is_nan, signalling, round, is_finite, is_infinite}
use Rattle.pattern_spec.specs.Exact.{plus, times, finer}
use Rattle.pattern_spec.specs.Classes.{flip}
use Rattle.pattern_spec.proofs.Exchanged.{plus_comm}
use Rattle.augmented_spec.specs.declared.Flags.{Flags}
use Rattle.augmented_spec.specs.Pairs.{Halves, pair_of, invalid, overflowed, underflowed, flags_of, answer, exact_sum, sum_pair, difference_pair, exact_product, product_pair}
use Rattle.augmented_spec.specs.declared.Operation.TheVariants.{Sum as sum, Difference as difference, Product as product}
use Rattle.augmented_spec.specs.Direct.{direct_pair, none, I, OX, UX}
use Rattle.augmented_spec.specs.Theorems.{FlagSets}

abbrev OneOf : Flags → Type 0
OneOf f = (f ≡ none) ⊎ ((f ≡ I) ⊎ ((f ≡ OX) ⊎ (f ≡ UX)))

only-i : (i : Bool) → OneOf (flags_of i false false)
only-i false = inl refl
only-i true = inr (inl refl)

only-o : (o : Bool) → OneOf (flags_of false o false)
only-o false = inl refl
only-o true = inr (inr (inl refl))

only-u : (u : Bool) → OneOf (flags_of false false u)
only-u false = inl refl
only-u true = inr (inr (inr refl))

pub finite_number : (v : Value) → is_finite v ≡ true → is_nan v ≡ false
finite_number nan e = sym e
finite_number (infinite s) e = refl
finite_number (finite s a) e = refl

-- ---- by the class of first
module _ (F : Format) (x y : ℕ) where
  -- I from operands that are not NaN is a NaN first
  pub invalid-none : (first : Value) → is_nan (decode F x) ≡ false → is_nan (decode F y) ≡ false → is_nan first ≡ false → invalid F x y first ≡ false
  unfolding invalid signalling
  invalid-none first a b c = rw (a, b, c)

  -- of finite operands
  pub finite-flags : (first : Value) (u : Bool) → is_finite (decode F x) ≡ true → is_finite (decode F y) ≡ true → is_nan first ≡ false
      → flags_of (invalid F x y first) (overflowed F x y first) u ≡ flags_of false (is_infinite first) u
  unfolding overflowed
  finite-flags first u a b n =
      rw (invalid-none first (finite_number (decode F x) a) (finite_number (decode F y) b) n, a, b, and-true (is_infinite first && true), and-true (is_infinite first))

  by_first : (first : Value) (u : Bool) → (is_nan first ≡ false → (is_nan (decode F x) ≡ false) × (is_nan (decode F y) ≡ false)) → (is_finite first ≡ false → u ≡ false)
      → OneOf (flags_of (invalid F x y first) (overflowed F x y first) u)
  unfolding overflowed
  by_first nan u n h = rw (h refl) (only-i (invalid F x y nan))
  by_first (infinite s) u n h = rw (h refl, invalid-none (infinite s) (n refl).0 (n refl).1 refl) (only-o (overflowed F x y (infinite s)))
  by_first (finite s a) u n h = rw (invalid-none (finite s a) (n refl).0 (n refl).1 refl) (only-u u)

-- ---- where first is no NaN, no operand is one
pub times-nan : (v : Value) → times v nan ≡ nan
unfolding times
times-nan nan = refl
times-nan (infinite s) = refl
times-nan (finite s a) = refl

module _ (F : Format) where
  sum_left : (v w : Value) → is_nan (pair_of F (finer F (plus v w))).first ≡ false → is_nan v ≡ false
  unfolding pair_of round finer plus
  sum_left nan w h = h
  sum_left (infinite s) w h = refl
  sum_left (finite s a) w h = refl

  sum-right : (v w : Value) → is_nan (pair_of F (finer F (plus v w))).first ≡ false → is_nan w ≡ false
  sum-right v w h = sum_left w v (rw (plus_comm v w) h)

  product-left : (v w : Value) → is_nan (pair_of F (times v w)).first ≡ false → is_nan v ≡ false
  unfolding pair_of round times
  product-left nan w h = h
  product-left (infinite s) w h = refl
  product-left (finite s a) w h = refl

  product-right : (v w : Value) → is_nan (pair_of F (times v w)).first ≡ false → is_nan w ≡ false
  unfolding pair_of round
  product-right v nan h = rw (times-nan v) at h
  product-right v (infinite s) h = refl
  product-right v (finite s a) h = refl

  pub underflow-none : (e : Value) (p : Halves) → is_finite p.first ≡ false → underflowed F e p ≡ false
  unfolding underflowed
  underflow-none e p h = rw h

  sum-sets : (x y : ℕ) → OneOf (sum_pair F x y).flags
  unfolding sum_pair answer
  sum-sets x y = by_first F x y (pair_of F (exact_sum F x y)).first false (λ h. (sum_left (decode F x) (decode F y) h, sum-right (decode F x) (decode F y) h)) (λ h. refl)

  product-sets : (x y : ℕ) → OneOf (product_pair F x y).flags
  unfolding product_pair answer
  product-sets x y =
      let p = pair_of F (exact_product F x y) in
      by_first F x y p.first (underflowed F (exact_product F x y) p) (λ h. (product-left (decode F x) (decode F y) h, product-right (decode F x) (decode F y) h))
      (underflow-none (exact_product F x y) p)

pub flag-sets : FlagSets
unfolding direct_pair difference_pair
flag-sets sum F x y = sum-sets F x y
flag-sets difference F x y = sum-sets F x (flip F y)
flag-sets product F x y = product-sets F x y
