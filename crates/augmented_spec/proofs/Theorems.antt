-- The theorems of `specs/Theorems.antt`, and the table of `specs/Cases.antt`.
use mathlib.Core.Path.{◌≡◌, refl, sym, ap, ◌∙◌}
use mathlib.Core.Bool.{true, false, not}
use mathlib.Core.List.{[], ◌∷◌}
use Prim.Native.Nat.{ℕ}
use native.Mathlib.Nat.{lt_of_le_of_lt}
use native.Mathlib.Omega.{arith}
use borrow.Author.Tests.{eqb-true, eq-eqb, not-false}
use lib.Dec.{eqb}
use lib.IntN.{nat_abs}
use Rattle.rounding_spec.specs.declared.Ties.TheVariants.{ToZero}
use Rattle.rounding_spec.specs.Format.{Format, low}
use Rattle.rounding_spec.specs.Value.{Value, nan, infinite, round}
use Rattle.rounding_spec.proofs.Codec.{pattern-rep}
use Rattle.rounding_spec.proofs.HalfPlace.{left-half}
use Rattle.rounding_spec.proofs.RoundValue.{round-below, over-edge, zero-at-edge}
use Rattle.pattern_spec.specs.Exact.{times}
use Rattle.binary32_spec.specs.Steps.{result}
use Rattle.binary32_spec.proofs.Result.{result-nan, result-width}
use Rattle.augmented_spec.specs.Pairs.{second_of, pair_of, sum_pair, difference_pair, product_pair}
use Rattle.augmented_spec.specs.Cases.{Table}
use Rattle.augmented_spec.specs.declared.Operation.{Operation}
use Rattle.augmented_spec.specs.Direct.{direct_pair}
use Rattle.augmented_spec.specs.Theorems.{EveryFinite, DirectPairs, FirstRounded, FirstNearest, Overflow, SecondRounded, SecondNearest, HalfUnit, SumAddsUp, ProductAddsUp, FlagsOfFinite}
use Rattle.augmented_spec.specs.Theorems.{OperationNumbers, second_operand, NaNOperand, OppositeInfinities, ZeroTimesInfinity, NaNLandmarks, InfiniteOperand, FlagSets, InfiniteTwice, NaNTwice}
use Rattle.augmented_spec.specs.Theorems.{DifferenceIsSum, PatternWidth, All}
use Rattle.augmented_spec.specs.Theorems.{FlagSetFields, InvalidRaised, OverflowRaised, UnderflowRaised, InexactRaised}
use Rattle.augmented_spec.proofs.Second.{head, tail-le, first-finite, first-infinite}
use Rattle.augmented_spec.proofs.Read.{exact_for, first, second, first-pattern, second-pattern, first_fits_lem, second_fits, first_read_lem}
use Rattle.augmented_spec.proofs.FiniteOperands.{number, first-is, rest, side, second_size, second_sign, lost, halved}
use Rattle.augmented_spec.proofs.AddsUp.{rest-exact, adds-up, added-up, sum-lost, product-underflow, product-inexact}
use Rattle.augmented_spec.proofs.Nearest.{first-near, second-near}
use Rattle.augmented_spec.proofs.FiniteFlags.{flags-above, sum-flags, product-flags}
use Rattle.augmented_spec.proofs.SpecialOperands as special
use Rattle.augmented_spec.proofs.FlagSets as flags
use Rattle.augmented_spec.proofs.FlagFields as fields
use Rattle.augmented_spec.proofs.Table as cases

-- ---- of whom
pub every-finite : EveryFinite
every-finite o x y s a t b w p q =
    record { proper = omega arith; x = x; y = y; width = w; s = s; a = a; t = t; b = b; left = p; right = q; exact = refl; zero = refl; pair = refl }

pub direct-pairs : DirectPairs
unfolding direct_pair
direct-pairs = (refl, refl, refl)

pub difference-is-sum : DifferenceIsSum
unfolding difference_pair
difference-is-sum F x y = refl

-- ---- first
pub first-rounded : FirstRounded
unfolding pair_of round
first-rounded o F E z p h = ((number h).sign, nat_abs E, (number h).exact, (number h).zero, first-is h)

pub first-nearest : FirstNearest
first-nearest o F E z p h q c e w r b d = first-near (halved h q c e) r b (pattern-rep F h.proper.0 w r b d)

pub overflow : Overflow
overflow o F E z p h =
    let r = (number h).sign in (
      λ g. (r, first-is h ∙ first-infinite F r (nat_abs E) (over-edge F h.proper ToZero (nat_abs E) g), (number h).exact),
      λ g. (r, head F r (nat_abs E), first-is h ∙ first-finite F r (nat_abs E) (zero-at-edge F h.proper (nat_abs E) g)),
    )

-- ---- second
pub second-rounded : SecondRounded
second-rounded o F E z p h q c e =
    let k = halved h q c e in
    let below = lt_of_le_of_lt (tail-le F q (nat_abs E)) k.below in
    (side F E q, rest F E q, second_size F E q, rest-exact k, round-below ToZero F (side F E q) (rest F E q) below, k.second)

pub second-nearest : SecondNearest
second-nearest o F E z p h q c e t d f w r b g = second-near (halved h q c e) r b (pattern-rep F h.proper.0 w r b g) t d f

pub half-unit : HalfUnit
half-unit o F E z p h q c e =
    let k = halved h q c e in
    (second_sign F E q, second_size F E q, k.second, rw k.first (left-half F.fraction (low F) (nat_abs E)))

-- ---- what a finite pair adds up to
pub sum-adds-up : SumAddsUp
sum-adds-up o F E z p n h q c e =
    let k = halved h q c e in
    (second_sign F E q, second_size F E q, k.second, adds-up k (sum-lost n h q))

pub product-adds-up : ProductAddsUp
product-adds-up F E z p h q c e =
    let k = halved h q c e in
    let u : p.flags.inexact ≡ not (eqb (lost F E q) 0) = sym (product-inexact h k) ∙ product-underflow h k in (
      second_sign F E q,
      second_size F E q,
      k.second,
      product-inexact h k,
      λ f. adds-up k (eqb-true (lost F E q) 0 (not-false (eqb (lost F E q) 0) (sym u ∙ f))),
      λ f s. let i : true ≡ false = sym f ∙ u ∙ ap not (eq-eqb (lost F E q) 0 (added-up k s)) in let n : ◌≡◌ {A = ℕ} 0 1 = cc in omega arith,
    )

-- ---- flags of finite operands
pub flags-of-finite : FlagsOfFinite
flags-of-finite o F E z p h = (flags-above h, sum-flags h, product-flags h)

-- ---- special operands
pub nan-operand : NaNOperand
nan-operand = special.nan-operand

pub opposite-infinities : OppositeInfinities
opposite-infinities = special.opposite-infinities

pub zero-times-infinity : ZeroTimesInfinity
zero-times-infinity = special.zero-times-infinity

pub infinite-operand : InfiniteOperand
infinite-operand = special.infinite-operand

-- ---- all patterns
pub flag-sets : FlagSets
flag-sets = flags.flag-sets

pub flag-set-fields : FlagSetFields
flag-set-fields = fields.flag-set-fields

pub invalid-raised : InvalidRaised
invalid-raised = fields.invalid-raised

pub overflow-raised : OverflowRaised
overflow-raised = fields.overflow-raised

pub underflow-raised : UnderflowRaised
underflow-raised = fields.underflow-raised

pub inexact-raised : InexactRaised
inexact-raised = fields.inexact-raised

-- both halves show one value, which is not finite
same-halves : (o : Operation) (F : Format) (x y : ℕ) (v : Value) → first o F x y ≡ v → second o F x y ≡ v → (direct_pair o F x y).second ≡ (direct_pair o F x y).first
same-halves o F x y v e g =
    second-pattern o F x y ∙ ap (result F (x ∷ second_operand o F y ∷ [])) (g ∙ sym e) ∙ sym (first-pattern o F x y)

pub infinite-twice : InfiniteTwice
unfolding pair_of second_of
infinite-twice o F ok x y s e =
    let is : first o F x y ≡ infinite s = sym (first_read_lem o F ok x y) ∙ e in
    same-halves o F x y (infinite s) is (ap (second_of F (exact_for o F x y)) is)

pub nan-twice : NaNTwice
unfolding pair_of second_of
nan-twice o F ok x y e =
    let is : first o F x y ≡ nan = sym (first_read_lem o F ok x y) ∙ e in
    let operands = x ∷ second_operand o F y ∷ [] in (
      first-pattern o F x y ∙ ap (result F operands) is ∙ result-nan F operands,
      same-halves o F x y nan is (ap (second_of F (exact_for o F x y)) is),
    )

pub nan-landmarks : NaNLandmarks
unfolding sum_pair difference_pair product_pair times
nan-landmarks = (refl, refl, refl, refl, refl, refl, refl)

pub pattern-width : PatternWidth
pattern-width o F ok x y =
    let operands = x ∷ second_operand o F y ∷ [] in (
      rw (first-pattern o F x y) (result-width F operands ok (first o F x y) (first_fits_lem o F x y)),
      rw (second-pattern o F x y) (result-width F operands ok (second o F x y) (second_fits o F x y)),
    )

pub operation-numbers : OperationNumbers
operation-numbers = (refl, refl, refl, refl, refl, refl)

-- ---- the table of cases
pub table : Table
table = cases.table

pub all : All
all = (
  every-finite,
  direct-pairs,
  difference-is-sum,
  operation-numbers,
  first-rounded,
  first-nearest,
  overflow,
  second-rounded,
  second-nearest,
  half-unit,
  sum-adds-up,
  product-adds-up,
  flags-of-finite,
  nan-operand,
  opposite-infinities,
  zero-times-infinity,
  nan-landmarks,
  infinite-operand,
  flag-sets,
  flag-set-fields,
  invalid-raised,
  overflow-raised,
  underflow-raised,
  inexact-raised,
  infinite-twice,
  nan-twice,
  pattern-width,
  table,
)
