-- What is proved of error-free transformations. `All`, at the end, lists the statements, and `proofs/Theorems.antt`
-- has their proofs. They speak of any format, two of them of any `Roomy` one (Constants), as binary32 is.
use Rattle.std.specs.Prelude.{◌≡◌, Bool, true, false, cond, ℕ, suc, ◌+◌, ◌*◌, ◌^◌, ◌≤◌, ◌<◌}
use Rattle.rounding_spec.specs.declared.Ties.{Ties}
use Rattle.rounding_spec.specs.Format.{Format, binary32, low}
use Rattle.rounding_spec.specs.Round.{left_over}
use Rattle.rounding_spec.specs.Nearest.{dist, Rep}
use Rattle.rounding_spec.specs.Value.{Value, finite, Fits, is_finite, RNe, RN0}
use Rattle.pattern_spec.specs.Exact.{negate, plus, times, finer}
use Rattle.binary32_spec.specs.Steps.{add_value, sub_value, mul_value, fma_value}
use Rattle.augmented_spec.specs.Pairs.{adds_up}
use Rattle.pattern_spec.specs.Comparisons.{same, less_magnitude}
use Rattle.errorfree_spec.specs.Constants.{Roomy, psi_value, two_value}

-- ---- errors that are numbers of the format
-- what either tie rule leaves over of a sum, or of a difference
abbrev pub SumError : Type 0
SumError =
    (t : Ties) (f L x y : ℕ) → Rep (suc f) L x → Rep (suc f) L y
    → Rep (suc f) L (left_over t f L (x + y)) × Rep (suc f) L (left_over t f L (dist x y))

-- and of a product, where it is not small: from 2 ^ (2 * fraction + 1) units of u on, 2 ^ -102 in binary32
abbrev pub ProductError : Type 0
ProductError =
    (t : Ties) (F : Format) (a b : ℕ) → Rep (suc F.fraction) 0 a → Rep (suc F.fraction) 0 b
    → 2 ^ suc (F.fraction + F.fraction) * 2 ^ low F ≤ a * b
    → Rep (suc F.fraction) (low F) (left_over t F.fraction (low F) (a * b))

-- ---- Fast2Sum is exact: |y| is not above |x|, and a is finite
abbrev pub Fast2Sum : Type 0
Fast2Sum =
    (F : Format) (x y a v b : Value) → Fits F x → Fits F y → less_magnitude x y ≡ false
    → a ≡ add_value F x y → v ≡ sub_value F a x → b ≡ sub_value F y v → is_finite a ≡ true
    → adds_up F (finer F (plus x y)) (record { first = a; second = b }) ≡ true

-- a fused step leaves all of a product that is not small
abbrev pub FusedRest : Type 0
FusedRest =
    (F : Format) (s : Bool) (c : ℕ) (t : Bool) (d : ℕ) (a b : Value) → Fits F (finite s c) → Fits F (finite t d)
    → 2 ^ suc (F.fraction + F.fraction) * 2 ^ low F ≤ c * d
    → a ≡ mul_value F (finite s c) (finite t d) → b ≡ fma_value F (finite s c) (finite t d) (negate a) → is_finite a ≡ true
    → adds_up F (times (finite s c) (finite t d)) (record { first = a; second = b }) ≡ true

-- ---- the product by psi_value is the predecessor: of every number above 2 ^ (1 - emax), the smallest normal one
pub record Predecessor (F : Format) (a p : ℕ) : Type 0 where
  pub rep : Rep (suc F.fraction) 0 p
  pub below : p < a
  pub best : (m : ℕ) → Rep (suc F.fraction) 0 m → m < a → m ≤ p

abbrev pub PsiPredecessor : Type 0
PsiPredecessor =
    (F : Format) → Roomy F → (s : Bool) (a : ℕ) → Fits F (finite s a) → 2 ^ F.fraction < a
    → (p : ℕ) × (mul_value F (psi_value F) (finite s a) ≡ finite s p) × Predecessor F a p

-- ---- recomposition turns RNe into RN0
-- of a whole number n of u with the sign s, which a and b add up to
abbrev pub Recomposition : Type 0
Recomposition =
    (F : Format) → Roomy F → (s : Bool) (n : ℕ) (a b z d e : Value)
    → a ≡ RNe F (finite s (n * 2 ^ low F)) → is_finite a ≡ true → Fits F b
    → adds_up F (finite s (n * 2 ^ low F)) (record { first = a; second = b }) ≡ true
    → z ≡ mul_value F (psi_value F) a → d ≡ sub_value F z a → e ≡ mul_value F (two_value F) b
    → let first = cond (same e d) z a in
    let second = cond (same e d) (negate b) b in
    (first ≡ RN0 F (finite s (n * 2 ^ low F))) × (adds_up F (finite s (n * 2 ^ low F)) (record { first = first; second = second }) ≡ true)

-- ---- binary32 has the room
abbrev pub Binary32Roomy : Type 0
Binary32Roomy = Roomy binary32

-- ---- all of them: `proofs/Theorems.antt` proves this
abbrev pub All : Type 0
All = SumError × ProductError × Fast2Sum × FusedRest × PsiPredecessor × Recomposition × Binary32Roomy
