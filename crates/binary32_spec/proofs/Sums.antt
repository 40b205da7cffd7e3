-- The steps add and subtract as the code makes them: by the classes of the larger and the smaller operand, and with the second one flipped.
use mathlib.Core.Path.{◌≡◌, sym, ap, ap₂, ◌∙◌, subst}
use mathlib.Core.Bool.{Bool, false, cond, ◌&&◌}
use mathlib.Core.List.{[], ◌∷◌}
use Prim.Native.Nat.{ℕ, ◌*◌, ◌%◌, ◌^◌, ◌<◌}
use lib.Dec.{ltb}
use Rattle.rounding_spec.specs.Format.{binary32, sign_bit}
use Rattle.rounding_spec.specs.declared.Ties.TheVariants.{ToEven}
use Rattle.rounding_spec.specs.Value.{Value, nan, infinite, decode, is_nan, is_finite, encode, quieted, nan_of, round}
use Rattle.rounding_spec.proofs.NaN.{nan-later}
use Rattle.pattern_spec.specs.declared.Class.{Class}
use Rattle.pattern_spec.specs.Exact.{negate, plus, finer}
use Rattle.pattern_spec.specs.Classes.{class_of, value_of, flip}
use Rattle.pattern_spec.specs.Inner.{larger, smaller}
use Rattle.pattern_spec.proofs.Classified.{class-value, decode-flip, nan-negated}
use Rattle.pattern_spec.proofs.Finiteness.{finer-finite, plus-finite}
use Rattle.pattern_spec.proofs.Shown.{larger-number}
use Rattle.binary32_spec.specs.declared.Outcome.{Outcome}
use Rattle.binary32_spec.specs.Steps.{add_value, sub_value, result, add_step, sub_step}
use Rattle.binary32_spec.specs.Marks.{mark_by, add_mark, sub_mark}
use Rattle.binary32_spec.specs.Inner.{outcome}
use Rattle.binary32_spec.proofs.Marks.{special-mark, outcome-special, exact_sum, exact_difference, add-mark, sub-mark}
use Rattle.binary32_spec.proofs.Special.{finer-infinite-plus}
use Rattle.binary32_spec.proofs.Infinities.{plus-nan, right-nan}
use Rattle.binary32_spec.proofs.Near.{sum-chosen}
use Rattle.binary32_spec.proofs.Result.{result-nan, result-same, add_step_lem, sub-step, add-plain}

-- r is what addition gives
abbrev pub Adds : ℕ → ℕ → Outcome → Type 0
Adds x y r = (r.result ≡ add_step x y) × (r.mark ≡ add_mark x y)

-- ---- operands in order
module _ (x y : ℕ) (a b : Class) (e : a ≡ class_of (larger x y)) (f : b ≡ class_of (smaller x y)) where
  sum-ordered : plus (value_of a) (value_of b) ≡ plus (decode binary32 x) (decode binary32 y)
  sum-ordered = ap₂ plus (class-value (larger x y) a e) (class-value (smaller x y) b f) ∙ sum-chosen (ltb (x % 2 ^ 31) (y % 2 ^ 31)) x y

  pub ordered-nan : value_of a ≡ nan → Adds x y (record { result = nan_of binary32 (x ∷ y ∷ []); mark = 2 })
  unfolding add_value plus finer round
  ordered-nan n =
      let is : plus (decode binary32 x) (decode binary32 y) ≡ nan = sym sum-ordered ∙ ap (λ (v : Value). plus v (value_of b)) n in
      let none : is_finite (exact_sum x y) ≡ false = ap (λ (v : Value). is_finite (finer binary32 v)) is in (
        sym (add_step_lem x y ∙ ap (λ (v : Value). result binary32 (x ∷ y ∷ []) (round ToEven binary32 (finer binary32 v))) is ∙ result-nan binary32 (x ∷ y ∷ [])),
        sym (add-mark x y ∙ special-mark (exact_sum x y) (add_step x y) none),
      )

  -- a NaN is larger than every number, so that no operand is NaN
  pub ordered-number : is_nan (value_of a) ≡ false → Adds x y (outcome (finer binary32 (plus (value_of a) (value_of b))))
  unfolding outcome add_value
  ordered-number n =
      let k = larger-number x y (sym (ap is_nan (class-value (larger x y) a e)) ∙ n) in
      let plain = add-plain x y k.0 k.1 in
      rw sum-ordered (sym plain, sym (add-mark x y ∙ ap (mark_by (is_finite (exact_sum x y)) (exact_sum x y)) plain))

  pub ordered-infinite : (s : Bool) → value_of a ≡ infinite s → Adds x y (record { result = encode binary32 (plus (infinite s) (value_of b)); mark = 2 })
  ordered-infinite s i =
      let v = finer binary32 (plus (value_of a) (value_of b)) in
      let none : is_finite v ≡ false =
      finer-finite binary32 (plus (value_of a) (value_of b)) ∙ plus-finite (value_of a) (value_of b) ∙ ap (λ (w : Value). is_finite w && is_finite (value_of b)) i in
      let is : v ≡ plus (infinite s) (value_of b) = ap (λ (w : Value). finer binary32 (plus w (value_of b))) i ∙ finer-infinite-plus binary32 s (value_of b) in
      subst (Adds x y) (outcome-special v none ∙ ap (λ (w : Value). record { result = encode binary32 w; mark = 2 }) is) (ordered-number (ap is_nan i))

-- ---- a number taken away: its flip is added
sub-result : (x y z : ℕ) → y < 2 * sign_bit binary32 → z ≡ flip binary32 y → is_nan (decode binary32 y) ≡ false → add_step x z ≡ sub_step x y
unfolding sub_value nan_of
sub-result x y z w f n =
    let opposite : decode binary32 z ≡ negate (decode binary32 y) = ap (decode binary32) f ∙ decode-flip binary32 y w in
    let m : is_nan (decode binary32 z) ≡ false = ap is_nan opposite ∙ nan-negated (decode binary32 y) ∙ n in
    let same : nan_of binary32 (x ∷ z ∷ []) ≡ nan_of binary32 (x ∷ y ∷ []) =
    ap (λ (d : ℕ). cond (is_nan (decode binary32 x)) (quieted binary32 x) d) (nan-later binary32 z [] m ∙ sym (nan-later binary32 y [] n)) in
    add_step_lem x z
    ∙ result-same binary32 (x ∷ z ∷ []) (x ∷ y ∷ []) same (add_value binary32 (decode binary32 x) (decode binary32 z))
    ∙ ap (λ (v : Value). result binary32 (x ∷ y ∷ []) (add_value binary32 (decode binary32 x) v)) opposite
    ∙ sym (sub-step x y)

pub sub_number : (x y z : ℕ) → y < 2 * sign_bit binary32 → z ≡ flip binary32 y → is_nan (decode binary32 y) ≡ false → (add_step x z ≡ sub_step x y) × (add_mark x z ≡ sub_mark x y)
sub_number x y z w f n =
    let result-is = sub-result x y z w f n in
    let opposite : decode binary32 z ≡ negate (decode binary32 y) = ap (decode binary32) f ∙ decode-flip binary32 y w in
    let exact : exact_sum x z ≡ exact_difference x y = ap (λ (v : Value). finer binary32 (plus (decode binary32 x) v)) opposite in
    (result-is, add-mark x z ∙ ap₂ (λ (v : Value) (r : ℕ). mark_by (is_finite v) v r) exact result-is ∙ sym (sub-mark x y))

-- a NaN taken away
pub sub-nan : (x y : ℕ) → decode binary32 y ≡ nan → (nan_of binary32 (x ∷ y ∷ []) ≡ sub_step x y) × (2 ≡ sub_mark x y)
unfolding negate finer
sub-nan x y n =
    let none : is_finite (exact_difference x y) ≡ false = ap (λ (v : Value). is_finite (finer binary32 (plus (decode binary32 x) (negate v)))) n
    ∙ ap (λ (v : Value). is_finite (finer binary32 v)) (plus-nan (decode binary32 x)) in
    (sym (right-nan x y n).1, sym (sub-mark x y ∙ special-mark (exact_difference x y) (sub_step x y) none))
