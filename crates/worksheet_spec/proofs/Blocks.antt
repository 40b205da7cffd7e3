-- Recomposition, zero finish and the edge on patterns: their values, and the pair that they end in.
use mathlib.Core.Path.{◌≡◌, refl, ap, ap₂, ◌∙◌, subst}
use mathlib.Core.Bool.{Bool, true, false, not, cond, ◌&&◌}
use Prim.Native.Nat.{ℕ, ◌*◌, ◌^◌}
use native.Mathlib.Omega.{arith}
use lib.Dec.{T, leb}
use Rattle.rounding_spec.specs.Format.{binary32, low, sign_bit}
use Rattle.rounding_spec.specs.Value.{Value, nan, infinite, finite, is_zero, is_finite, round}
use Rattle.pattern_spec.specs.Exact.{negate, plus, times, finer}
use Rattle.binary32_spec.specs.Steps.{add_value, sub_value, mul_value, sub_step, mul_step}
use Rattle.binary32_spec.proofs.Theorems.{sub-decodes, mul-decodes}
use Rattle.pattern_spec.specs.Comparisons.{same}
use Rattle.errorfree_spec.specs.Constants as factor
use Rattle.errorfree_spec.proofs.Factors as factors
use Rattle.errorfree_spec.proofs.Steps.{to_zero}
use Rattle.errorfree_spec.proofs.Split.{Split, Split0, finished-first, finished-second}
use Rattle.errorfree_spec.proofs.Recomposed as split
use Rattle.errorfree_spec.proofs.Edge.{half_limit, edge_rest}
use Rattle.errorfree_spec.proofs.Halved.{EdgePair}
use Rattle.worksheet_spec.specs.Constants.{psi, two, minus_two, kappa, plus_zero, two_to_127, two_to_102}
use Rattle.pattern_spec.specs.Classes.{copy_sign}
use Rattle.worksheet_spec.specs.Lines.{Sheet, value, minus, equal, is_zero_pattern}
use Rattle.worksheet_spec.specs.Sheets.{recomposition, zero_finish, recomposed_finished, at_edge, edge_finish}
use Rattle.worksheet_spec.proofs.Patterns.{Pattern, mul-width, minus-width, minus-value, negate-finite, sign-value, sign-width}
use Rattle.worksheet_spec.proofs.Constants.{psi-value, two-value, minus-two-value, kappa-value, zero-value, half-limit-value, edge-rest-value}
use Rattle.worksheet_spec.proofs.Foots.{Foots, foots}

-- ---- choices
pub value-cond : (c : Bool) (x y : ℕ) → value (cond c x y) ≡ cond c (value x) (value y)
value-cond true x y = refl
value-cond false x y = refl

pub width-cond : (c : Bool) (x y : ℕ) → Pattern x → Pattern y → Pattern (cond c x y)
width-cond true x y h k = h
width-cond false x y h k = k

cond-eq : (c : Bool) {x y v w : Value} → x ≡ v → y ≡ w → cond c x y ≡ cond c v w
cond-eq c e f = ap₂ (λ (x y : Value). cond c x y) e f

-- ---- recomposition
module _ (s : Bool) (n A a b : ℕ) (ai : value a ≡ finite s A) (wb : Pattern b) (h : Split binary32 s n A (value b)) where
  pub recomposition-split : Split0 binary32 s n (to_zero binary32 (n * 2 ^ low binary32)) (value (recomposition a b).first) (value (recomposition a b).second)
  unfolding recomposition
  recomposition-split =
      let z = mul_step psi a in
      let d = sub_step z a in
      let e = mul_step two b in
      let zi : value z ≡ mul_value binary32 (factor.psi_value binary32) (finite s A) = mul-decodes psi a ∙ ap₂ (mul_value binary32) psi-value ai in
      let di : value d ≡ sub_value binary32 (value z) (finite s A) = sub-decodes z a ∙ ap (sub_value binary32 (value z)) ai in
      let ei : value e ≡ mul_value binary32 (factor.two_value binary32) (value b) = mul-decodes two b ∙ ap (λ (v : Value). mul_value binary32 v (value b)) two-value in
      let first : value (cond (equal e d) z a) ≡ cond (equal e d) (value z) (finite s A) = value-cond (equal e d) z a ∙ cond-eq (equal e d) refl ai in
      let second : value (cond (equal e d) (minus b) b) ≡ cond (equal e d) (negate (value b)) (value b) = value-cond (equal e d) (minus b) b ∙ cond-eq (equal e d) (minus-value b wb) refl in
      rw (first, second) (split.recomposed binary32 (omega arith) s n A (value b) h (value z) (value d) (value e) zi di ei)

pub recomposition-widths : (a b : ℕ) → Pattern a → Pattern b → Pattern (recomposition a b).first × Pattern (recomposition a b).second
unfolding recomposition
recomposition-widths a b wa wb =
    let c = equal (mul_step two b) (sub_step (mul_step psi a) a) in
    (width-cond c (mul_step psi a) a (mul-width psi a) wa, width-cond c (minus b) b (minus-width b wb) wb)

-- ---- zero finish
pub first-cond : (c : Bool) (s t : Sheet) → (cond c s t).first ≡ cond c s.first t.first
first-cond true s t = refl
first-cond false s t = refl

pub second-cond : (c : Bool) (s t : Sheet) → (cond c s t).second ≡ cond c s.second t.second
second-cond true s t = refl
second-cond false s t = refl

either : (c : Bool) (x : ℕ) → cond c x x ≡ x
either true x = refl
either false x = refl

module _ (first second : ℕ) where
  pub finish-first : (zero_finish first second).first ≡ first
  unfolding zero_finish
  finish-first = first-cond (is_zero_pattern second) _ _ ∙ either (is_zero_pattern second) first

  pub finish-pattern : (zero_finish first second).second ≡ cond (is_zero_pattern second) (mul_step plus_zero first) second
  unfolding zero_finish
  finish-pattern = second-cond (is_zero_pattern second) _ _

  pub finish-second : value (zero_finish first second).second ≡ cond (is_zero (value second)) (mul_value binary32 factors.zero (value first)) (value second)
  finish-second =
      ap value finish-pattern ∙ value-cond (is_zero_pattern second) (mul_step plus_zero first) second
      ∙ cond-eq (is_zero_pattern second) (mul-decodes plus_zero first ∙ ap (λ (v : Value). mul_value binary32 v (value first)) zero-value) refl

  pub finish-width : Pattern second → Pattern (zero_finish first second).second
  finish-width w = rw finish-pattern (width-cond (is_zero_pattern second) (mul_step plus_zero first) second (mul-width plus_zero first) w)

-- ---- recomposition and zero finish: the pair of n units with the sign s
pub recomposed-foot : (s : Bool) (n A a b : ℕ) → value a ≡ finite s A → Pattern a → Pattern b → Split binary32 s n A (value b) → Foots (finite s (n * 2 ^ low binary32)) (recomposed_finished a b)
unfolding recomposed_finished
recomposed-foot s n A a b ai wa wb h =
    let first = (recomposition a b).first in
    let second = (recomposition a b).second in
    let f = to_zero binary32 (n * 2 ^ low binary32) in
    let k = recomposition-split s n A a b ai wb h in
    let w = recomposition-widths a b wa wb in
    foots s (n * 2 ^ low binary32) (recomposed_finished a b) (rw (finish-first first second) w.0) (finish-width first second w.1)
    (ap value (finish-first first second) ∙ finished-first binary32 s n f (value first) (value second) k, finish-second first second ∙ finished-second binary32 s n f (value first) (value second) k)

-- ---- where a is no number, nothing is chosen and nothing finished
same-nan : (v : Value) → same v nan ≡ false
unfolding same
same-nan nan = refl
same-nan (infinite s) = refl
same-nan (finite s a) = refl

-- the product by ψ less a is NaN
no_difference : (v : Value) → is_finite v ≡ false → sub_value binary32 (mul_value binary32 (factor.psi_value binary32) v) v ≡ nan
unfolding sub_value add_value mul_value times plus negate finer round
no_difference nan h = refl
no_difference (infinite false) h = refl
no_difference (infinite true) h = refl
no_difference (finite s a) h = absurd (subst (λ (b : Bool). T b) h tt)

-- so that e = d is false
pub none-recomposed : (a b : ℕ) → is_finite (value a) ≡ false → equal (mul_step two b) (sub_step (mul_step psi a) a) ≡ false
none-recomposed a b h =
    let z = mul_step psi a in
    let d = sub_step z a in
    let di : value d ≡ nan = sub-decodes z a ∙ ap (λ (v : Value). sub_value binary32 v (value a)) (mul-decodes psi a ∙ ap (λ (v : Value). mul_value binary32 v (value a)) psi-value)
    ∙ no_difference (value a) h in
    ap (same (value (mul_step two b))) di ∙ same-nan (value (mul_step two b))

pub recomposition-none : (a b : ℕ) → is_finite (value a) ≡ false → ((recomposition a b).first ≡ a) × ((recomposition a b).second ≡ b)
unfolding recomposition
recomposition-none a b h = rw (none-recomposed a b h) (refl, refl)

pub recomposed-none : (a b : ℕ) → is_finite (value a) ≡ false → is_zero_pattern b ≡ false → ((recomposed_finished a b).first ≡ a) × ((recomposed_finished a b).second ≡ b)
unfolding recomposed_finished
recomposed-none a b h k =
    let r = recomposition-none a b h in (
      finish-first (recomposition a b).first (recomposition a b).second ∙ r.0,
      finish-pattern (recomposition a b).first (recomposition a b).second ∙ rw (r.0, r.1, k) refl,
    )

-- ---- the edge
module _ (a a' b' : ℕ) where
  pub edge-first : (edge_finish a a' b').first ≡ cond (at_edge a' b') (mul_step kappa a') a
  unfolding edge_finish
  edge-first = first-cond (at_edge a' b') _ _

  edge-second : (edge_finish a a' b').second ≡ cond (at_edge a' b') (mul_step minus_two b') a
  unfolding edge_finish
  edge-second = second-cond (at_edge a' b') _ _

  -- a' is a number
  module _ (s : Bool) (A : ℕ) (ei : value a' ≡ finite s A) where
    pub test-is : at_edge a' b' ≡ same (value a') (finite s (half_limit binary32)) && same (value b') (finite (not s) (edge_rest binary32))
    unfolding negate at_edge
    test-is =
        let w : Pattern (copy_sign two_to_102 a') = sign-width a' two_to_102 (omega arith) in
        ap₂ (λ (v u : Value). same (value a') v && same (value b') u) (sign-value a' s A ei two_to_127 (half_limit binary32) (omega arith) half-limit-value)
        (minus-value (copy_sign two_to_102 a') w ∙ ap negate (sign-value a' s A ei two_to_102 (edge_rest binary32) (omega arith) edge-rest-value))

    pub edge-foot : (N : ℕ) → value a ≡ infinite s → Pattern a → EdgePair binary32 s N (value a') (value b') → Foots (finite s N) (edge_finish a a' b')
    edge-foot N ai wa p =
        foots s N (edge_finish a a' b') (rw edge-first (width-cond (at_edge a' b') (mul_step kappa a') a (mul-width kappa a') wa))
        (rw edge-second (width-cond (at_edge a' b') (mul_step minus_two b') a (mul-width minus_two b') wa)) (
          ap value edge-first ∙ value-cond (at_edge a' b') (mul_step kappa a') a ∙ cond-eq (at_edge a' b') (mul-decodes kappa a' ∙ ap (λ (v : Value). mul_value binary32 v (value a')) kappa-value) ai
              ∙ ap (λ (c : Bool). cond c (mul_value binary32 (factors.kappa binary32) (value a')) (infinite s)) test-is ∙ p.0,
          ap value edge-second ∙ value-cond (at_edge a' b') (mul_step minus_two b') a
              ∙ cond-eq (at_edge a' b') (mul-decodes minus_two b' ∙ ap (λ (v : Value). mul_value binary32 v (value b')) minus-two-value) ai
              ∙ ap (λ (c : Bool). cond c (mul_value binary32 (factors.minus_two binary32) (value b')) (infinite s)) test-is ∙ p.1,
        )

  -- a' is none
  pub no_test : is_finite (value a') ≡ false → at_edge a' b' ≡ false
  unfolding at_edge
  no_test h = by (leb (sign_bit binary32) a')
    where
      none : (v : Value) (b : Bool) (m : ℕ) → is_finite v ≡ false → same v (finite b m) ≡ false
      none nan b m h = unfold same in refl
      none (infinite s) b m h = unfold same in refl
      none (finite s m) b k h = absurd (subst (λ (b : Bool). T b) h tt)

      by : (b : Bool) → same (value a') (value (cond b (minus two_to_127) two_to_127)) && equal b' (minus (copy_sign two_to_102 a')) ≡ false
      by true = ap (λ (c : Bool). c && equal b' (minus (copy_sign two_to_102 a')))
          (ap (same (value a')) (minus-value two_to_127 (omega arith) ∙ ap negate half-limit-value ∙ negate-finite false (half_limit binary32)) ∙ none (value a') true (half_limit binary32) h)
      by false = ap (λ (c : Bool). c && equal b' (minus (copy_sign two_to_102 a'))) (ap (same (value a')) half-limit-value ∙ none (value a') false (half_limit binary32) h)

  pub edge_none : is_finite (value a') ≡ false → ((edge_finish a a' b').first ≡ a) × ((edge_finish a a' b').second ≡ a)
  edge_none h = (edge-first ∙ ap (λ (c : Bool). cond c (mul_step kappa a') a) (no_test h), edge-second ∙ ap (λ (c : Bool). cond c (mul_step minus_two b') a) (no_test h))
