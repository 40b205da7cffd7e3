-- The steps of a sum's lines, in order.
use mathlib.Core.Path.{◌≡◌, refl, sym, ap, ap₂, ◌∙◌, subst}
use mathlib.Core.Bool.{Bool, true, false, cond}
use mathlib.Core.List.{List, [], ◌∷◌, ◌++◌}
use Prim.Native.Nat.{ℕ}
use native.Mathlib.Omega.{arith}
use borrow.Author.Tests.{eqb-true}
use lib.Dec.{leb, eqb}
use Rattle.rounding_spec.specs.Format.{binary32, sign_bit}
use Rattle.rounding_spec.specs.Value.{Value, nan, infinite, finite, Fits, is_nan, is_finite, is_infinite, is_zero, RNe}
use Rattle.rounding_spec.proofs.Codec.{decode-fits}
use Rattle.pattern_spec.specs.Exact.{negate, finer}
use Rattle.binary32_spec.specs.Steps.{add_value, mul_value, add_step, sub_step, mul_step}
use Rattle.binary32_spec.proofs.Theorems.{add-decodes, mul-decodes}
use Rattle.pattern_spec.proofs.Exchanged.{plus_comm}
use Rattle.pattern_spec.specs.Comparisons.{same}
use Rattle.errorfree_spec.proofs.NoNumber.{not-both, none-zero, number-of, both_of}
use Rattle.errorfree_spec.proofs.Steps.{zero-times}
use Rattle.errorfree_spec.proofs.Recomposed.{psi-finite}
use Rattle.errorfree_spec.proofs.Edge.{half_limit, kappa-is}
use Rattle.worksheet_spec.specs.Constants.{psi, two, half, kappa, plus_zero, two_to_127, two_to_102}
use Rattle.pattern_spec.specs.Classes.{copy_sign}
use Rattle.worksheet_spec.specs.declared.Step.{Step}
use Rattle.worksheet_spec.specs.declared.Step.TheVariants.{Add as add, Subtract as subtract}
use Rattle.worksheet_spec.specs.Lines.{Line, Sheet, ends, value, minus, equal, is_zero_pattern}
use Rattle.worksheet_spec.specs.Sheets.{recomposition, zero_finish, recomposed_finished, at_edge, edge_finish, halved_sum, overflows, sum_from, sum_in_order, swaps, sum_sheet}
use Rattle.worksheet_spec.specs.Theorems.{steps_of, recomposition_steps, finish_step, edge_steps, opening_steps, halved_steps, sum_steps}
use Rattle.worksheet_spec.proofs.Patterns.{minus-value, negate-finite}
use Rattle.worksheet_spec.proofs.Constants.{psi-value, kappa-value, zero-value, half-limit-value}
use Rattle.worksheet_spec.proofs.Blocks.{value-cond, finish-pattern, recomposition-none, edge-first}
use Rattle.worksheet_spec.proofs.Sums.{ends_there, goes_on_lem, first-is, second_is, b-none, no_edge, asks-edge}

-- ---- lists and choices
steps-append : (ls ms : List Line) → steps_of (ls ++ ms) ≡ steps_of ls ++ steps_of ms
steps-append [] ms = refl
steps-append (l ∷ ls) ms = ap (λ (steps : List Step). l.step ∷ steps) (steps-append ls ms)

pub steps-cond : (c : Bool) (s t : Sheet) → steps_of (cond c s t).lines ≡ cond c (steps_of s.lines) (steps_of t.lines)
steps-cond true s t = refl
steps-cond false s t = refl

-- ---- the parts
pub finish-steps : (x y : ℕ) → steps_of (zero_finish x y).lines ≡ cond (is_zero_pattern y) finish_step []
unfolding zero_finish
finish-steps x y = steps-cond (is_zero_pattern y) _ _

pub recomposed-steps : (a b : ℕ) → steps_of (recomposed_finished a b).lines ≡ recomposition_steps ++ cond (is_zero_pattern (recomposition a b).second) finish_step []
unfolding recomposed_finished recomposition
recomposed-steps a b = ap {B = List Step} (λ (steps : List Step). recomposition_steps ++ steps) (finish-steps (recomposition a b).first (recomposition a b).second)

pub edge-steps : (a a' b' : ℕ) → steps_of (edge_finish a a' b').lines ≡ cond (at_edge a' b') edge_steps []
unfolding edge_finish
edge-steps a a' b' = steps-cond (at_edge a' b') _ _

-- ---- a second is finished where it is zero, and is zero then
pub finish-zero : (x y : ℕ) → is_finite (value x) ≡ true → is_zero_pattern (zero_finish x y).second ≡ is_zero_pattern y
finish-zero x y h = ap is_zero_pattern (finish-pattern x y) ∙ by (is_zero_pattern y) refl
  where
    by : (c : Bool) → is_zero_pattern y ≡ c → is_zero_pattern (cond c (mul_step plus_zero x) y) ≡ c
    by true e =
        let n = number-of (value x) h in
        ap is_zero (mul-decodes plus_zero x ∙ ap₂ (mul_value binary32) zero-value n.2 ∙ zero-times binary32 n.0 n.1)
    by false e = e

-- recomposition of a finite a leaves a finite first
pub first-finite : (a b : ℕ) → is_finite (value a) ≡ true → is_finite (value (recomposition a b).first) ≡ true
unfolding recomposition
first-finite a b h =
    ap is_finite (value-cond (equal (mul_step two b) (sub_step (mul_step psi a) a)) (mul_step psi a) a) ∙ by (equal (mul_step two b) (sub_step (mul_step psi a) a))
  where
    product : is_finite (value (mul_step psi a)) ≡ true
    product =
        let n = number-of (value a) h in
        ap is_finite (mul-decodes psi a ∙ ap₂ (mul_value binary32) psi-value n.2)
        ∙ psi-finite binary32 (omega arith) n.0 n.1 (subst (Fits binary32) n.2 (decode-fits binary32 (omega arith) a))

    by : (c : Bool) → is_finite (cond c (value (mul_step psi a)) (value a)) ≡ true
    by true = product
    by false = h

pub recomposed-zero : (a b : ℕ) → is_finite (value a) ≡ true → is_zero_pattern (recomposed_finished a b).second ≡ is_zero_pattern (recomposition a b).second
unfolding recomposed_finished
recomposed-zero a b h = finish-zero (recomposition a b).first (recomposition a b).second (first-finite a b h)

-- what is no number is not finished
pub recomposed-none-steps : (a b : ℕ) → is_finite (value a) ≡ false → is_zero_pattern b ≡ false → steps_of (recomposed_finished a b).lines ≡ recomposition_steps
recomposed-none-steps a b h k = recomposed-steps a b ∙ ap {B = List Step} (λ (c : Bool). recomposition_steps ++ cond c finish_step []) (ap is_zero_pattern (recomposition-none a b h).1 ∙ k)

-- ---- at the edge first is finite
copied : (b : Bool) → value (cond b (minus two_to_127) two_to_127) ≡ finite b (half_limit binary32)
copied true = minus-value two_to_127 (omega arith) ∙ ap negate half-limit-value ∙ negate-finite false (half_limit binary32)
copied false = half-limit-value

pub same_number : (v : Value) (b : Bool) (m : ℕ) → same v (finite b m) ≡ true → (s : Bool) × (v ≡ finite s m)
unfolding same
same_number nan b m e = not-both (sym e)
same_number (infinite s) b m e = not-both (sym e)
same_number (finite s k) b m e = (s, ap (finite s) (eqb-true k m (both_of (eqb k m) _ e).0))

pub edge-number : (a' b' : ℕ) → at_edge a' b' ≡ true → (s : Bool) × (value a' ≡ finite s (half_limit binary32))
unfolding at_edge
edge-number a' b' e =
    let b = leb (sign_bit binary32) a' in
    let h = (both_of (equal a' (copy_sign two_to_127 a')) (equal b' (minus (copy_sign two_to_102 a'))) e).0 in
    same_number (value a') b (half_limit binary32) (sym (ap (same (value a')) (copied b)) ∙ h)

pub edge-finite : (a' b' : ℕ) → at_edge a' b' ≡ true → is_finite (value (mul_step kappa a')) ≡ true
edge-finite a' b' e =
    let n = edge-number a' b' e in
    ap is_finite (mul-decodes kappa a' ∙ ap₂ (mul_value binary32) kappa-value n.1 ∙ kappa-is binary32 (omega arith) n.0)

-- so that the two lines stand exactly where it is
pub edge-told : (a a' b' : ℕ) → is_finite (value a) ≡ false → at_edge a' b' ≡ is_finite (value (edge_finish a a' b').first)
edge-told a a' b' h = sym (ap (λ (p : ℕ). is_finite (value p)) (edge-first a a' b') ∙ by (at_edge a' b') refl)
  where
    by : (c : Bool) → at_edge a' b' ≡ c → is_finite (value (cond c (mul_step kappa a') a)) ≡ c
    by true e = edge-finite a' b' e
    by false e = h

-- ---- sums
module _ (x y : ℕ) where
  abbrev a : ℕ
  a = add_step x y

  abbrev b : ℕ
  b = sub_step y (sub_step a x)

  abbrev edge : Bool
  edge = overflows (recomposed_finished a b).second a

  abbrev rest : List Step
  rest = cond edge (steps_of (halved_sum x y a).lines) []

  order_is : is_nan (value a) ≡ false → steps_of (sum_in_order x y).lines ≡ add ∷ subtract ∷ subtract ∷ steps_of (recomposed_finished a b).lines ++ rest
  unfolding sum_from
  order_is n =
      ap (λ (s : Sheet). steps_of s.lines) (goes_on_lem x y n)
      ∙ ap {B = List Step} (λ (steps : List Step). add ∷ subtract ∷ subtract ∷ steps)
      (steps-append (recomposed_finished a b).lines (cond edge (halved_sum x y a) (ends (recomposed_finished a b).first (recomposed_finished a b).second)).lines
      ∙ ap (λ (steps : List Step). steps_of (recomposed_finished a b).lines ++ steps) (steps-cond edge (halved_sum x y a) (ends (recomposed_finished a b).first (recomposed_finished a b).second)))

  abbrev Ordered : Value → Type 0
  Ordered v = steps_of (sum_in_order x y).lines ≡ sum_steps v (sum_in_order x y).first (sum_in_order x y).second

  -- a is finite
  plain : is_nan (value a) ≡ false → is_infinite (value a) ≡ false → steps_of (sum_in_order x y).lines ≡ add ∷ subtract ∷ subtract ∷ steps_of (recomposed_finished a b).lines ++ []
  plain n h =
      order_is n
      ∙ ap {B = List Step} (λ (c : Bool). add ∷ subtract ∷ subtract ∷ steps_of (recomposed_finished a b).lines ++ cond c (steps_of (halved_sum x y a).lines) []) (no_edge x y h)

  finite-steps : (s : Bool) (m : ℕ) → value a ≡ finite s m → Ordered (finite s m)
  finite-steps s m h =
      let z : is_zero_pattern (sum_in_order x y).second ≡ is_zero_pattern (recomposition a b).second =
      ap is_zero_pattern (second_is x y (ap is_nan h) ∙ ap (λ (c : Bool). cond c (halved_sum x y a).second (recomposed_finished a b).second) (no_edge x y (ap is_infinite h)))
      ∙ recomposed-zero a b (ap is_finite h)
      in
      plain (ap is_nan h) (ap is_infinite h) ∙ ap {B = List Step} (λ (steps : List Step). add ∷ subtract ∷ subtract ∷ steps ++ []) (recomposed-steps a b)
      ∙ by (is_zero_pattern (recomposition a b).second) (is_zero_pattern (sum_in_order x y).second) (sym z)
    where
      by : (c d : Bool) → c ≡ d → ◌≡◌ {A = List Step} (opening_steps ++ cond c finish_step [] ++ []) (opening_steps ++ cond d finish_step [])
      by true true e = refl
      by false false e = refl
      by true false e = not-both e
      by false true e = not-both (sym e)

  nan-steps : value a ≡ nan → Ordered nan
  nan-steps h = ap (λ (s : Sheet). steps_of s.lines) (ends_there x y (ap is_nan h))

  -- a is infinite
  abbrev half-sum : ℕ
  half-sum = add_step (mul_step half x) (mul_step half y)

  abbrev half-rest : ℕ
  half-rest = sub_step (mul_step half y) (sub_step half-sum (mul_step half x))

  halved-steps : steps_of (halved_sum x y a).lines ≡ halved_steps ++ cond (at_edge half-sum half-rest) edge_steps []
  unfolding halved_sum
  halved-steps = ap {B = List Step} (λ (steps : List Step). halved_steps ++ steps) (edge-steps a half-sum half-rest)

  infinite-steps : (s : Bool) → value a ≡ infinite s → Ordered (infinite s)
  unfolding halved_sum
  infinite-steps s h =
      let n : is_finite (value a) ≡ false = ap is_finite h in
      let c = asks-edge x y s h in
      let told : at_edge half-sum half-rest ≡ is_finite (value (sum_in_order x y).first) =
      edge-told a half-sum half-rest n ∙ sym (ap (λ (p : ℕ). is_finite (value p)) (first-is x y (ap is_nan h) ∙ ap (λ (i : Bool). cond i (halved_sum x y a).first (recomposed_finished a b).first) c))
      in
      order_is (ap is_nan h)
      ∙ ap₂ {C = List Step} (λ (steps : List Step) (i : Bool). add ∷ subtract ∷ subtract ∷ steps ++ cond i (steps_of (halved_sum x y a).lines) [])
      (recomposed-none-steps a b n (none-zero (value b) (b-none x y a n))) c
      ∙ ap {B = List Step} (λ (steps : List Step). opening_steps ++ steps) halved-steps
      ∙ ap {B = List Step} (λ (i : Bool). opening_steps ++ halved_steps ++ cond i edge_steps []) told

  order-steps : Ordered (value a)
  order-steps = by (value a) refl
    where
      by : (v : Value) → value a ≡ v → Ordered v
      by nan h = nan-steps h
      by (infinite s) h = infinite-steps s h
      by (finite s m) h = finite-steps s m h

pub swapped : (x y : ℕ) → value (add_step y x) ≡ value (add_step x y)
unfolding add_value
swapped x y = add-decodes y x ∙ ap (λ (v : Value). RNe binary32 (finer binary32 v)) (plus_comm (value x) (value y)) ∙ sym (add-decodes x y)

pub sum-steps : (x y : ℕ) → steps_of (sum_sheet x y).lines ≡ sum_steps (value (add_step x y)) (sum_sheet x y).first (sum_sheet x y).second
unfolding sum_sheet
sum-steps x y = by (swaps x y)
  where
    by : (c : Bool) → let s = cond c (sum_in_order y x) (sum_in_order x y) in steps_of s.lines ≡ sum_steps (value (add_step x y)) s.first s.second
    by true = subst (λ (v : Value). steps_of (sum_in_order y x).lines ≡ sum_steps v (sum_in_order y x).first (sum_in_order y x).second) (swapped x y) (order-steps y x)
    by false = order-steps x y
