-- The kind that a number stands for, where one that stands for none is taken for the last.
use Prim.Native.Nat.{ℕ}
use mathlib.Core.Path.{◌≡◌, refl, sym, ◌∙◌, ap}
use mathlib.Core.Logic.{inl, inr, ◌≢◌}
use mathlib.Core.Bool.{true, false}
use Rattle.std.specs.Prelude.{Result, Ok, Err}
use Rattle.std.specs.Result.{result_unwrap_or}
use native.Mathlib.Omega.{arith}
use borrow.Author.Tests.{ne_eqb}
use Rattle.augmented_spec.specs.declared.NoOperation.{NoOperation}
use Rattle.augmented_spec.specs.declared.Operation.{Operation}
use Rattle.augmented_spec.specs.declared.Operation.TheVariants.{Sum as sum, Difference as difference, Product as product}
use Rattle.augmented_spec.specs.Operations.{operation_number, operation_of, is_operation, Numbers as Operations}
use Rattle.worksheet_spec.specs.declared.NoStep.{NoStep}
use Rattle.worksheet_spec.specs.declared.Step.{Step}
use Rattle.worksheet_spec.specs.declared.Step.TheVariants.{Add as add, Subtract as subtract, Multiply as multiply, Fused as fused}
use Rattle.worksheet_spec.specs.Steps.{step_number, Numbers as Steps}
use Rattle.transcript_spec.specs.Texts.{step_of}

number_operation : (o : Operation) → o ≡ operation_of (operation_number o)
number_operation sum = refl
number_operation difference = refl
number_operation product = refl

pub operation_or_product : (n : ℕ) (r : Result Operation NoOperation) → Operations n r → result_unwrap_or r product ≡ operation_of n
operation_or_product n (Ok o) e = number_operation o ∙ ap operation_of e
operation_or_product n (Err e) none =
    let none_is : (k : ℕ) → n ≡ k → is_operation k ≡ true → ⊥ = λ k is yes. let bad : true ≡ false = sym yes ∙ (sym (ap is_operation is) ∙ none) in cc in
    let a : n ≢ 1 = λ (is : n ≡ 1). none_is 1 is refl in
    let b : n ≢ 2 = λ (is : n ≡ 2). none_is 2 is refl in
    rw (ne_eqb n 1 a, ne_eqb n 2 b)

number_step : (s : Step) → s ≡ step_of (step_number s)
number_step add = refl
number_step subtract = refl
number_step multiply = refl
number_step fused = refl

pub step_or_fused : (n : ℕ) (r : Result Step NoStep) → Steps n r → result_unwrap_or r fused ≡ step_of n
step_or_fused n (Ok s) e = number_step s ∙ ap step_of e
step_or_fused n (Err e) (inl z) = rw z
step_or_fused n (Err e) (inr h) =
    let a : n ≢ 1 = λ (is : n ≡ 1). omega arith in
    let b : n ≢ 2 = λ (is : n ≡ 2). omega arith in
    let c : n ≢ 3 = λ (is : n ≡ 3). omega arith in
    rw (ne_eqb n 1 a, ne_eqb n 2 b, ne_eqb n 3 c)
