-- The operations that a question asks for, and their numbers (R8.5): 1 sum, 2 difference, 3 product; any other number is none.
use Rattle.std.specs.Prelude.{ℕ, ◌≡◌, Bool, false, cond, ◌&&◌, eqb, leb, Result, MatchResult}
use Rattle.augmented_spec.specs.declared.NoOperation.{NoOperation}
use Rattle.augmented_spec.specs.declared.Operation.{Operation}
use Rattle.augmented_spec.specs.declared.Operation.TheVariants.{Sum as sum, Difference as difference, Product as product}

abbrev pub is_operation : ℕ → Bool
is_operation n = leb 1 n && leb n 3

abbrev pub operation_number : Operation → ℕ
operation_number sum = 1
operation_number difference = 2
operation_number product = 3

abbrev pub operation_of : ℕ → Operation
operation_of n = cond (eqb n 1) sum (cond (eqb n 2) difference product)

-- the operation that a number stands for, or that it stands for none
abbrev pub Numbers : ℕ → Result Operation NoOperation → Type 0
Numbers n r = MatchResult r (λ o. operation_number o ≡ n) (λ e. is_operation n ≡ false)
