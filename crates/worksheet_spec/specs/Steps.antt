-- The steps of lines, and their numbers (R5.22): 1 add, 2 subtract, 3 multiply, 4 fused; any other number is none.
use Rattle.std.specs.Prelude.{ℕ, ◌≡◌, ◌<◌, ◌⊎◌, Result, MatchResult}
use Rattle.worksheet_spec.specs.declared.NoStep.{NoStep}
use Rattle.worksheet_spec.specs.declared.Step.{Step}
use Rattle.worksheet_spec.specs.declared.Step.TheVariants.{Add as add, Subtract as subtract, Multiply as multiply, Fused as fused}

abbrev pub step_number : Step → ℕ
step_number add = 1
step_number subtract = 2
step_number multiply = 3
step_number fused = 4

-- the step that a number stands for, or that it stands for none
abbrev pub Numbers : ℕ → Result Step NoStep → Type 0
Numbers n r = MatchResult r (λ s. step_number s ≡ n) (λ e. (n ≡ 0) ⊎ (4 < n))
