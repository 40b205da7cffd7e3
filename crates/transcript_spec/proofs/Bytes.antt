-- Flags and lines, byte by byte.
use mathlib.Core.List.{[], ◌∷◌}
use Prim.Native.Nat.{ℕ, ◌+◌, min}
use Prim.Native.Char.{code}
use native.Mathlib.Omega.{arith}
use mathlib.Core.Path.{refl, ◌≡◌, ap}
use Rattle.question_spec.specs.Questions.{operation_letters_by_number, question_text}
use Rattle.transcript_spec.specs.Texts.{
  decimal_up_to,
  step_letters_by_number,
  third_text,
  flags_text,
  ask_text,
  step_text,
  pair_text,
  bad_text,
  total_text,
  end_text,
}
use Rattle.transcript_spec.specs.Theorems.{FlagTexts, StepFields, MarkTexts, LineFields, Example}

pub flag-texts : FlagTexts
unfolding flags_text
flag-texts = (refl, refl, refl, refl, refl, refl, refl, refl, refl, refl, refl, refl, refl, refl, refl, refl)

pub step-fields : StepFields
unfolding step_text step_letters_by_number third_text
step-fields n x y z r m more = (refl, refl, refl, refl)

pub mark-texts : MarkTexts
mark-texts = (refl, refl, λ m h. ap (λ (d : ℕ). d ∷ []) (let z : code "0" + min m 2 ≡ 50 = omega arith in z))

pub line-fields : LineFields
unfolding ask_text pair_text bad_text total_text end_text
line-fields = (λ n o x y. refl, λ first second f. refl, λ n k. refl, λ x y. refl, λ good bad. refl)

pub example : Example
unfolding ask_text question_text operation_letters_by_number decimal_up_to step_text step_letters_by_number third_text pair_text flags_text total_text end_text bad_text
example = (refl, refl, refl, refl, refl, refl, refl, refl, refl, refl, refl, refl, refl, refl, refl, refl, refl)
