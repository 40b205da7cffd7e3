-- The number of an answer tells the answer, so that no two have one number.
use mathlib.Core.Path.{◌≡◌, refl, sym, ap, ◌∙◌}
use mathlib.Core.Bool.{cond}
use Prim.Native.Nat.{ℕ}
use lib.Dec.{eqb}
use Rattle.std.specs.Prelude.{Result, Ok, Err}
use Rattle.pattern_spec.specs.Answer.{refusal_of}
use Rattle.accumulator_spec.specs.declared.NotDone.{NotDone}
use Rattle.accumulator_spec.specs.declared.NotDone.TheVariants.{Length, Unfit, NotFinite, Full, TooMany}
use Rattle.accumulator_spec.specs.Answers.{refusal_number, answer_of}

-- what a number says of a call that is not carried out
abbrev pub refusal_numbered : ℕ → NotDone
refusal_numbered n = cond (eqb n 5) Length (cond (eqb n 6) Unfit (cond (eqb n 7) NotFinite (cond (eqb n 8) Full TooMany)))

-- and of any: 0 that it is carried out
abbrev pub numbered : ℕ → Result (Unit {0}) NotDone
numbered n = cond (eqb n 0) (Ok tt) (Err (refusal_numbered n))

pub told-refusal : (reason : NotDone) → refusal_numbered (refusal_number reason) ≡ reason
told-refusal Length = refl
told-refusal Unfit = refl
told-refusal NotFinite = refl
told-refusal Full = refl
told-refusal TooMany = refl

-- adding, joining, carrying over, and clearing
pub told : (answer : Result (Unit {0}) NotDone) → numbered (refusal_of (answer_of answer)) ≡ answer
told (Ok x) = refl
told (Err Length) = refl
told (Err Unfit) = refl
told (Err NotFinite) = refl
told (Err Full) = refl
told (Err TooMany) = refl

-- ---- two at once
pub one-refusal : (a b : NotDone) → refusal_number a ≡ refusal_number b → a ≡ b
one-refusal a b e = sym (told-refusal a) ∙ ap refusal_numbered e ∙ told-refusal b

pub one-answer : (a b : Result (Unit {0}) NotDone) → refusal_of (answer_of a) ≡ refusal_of (answer_of b) → a ≡ b
one-answer a b e = sym (told a) ∙ ap numbered e ∙ told b
