-- The refusals of an adding call, but for an operand that is not finite.
use Rattle.std.proofs.Common.{◌≡◌, ℕ, true, List, Err, ap, ◌∙◌}
use Rattle.pattern_spec.specs.Answer.{Answer, refused, refusal_of}
use Rattle.accumulator_spec.specs.declared.NotDone.{NotDone}
use Rattle.accumulator_spec.specs.Totals.{most_terms, count, Term, finite_operands, Adds}
use Rattle.accumulator_spec.specs.Answers.{answer_of}
use Rattle.accumulator_spec.proofs.Answers.{adding-length, adding-unfit, adding-full, refuses}
use Rattle.accumulator_fit.specs.Inner.{fault}
use Rattle.accumulator_fit.proofs.Lent.{Sound, by_fault}

-- an answer by its number
pub by-refusal : {P : Type 0} {n : ℕ} {b : Answer (Unit {0})} (a : Answer (Unit {0})) → n ≡ refusal_of a → (a ≡ b) × P → (n ≡ refusal_of b) × P
by-refusal a e r = (e ∙ ap (refusal_of {A = Unit {0}}) r.0, r.1)

module _ (t : List ℕ) (x : Term) where
  pub fault-adds : (e : NotDone) → Err e ≡ fault t → Adds t x (answer_of (Err e)) t
  fault-adds e is =
      by_fault t (λ h n. let k = refuses t x 5 (adding-length t x h) in (ap answer_of (is ∙ n) ∙ k.0, k.1))
      (λ h n. let k = refuses t x 6 (adding-unfit t x h.0 h.1) in (ap answer_of (is ∙ n) ∙ k.0, k.1))
      (λ h n. absurd cc)

  pub full-adds : Sound t → finite_operands x ≡ true → count t ≡ most_terms → Adds t x (refused 8) t
  full-adds h o n = refuses t x 8 (adding-full t x h.0 h.1 o n)
