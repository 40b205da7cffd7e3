-- What is wrong with lent words, as reading answers it.
use Rattle.std.proofs.Common.{◌≡◌, ℕ, List, Result, Ok, Err, sym, ap, ◌∙◌}
use Rattle.pattern_spec.specs.Answer.{Answer, refused}
use Rattle.accumulator_spec.specs.declared.NotDone.{NotDone}
use Rattle.accumulator_spec.specs.Totals.{TwoPatterns, pair_read, reading}
use Rattle.accumulator_spec.specs.Answers.{refusal_number, answer_read}
use Rattle.accumulator_spec.proofs.Answers.{reading-length, reading-unfit}
use Rattle.accumulator_fit.specs.Inner.{fault}
use Rattle.accumulator_fit.proofs.Lent.{by_fault}

-- a refusal as an answer to reading
abbrev as-read : Result (Unit {0}) NotDone → Answer TwoPatterns
as-read (Ok x) = pair_read 0 0
as-read (Err e) = refused (refusal_number e)

pub fault-read : (t : List ℕ) (e : NotDone) → Err e ≡ fault t → answer_read (Err e) ≡ reading t
fault-read t e is =
    by_fault t (λ h n. ap as-read (is ∙ n) ∙ sym (reading-length t h)) (λ h n. ap as-read (is ∙ n) ∙ sym (reading-unfit t h.0 h.1)) (λ h n. absurd cc)
