-- What a join answers and leaves, case by case.
use mathlib.Core.Path.{◌≡◌, sym, ap, ◌∙◌}
use mathlib.Core.Bool.{true, false}
use mathlib.Core.List.{List}
use Prim.Native.Nat.{ℕ, ◌+◌, ◌<◌}
use native.Mathlib.Decide.{dec_le}
use native.Mathlib.Omega.{arith}
use borrow.Author.Tests.{le-leb, lt-leb}
use Rattle.std.proofs.Common.{Ok, Err}
use Rattle.pattern_spec.specs.Answer.{Answer, refused}
use Rattle.accumulator_spec.specs.declared.NotDone.{NotDone}
use Rattle.accumulator_spec.specs.Answers.{answer_of}
use Rattle.accumulator_spec.specs.Totals.{most_terms, count}
use Rattle.accumulator_spec.specs.Joins.{room_for_both, joining, Joins}
use Rattle.accumulator_spec.proofs.Joining.{first-length, first-unfit, second-length, second-unfit, too_many, joins, refused-join, after-joined}
use Rattle.accumulator_fit.specs.Inner.{fault}
use Rattle.accumulator_fit.proofs.Lent.{Sound, by_fault, sound}
use Rattle.accumulator_join.specs.Inner.{JoinsFit}

module _ (f s : List ℕ) where
  -- ---- refusals
  refuses : (n : ℕ) → joining f s ≡ refused n → Joins f s (refused n) f
  refuses n h = (sym h, sym (refused-join f s n h))

  as-refused : (e : NotDone) (n : ℕ) → answer_of (Err e) ≡ refused n → joining f s ≡ refused n → Joins f s (answer_of (Err e)) f
  as-refused e n is h = let k = refuses n h in (is ∙ k.0, k.1)

  pub first-wrong : (e : NotDone) → Err e ≡ fault f → Joins f s (answer_of (Err e)) f
  first-wrong e is =
      by_fault f (λ h n. as-refused e 5 (ap answer_of (is ∙ n)) (first-length f s h)) (λ h n. as-refused e 6 (ap answer_of (is ∙ n)) (first-unfit f s h.0 h.1))
      (λ h n. absurd cc)

  pub second-wrong : Ok tt ≡ fault f → (e : NotDone) → Err e ≡ fault s → Joins f s (answer_of (Err e)) f
  second-wrong ok e is =
      let k = sound f (sym ok) in
      by_fault s (λ h n. as-refused e 5 (ap answer_of (is ∙ n)) (second-length f s k.0 k.1 h)) (λ h n. as-refused e 6 (ap answer_of (is ∙ n)) (second-unfit f s k.0 k.1 h.0 h.1))
      (λ h n. absurd cc)

  -- ---- two fit totals
  pub both-fit : Sound f → Sound s → (a : Answer (Unit {0})) (after : List ℕ) → JoinsFit f s a after → Joins f s a after
  both-fit k also a after j =
      elim (dec_le (count f + count s) most_terms) [
        | yes h ↦
            let d = joins f s k.0 k.1 also.0 also.1 h in
            let r : room_for_both f s ≡ true = le-leb (count f + count s) most_terms h in
            ((rw r at j.0) ∙ sym d, (rw r at j.1) ∙ sym (after-joined f s d))
        | no h ↦
            let l : most_terms < count f + count s = omega arith in
            let r : room_for_both f s ≡ false = lt-leb (count f + count s) most_terms l in
            let q = refuses 12 (too_many f s k.0 k.1 also.0 also.1 l) in
            ((rw r at j.0) ∙ q.0, (rw r at j.1) ∙ q.1)
      ]
