-- What a line is read as, and why it is refused, from what the functions below `read` hand back.
use Rattle.std.proofs.Common.{◌≡◌, refl, ◌∙◌, ap, ℕ, List, length, get_or, true, false, Some, None, Ok, Err}
use Rattle.std.specs.Prelude.{Option, Result, IsErr, IsErrAnd}
use Rattle.std.specs.Option.{ok_or}
use mathlib.Core.Bool.{Bool, ◌&&◌}
use borrow.Author.Tests.{eq-eqb, ne_eqb}
use Rattle.pattern_spec.specs.Answer.{Answer, refused}
use Rattle.augmented_spec.specs.declared.Operation.{Operation}
use Rattle.augmented_spec.specs.declared.Operation.TheVariants.{Sum as sum, Difference as difference, Product as product}
use Rattle.augmented_spec.specs.Operations.{operation_number}
use Rattle.question_spec.specs.Ascii.{tab}
use Rattle.question_spec.specs.Questions.{question_size, Asked, letters_operation, all_digits, pattern_from, first_pattern, second_pattern, asked, read_question}
use Rattle.question_spec.specs.Answers.{answer_question, refusal_number}
use Rattle.question_spec.specs.declared.Question.{Question}
use Rattle.question_spec.specs.declared.NotAsked.{NotAsked}
use Rattle.question_spec.proofs.Refusals.{letters-refused, first-tab-refused, second-tab-refused, digits-refused}
use Rattle.question.specs.Inner.{digits_read, number_or_0}
use Rattle.question.proofs.Chosen.{some-chosen, none-chosen}

-- ---- what `?` hands on
pub handed-on : (r : Result Question NotAsked) (e why : NotAsked) → IsErr r × IsErrAnd r (λ k. k ≡ e) → e ≡ why → answer_question r ≡ refused (refusal_number why)
handed-on (Ok question) e why h is = cc (h.0)
handed-on (Err k) e why h is = ap {B = Answer Asked} (λ (n : NotAsked). refused (refusal_number n)) (h.1 ∙ is)

pub found : {A : Type 0} (o : Option A) (x : A) (why : NotAsked) → ◌≡◌ {A = Result A NotAsked} (Ok x) (ok_or o why) → Some x ≡ o
found None x why e = cc
found (Some y) x why e = cc

pub missing : {A : Type 0} (o : Option A) (e why : NotAsked) → ◌≡◌ {A = Result A NotAsked} (Err e) (ok_or o why) → (◌≡◌ {A = Option A} None o) × (e ≡ why)
missing None e why h = (refl, cc)
missing (Some y) e why h = cc

-- ---- letters and tabs
no_zero : (o : Operation) → operation_number o ≡ 0 → ⊥
no_zero sum e = cc
no_zero difference e = cc
no_zero product e = cc

module _ (s : List ℕ) (full : length s ≡ question_size) where
  pub no-letters : (r : Option Operation) → ◌≡◌ {A = Option Operation} None r → number_or_0 r ≡ letters_operation s → refused 2 ≡ read_question s
  no-letters r e is = letters-refused s 0 full (ap number_or_0 e ∙ is) refl

  module _ (r : Option Operation) (o : Operation) (is : number_or_0 r ≡ letters_operation s) (e : Some o ≡ r) where
    known : operation_number o ≡ letters_operation s
    known = ap number_or_0 e ∙ is

    pub no-first-tab : (get_or s 3 0 ≡ tab → ⊥) → refused 3 ≡ read_question s
    no-first-tab n = first-tab-refused s (operation_number o) full known (no_zero o) n

    module _ (first : get_or s 3 0 ≡ tab) where
      pub no-second-tab : (get_or s 12 0 ≡ tab → ⊥) → refused 3 ≡ read_question s
      no-second-tab n = second-tab-refused s (operation_number o) full known (no_zero o) first n

      -- ---- the patterns
      module _ (second : get_or s 12 0 ≡ tab) where
        not-digits : (all_digits (first_pattern s) && all_digits (second_pattern s)) ≡ false → refused 4 ≡ read_question s
        not-digits b = digits-refused s (operation_number o) full known (no_zero o) first second b

        pub first-refused : ◌≡◌ {A = Option ℕ} None (digits_read (first_pattern s)) → refused 4 ≡ read_question s
        first-refused n = not-digits (ap (λ (b : Bool). b && all_digits (second_pattern s)) (none-chosen (all_digits (first_pattern s)) (pattern_from 0 (first_pattern s)) n))

        module _ (x : ℕ) (xs : ◌≡◌ {A = Option ℕ} (Some x) (digits_read (first_pattern s))) where
          is-first : (all_digits (first_pattern s) ≡ true) × (x ≡ pattern_from 0 (first_pattern s))
          is-first = some-chosen (all_digits (first_pattern s)) (pattern_from 0 (first_pattern s)) x xs

          pub second-refused : ◌≡◌ {A = Option ℕ} None (digits_read (second_pattern s)) → refused 4 ≡ read_question s
          second-refused n = not-digits (rw is-first.0 (none-chosen (all_digits (second_pattern s)) (pattern_from 0 (second_pattern s)) n))

          pub taken : (y : ℕ) → ◌≡◌ {A = Option ℕ} (Some y) (digits_read (second_pattern s)) → asked (operation_number o) x y ≡ read_question s
          unfolding read_question
          taken y ys =
              let b = some-chosen (all_digits (second_pattern s)) (pattern_from 0 (second_pattern s)) y ys in
              rw (
                eq-eqb (length s) question_size full,
                ne_eqb (letters_operation s) 0 (λ z. no_zero o (known ∙ z)),
                eq-eqb (get_or s 3 0) tab first,
                eq-eqb (get_or s 12 0) tab second,
                is-first.0,
                b.0,
                known,
                is-first.1,
                b.1,
              )
