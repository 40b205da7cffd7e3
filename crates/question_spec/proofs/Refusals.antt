-- The refusals of a question line, each from the facts that lead to it.
use mathlib.Core.Path.{◌≡◌, sym, ◌∙◌}
use mathlib.Core.List.{List}
use mathlib.Core.Bool.{true, false, ◌&&◌}
use Prim.Native.Nat.{ℕ}
use borrow.Author.Tests.{eq-eqb, ne_eqb}
use lib.ListN.{length, get_or}
use Rattle.pattern_spec.specs.Answer.{refused, is_done}
use Rattle.question_spec.specs.Ascii.{tab}
use Rattle.question_spec.specs.Questions.{question_size, letters_operation, all_digits, first_pattern, second_pattern, read_question}

pub length-refused : (s : List ℕ) → (length s ≡ question_size → ⊥) → refused 1 ≡ read_question s
unfolding read_question
length-refused s n = rw (ne_eqb (length s) question_size n)

module _ (s : List ℕ) (op : ℕ) (full : length s ≡ question_size) (is : op ≡ letters_operation s) where
  pub letters-refused : op ≡ 0 → refused 2 ≡ read_question s
  unfolding read_question
  letters-refused z = rw (eq-eqb (length s) question_size full, eq-eqb (letters_operation s) 0 (sym is ∙ z))

  module _ (known : op ≡ 0 → ⊥) where
    pub first-tab-refused : (get_or s 3 0 ≡ tab → ⊥) → refused 3 ≡ read_question s
    unfolding read_question
    first-tab-refused n = rw (eq-eqb (length s) question_size full, ne_eqb (letters_operation s) 0 (λ z. known (is ∙ z)), ne_eqb (get_or s 3 0) tab n)

    module _ (first : get_or s 3 0 ≡ tab) where
      pub second-tab-refused : (get_or s 12 0 ≡ tab → ⊥) → refused 3 ≡ read_question s
      unfolding read_question
      second-tab-refused n = rw (eq-eqb (length s) question_size full, ne_eqb (letters_operation s) 0 (λ z. known (is ∙ z)), eq-eqb (get_or s 3 0) tab first, ne_eqb (get_or s 12 0) tab n)

      module _ (second : get_or s 12 0 ≡ tab) where
        pub digits-refused : (all_digits (first_pattern s) && all_digits (second_pattern s)) ≡ false → refused 4 ≡ read_question s
        unfolding read_question
        digits-refused b = rw (eq-eqb (length s) question_size full, ne_eqb (letters_operation s) 0 (λ z. known (is ∙ z)), eq-eqb (get_or s 3 0) tab first, eq-eqb (get_or s 12 0) tab second, b)

        pub not-refused : (all_digits (first_pattern s) && all_digits (second_pattern s)) ≡ true → is_done (read_question s) ≡ true
        unfolding read_question
        not-refused b = rw (eq-eqb (length s) question_size full, ne_eqb (letters_operation s) 0 (λ z. known (is ∙ z)), eq-eqb (get_or s 3 0) tab first, eq-eqb (get_or s 12 0) tab second, b)
