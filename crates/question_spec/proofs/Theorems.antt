-- Proofs of the statements about question lines (specs/Theorems.antt).
use Prim.Native.Nat.{ℕ}
use mathlib.Core.Path.{◌≡◌, refl, sym}
use mathlib.Core.Logic.{◌≢◌, inl, inr, ⊎_elim}
use mathlib.Core.Bool.{Bool, true, false, ◌&&◌}
use mathlib.Core.List.{List}
use native.Mathlib.Omega.{arith}
use borrow.Author.Tests.{eqb-true, eqb-false}
use lib.Dec.{eqb}
use lib.ListN.{length, get_or}
use Rattle.pattern_spec.specs.Answer.{refused, is_done}
use Rattle.augmented_spec.specs.declared.Operation.TheVariants.{Sum as sum, Difference as difference, Product as product}
use Rattle.question_spec.specs.Ascii.{tab}
use Rattle.question_spec.specs.Questions.{letters_operation, all_digits, first_pattern, second_pattern, read_question}
use Rattle.question_spec.specs.Theorems.{
  HasLetters,
  HasTabs,
  InPattern,
  Hexadecimal,
  QuestionBytes,
  AsciiBytes,
  RefusedInOrder,
  LettersKnown,
  ReadBack,
  OnlyText,
  All,
}
use Rattle.question_spec.proofs.Refusals.{length-refused, letters-refused, first-tab-refused, second-tab-refused, digits-refused, not-refused}
use Rattle.question_spec.proofs.ThreeLetters.{of-letters, unknown}
use Rattle.question_spec.proofs.Bytes.{digits-at, digits-everywhere}
use Rattle.question_spec.proofs.Texts.{pattern-texts, question-texts}
use Rattle.question_spec.proofs.Whole.{is-text, text-read}

pub letters-known : LettersKnown
letters-known line = (of-letters line sum, of-letters line difference, of-letters line product)

module _ (line : List ℕ) (full : length line ≡ 21) (letters : HasLetters line) where
  known : letters_operation line ≢ 0
  known z =
      let name = letters-known line in
      ⊎_elim (λ e. omega (arith, name.0 e)) (⊎_elim (λ e. omega (arith, name.1 e)) (λ e. omega (arith, name.2 e))) letters

  tab-refused : (b : Bool) → (b ≡ true → get_or line 3 0 ≡ tab) → (b ≡ false → get_or line 3 0 ≢ tab) → (HasTabs line → ⊥) → refused 3 ≡ read_question line
  tab-refused true p q n = second-tab-refused line (letters_operation line) full refl known (p refl) (λ e. n (p refl, e))
  tab-refused false p q n = first-tab-refused line (letters_operation line) full refl known (q refl)

  module _ (tabs : HasTabs line) where
    digit-refused : (b : Bool) → (all_digits (first_pattern line) && all_digits (second_pattern line)) ≡ b → (i : ℕ) → InPattern i → (Hexadecimal (get_or line i 0) → ⊥)
        → refused 4 ≡ read_question line
    digit-refused true is i place n = absurd (n (digits-at line full is i place))
    digit-refused false is i place n = digits-refused line (letters_operation line) full refl known tabs.0 tabs.1 is

    digits-read : ((i : ℕ) → InPattern i → Hexadecimal (get_or line i 0)) → is_done (read_question line) ≡ true
    digits-read each = not-refused line (letters_operation line) full refl known tabs.0 tabs.1 (digits-everywhere line full each)

pub refused-in-order : RefusedInOrder
refused-in-order line = (
  λ n. sym (length-refused line n),
  λ full n. sym (letters-refused line (letters_operation line) full refl (unknown line (omega arith) (λ e. n (inl e)) (λ e. n (inr (inl e))) (λ e. n (inr (inr e))))),
  λ full letters n. sym (tab-refused line full letters (eqb (get_or line 3 0) tab) (eqb-true (get_or line 3 0) tab) (eqb-false (get_or line 3 0) tab) n),
  λ full letters tabs i place n. sym (digit-refused line full letters tabs (all_digits (first_pattern line) && all_digits (second_pattern line)) refl i place n),
  digits-read line,
)

pub read_back : ReadBack
read_back o x y known low low2 = text-read x y low low2 o known

pub only-text : OnlyText
only-text line o x y = is-text line o x y

pub question-bytes : QuestionBytes
question-bytes = refl

pub ascii-bytes : AsciiBytes
ascii-bytes = (refl, refl, refl)

pub all : All
all = (question-bytes, ascii-bytes, refused-in-order, letters-known, pattern-texts, question-texts, read_back, only-text)
