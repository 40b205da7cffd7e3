-- A line that is read as a question is the question's text, and the text is read back.
use Prim.Native.Nat.{ℕ, ◌^◌, ◌≤◌, ◌<◌}
use mathlib.Core.Path.{◌≡◌, refl, ap, ◌∙◌}
use mathlib.Core.Logic.{◌⊎◌, inl, inr, ⊎_elim}
use mathlib.Core.Bool.{Bool, true, false, cond, not, ◌&&◌, ◌||◌}
use mathlib.Core.List.{List, ◌∷◌, ◌++◌}
use native.Mathlib.Decide.{dec_le}
use native.Mathlib.Omega.{arith}
use borrow.Author.Tests.{eqb-true, eqb-false, leb-true}
use lib.Dec.{eqb, leb}
use lib.ListN.{length, get_or, take, drop, take-append-drop, length-drop}
use lib.Seq.{drop-cons, drop-drop, take_all, length-take-le}
use Rattle.pattern_spec.specs.Answer.{refused}
use Rattle.pattern_spec.proofs.Truth.{both_of}
use Rattle.augmented_spec.specs.declared.Operation.TheVariants.{Sum as sum, Difference as difference, Product as product}
use Rattle.augmented_spec.specs.Operations.{is_operation, operation_number}
use Rattle.question_spec.specs.Ascii.{tab}
use Rattle.question_spec.specs.Questions.{
  Asked,
  question_size,
  operation_letters_by_number,
  letters_operation,
  all_digits,
  pattern_from,
  first_pattern,
  second_pattern,
  asked,
  read_question,
  pattern_text,
  question_text,
}
use Rattle.question_spec.proofs.EightDigits.{text-back, text-digits, text-value}
use Rattle.question_spec.proofs.ThreeLetters.{known}

-- a question that is asked has one operation and one pair of patterns
same-question : (p q r o x y : ℕ) → asked p q r ≡ asked o x y → (p ≡ o) × (q ≡ x) × (r ≡ y)
same-question p q r o x y e =
    let i : ◌≡◌ {A = Asked} (record { operation = p; x = q; y = r }) (record { operation = o; x = x; y = y }) = cc in
    (ap (λ (a : Asked). a.operation) i, ap (λ (a : Asked). a.x) i, ap (λ (a : Asked). a.y) i)

-- which tests a line passed
passed : (a b c d : Bool) (p q r o x y : ℕ) → cond (not a) (refused 1) (cond b (refused 2) (cond c (refused 3) (cond (not d) (refused 4) (asked p q r)))) ≡ asked o x y
    → (a ≡ true) × (b ≡ false) × (c ≡ false) × (d ≡ true) × (p ≡ o) × (q ≡ x) × (r ≡ y)
passed true false false true p q r o x y e = let s = same-question p q r o x y e in (refl, refl, refl, refl, s.0, s.1, s.2)
passed true false false false p q r o x y e = let z : ◌≡◌ {A = ℕ} 0 1 = cc in absurd (omega arith)
passed true false true d p q r o x y e = let z : ◌≡◌ {A = ℕ} 0 1 = cc in absurd (omega arith)
passed true true c d p q r o x y e = let z : ◌≡◌ {A = ℕ} 0 1 = cc in absurd (omega arith)
passed false b c d p q r o x y e = let z : ◌≡◌ {A = ℕ} 0 1 = cc in absurd (omega arith)

both : (a b : Bool) → (not a || not b) ≡ false → (a ≡ true) × (b ≡ true)
both true true e = (refl, refl)
both true false e = let z : ◌≡◌ {A = ℕ} 0 1 = cc in absurd (omega arith)
both false b e = let z : ◌≡◌ {A = ℕ} 0 1 = cc in absurd (omega arith)

-- a line of the right length is its letters, a tab, a pattern, a tab and a pattern
assembled : (line three first second : List ℕ) → length line ≡ question_size → get_or line 3 0 ≡ tab → get_or line 12 0 ≡ tab → take 3 line ≡ three → first_pattern line ≡ first → second_pattern line
    ≡ second
    → line ≡ three ++ (tab ∷ first ++ (tab ∷ second))
assembled line three first second full first-tab second-tab e f g =
    let a = take-append-drop 3 line in
    let b = drop-cons line 3 0 (omega arith) in
    let c = take-append-drop 8 (drop 4 line) in
    let d = drop-drop 8 4 line in
    let h = drop-cons line 12 0 (omega arith) in
    let k : length (drop 13 line) ≤ 8 = rw (length-drop 13 line) (omega arith) in
    let l = take_all 8 (drop 13 line) k in
    cc (a, b, c, d, h, l)

module _ (line : List ℕ) (o x y : ℕ) where
  eight : (n : ℕ) → length line ≡ question_size → n ≤ 13 → length (take 8 (drop n line)) ≡ 8
  eight n full h = length-take-le 8 (drop n line) (rw (length-drop n line) (omega arith))

  pub is-text : read_question line ≡ asked o x y → (line ≡ question_text o x y) × (is_operation o ≡ true) × (x < 2 ^ 32) × (y < 2 ^ 32)
  unfolding read_question question_text
  is-text e =
      let p =
      passed (eqb (length line) question_size) (eqb (letters_operation line) 0) (not (eqb (get_or line 3 0) tab) || not (eqb (get_or line 12 0) tab))
      (all_digits (first_pattern line) && all_digits (second_pattern line)) (letters_operation line) (pattern_from 0 (first_pattern line)) (pattern_from 0 (second_pattern line)) o x y e in
      let full = eqb-true (length line) question_size p.0 in
      let tabs = both (eqb (get_or line 3 0) tab) (eqb (get_or line 12 0) tab) p.2 in
      let digits = both_of (all_digits (first_pattern line)) (all_digits (second_pattern line)) p.3 in
      let word = known line (omega arith) o p.4 (λ z. eqb-false (letters_operation line) 0 p.1 (p.4 ∙ z)) in
      let first = text-back (first_pattern line) x (eight 4 full (omega arith)) digits.0 p.5 in
      let second = text-back (second_pattern line) y (eight 13 full (omega arith)) digits.1 p.6 in (
        assembled line (operation_letters_by_number o) (pattern_text x) (pattern_text y) full (eqb-true (get_or line 3 0) tab tabs.0)
            (eqb-true (get_or line 12 0) tab tabs.1) word.0 first.1 second.1,
        word.1,
        first.0,
        second.0,
      )

-- the number of an operation is one of the three
one_of : (o : ℕ) → is_operation o ≡ true → (o ≡ operation_number sum) ⊎ ((o ≡ operation_number difference) ⊎ (o ≡ operation_number product))
one_of o known =
    let low = both_of (leb (operation_number sum) o) (leb o (operation_number product)) known in
    let h = leb-true (operation_number sum) o low.0 in
    let k = leb-true o (operation_number product) low.1 in
    elim (dec_le o (operation_number sum)) [
      | yes a ↦ inl (omega arith)
      | no a ↦ elim (dec_le o (operation_number difference)) [ yes b ↦ inr (inl (omega arith)) | no b ↦ inr (inr (omega arith)) ]
    ]

module _ (x y : ℕ) (low : x < 2 ^ 32) (low2 : y < 2 ^ 32) where
  sum-read : read_question (question_text (operation_number sum) x y) ≡ asked (operation_number sum) x y
  unfolding read_question question_text operation_letters_by_number letters_operation
  sum-read = rw (text-digits x, text-digits y, text-value x low, text-value y low2)

  difference-read : read_question (question_text (operation_number difference) x y) ≡ asked (operation_number difference) x y
  unfolding read_question question_text operation_letters_by_number letters_operation
  difference-read = rw (text-digits x, text-digits y, text-value x low, text-value y low2)

  product-read : read_question (question_text (operation_number product) x y) ≡ asked (operation_number product) x y
  unfolding read_question question_text operation_letters_by_number letters_operation
  product-read = rw (text-digits x, text-digits y, text-value x low, text-value y low2)

  pub text-read : (o : ℕ) → is_operation o ≡ true → read_question (question_text o x y) ≡ asked o x y
  text-read o h = ⊎_elim (λ e. rw e sum-read) (⊎_elim (λ e. rw e difference-read) (λ e. rw e product-read)) (one_of o h)
