-- The fields of the lines: letters, third operand and flags, by cases, and their lengths.
use Prim.Native.Nat.{ℕ, ◌+◌, ◌/◌, ◌≤◌}
use Prim.Native.Char.{code}
use mathlib.Core.Path.{◌≡◌, refl, sym, ◌∙◌}
use mathlib.Core.Logic.{◌≢◌}
use mathlib.Core.Bool.{Bool, true, false, cond, ◌||◌}
use mathlib.Core.List.{List, [], ◌∷◌, ◌++◌}
use native.Mathlib.Omega.{arith}
use borrow.Author.Tests.{eq-eqb, ne_eqb, eqb-true, eqb-false}
use mir.Val.{bool_byte}
use lib.Dec.{eqb}
use lib.ListN.{length, get_or, length-append}
use Rattle.augmented_spec.specs.declared.Flags.{Flags}
use Rattle.augmented_spec.specs.Operations.{operation_of}
use Rattle.worksheet_spec.specs.declared.Step.{Step}
use Rattle.worksheet_spec.specs.declared.Step.TheVariants.{Add as add, Subtract as subtract, Multiply as multiply, Fused as fused}
use Rattle.worksheet_spec.specs.Steps.{step_number}
use Rattle.question_spec.specs.Ascii.{ascii}
use Rattle.question_spec.specs.Questions.{operation_letters_by_number, pattern_text}
use Rattle.question_spec.proofs.ThreeLetters.{three-letters}
use Rattle.transcript_spec.specs.Inner.{half_text}
use Rattle.transcript_spec.specs.Texts.{step_of, step_letters, step_letters_by_number, takes_two, third_text, flag_letter, flag_letters, flags_text}

pub letters-length : (o : ℕ) → length (operation_letters_by_number o) ≡ 3
unfolding operation_letters_by_number
letters-length o = three-letters (operation_of o)

step-letters : (s : Step) → length (step_letters s) ≡ 3
step-letters add = refl
step-letters subtract = refl
step-letters multiply = refl
step-letters fused = refl

pub step-letters-length : (o : ℕ) → length (step_letters_by_number o) ≡ 3
unfolding step_letters_by_number
step-letters-length o = step-letters (step_of o)

-- three letters, one by one
pub by-letters : (t l : List ℕ) → t ≡ l → length l ≡ 3 → (get_or t 0 0 ∷ get_or t 1 0 ∷ get_or t 2 0 ∷ []) ≡ l
by-letters t (a ∷ b ∷ c ∷ []) e h = rw e
by-letters t [] e h = absurd (omega arith)
by-letters t (a ∷ []) e h = absurd (omega arith)
by-letters t (a ∷ b ∷ []) e h = absurd (omega arith)
by-letters t (a ∷ b ∷ c ∷ d ∷ l) e h = absurd (omega arith)

-- ---- patterns
pub halves : (x : ℕ) → half_text (x / 65536) ++ half_text x ≡ pattern_text x
halves x =
    let a : x / 65536 / 4096 ≡ x / 268435456 = omega arith in
    let b : x / 65536 / 256 ≡ x / 16777216 = omega arith in
    let c : x / 65536 / 16 ≡ x / 1048576 = omega arith in
    rw (a, b, c)

-- ---- the third operand
of-step : (a b c : Bool) → takes_two (cond a add (cond b subtract (cond c multiply fused))) ≡ (a || (b || c))
of-step true b c = refl
of-step false true c = refl
of-step false false true = refl
of-step false false false = refl

abbrev one_of_two : ℕ → Bool
one_of_two o = eqb o (step_number add) || (eqb o (step_number subtract) || eqb o (step_number multiply))

by_number : (o : ℕ) → takes_two (step_of o) ≡ one_of_two o
by_number o = of-step (eqb o (step_number add)) (eqb o (step_number subtract)) (eqb o (step_number multiply))

any_of : (a b c : Bool) (o : ℕ) → (a ≡ false → o ≢ step_number add) → (b ≡ false → o ≢ step_number subtract) → (c ≡ false → o ≢ step_number multiply)
    → step_number add ≤ o → o ≤ step_number multiply → true ≡ (a || (b || c))
any_of true b c o p q r h k = refl
any_of false true c o p q r h k = refl
any_of false false true o p q r h k = refl
any_of false false false o p q r h k = absurd (omega (arith, p refl, q refl, r refl))

pub takes_two_lem : (o : ℕ) → step_number add ≤ o → o ≤ step_number multiply → true ≡ takes_two (step_of o)
takes_two_lem o h k =
    any_of (eqb o (step_number add)) (eqb o (step_number subtract)) (eqb o (step_number multiply)) o (eqb-false o (step_number add)) (eqb-false o (step_number subtract))
    (eqb-false o (step_number multiply)) h k ∙ sym (by_number o)

pub takes-three : (o : ℕ) → (step_number add ≤ o → o ≤ step_number multiply → ⊥) → false ≡ takes_two (step_of o)
takes-three o n =
    let a : o ≢ step_number add = λ e. n (omega arith) (omega arith) in
    let b : o ≢ step_number subtract = λ e. n (omega arith) (omega arith) in
    let c : o ≢ step_number multiply = λ e. n (omega arith) (omega arith) in
    rw (ne_eqb o (step_number add) a, ne_eqb o (step_number subtract) b, ne_eqb o (step_number multiply) c)

pub third-unused : (o z : ℕ) (two : Bool) → two ≡ true → two ≡ takes_two (step_of o) → third_text o z ≡ ascii "-"
unfolding third_text
third-unused o z two t e = rw (sym e ∙ t)

pub third-used : (o z : ℕ) (two : Bool) → two ≡ false → two ≡ takes_two (step_of o) → third_text o z ≡ pattern_text z
unfolding third_text
third-used o z two f e = rw (sym e ∙ f)

or-pattern : (b : Bool) (t : List ℕ) → length t ≡ 8 → length (cond b (ascii "-") t) ≤ 8
or-pattern true t e = omega arith
or-pattern false t e = omega arith

pub third-most : (o z : ℕ) → length (third_text o z) ≤ 8
unfolding third_text
third-most o z = or-pattern (takes_two (step_of o)) (pattern_text z) refl

-- ---- flags
pub empty : (l : List ℕ) → length l ≡ 0 → l ≡ []
empty [] e = refl
empty (a ∷ l) e = absurd (omega arith)

pub flag-letters-length : (f : Flags) → length (flag_letters f) ≡ length (flag_letter f.invalid (code "I"))
    + (length (flag_letter f.overflow (code "O")) + (length (flag_letter f.underflow (code "U")) + length (flag_letter f.inexact (code "X"))))
flag-letters-length f =
    rw (
      length-append (flag_letter f.invalid (code "I")) (flag_letter f.overflow (code "O") ++ (flag_letter f.underflow (code "U") ++ flag_letter f.inexact (code "X"))),
      length-append (flag_letter f.overflow (code "O")) (flag_letter f.underflow (code "U") ++ flag_letter f.inexact (code "X")),
      length-append (flag_letter f.underflow (code "U")) (flag_letter f.inexact (code "X")),
    )

flag-letter-length : (b : Bool) (c : ℕ) → length (flag_letter b c) ≡ bool_byte b
flag-letter-length true c = refl
flag-letter-length false c = refl

pub byte-most : (b : Bool) → bool_byte b ≤ 1
byte-most true = omega arith
byte-most false = omega arith

-- as many letters as flags are raised
pub flag-letters-count : (f : Flags) → bool_byte f.invalid + bool_byte f.overflow + bool_byte f.underflow + bool_byte f.inexact ≡ length (flag_letters f)
flag-letters-count f =
    omega (
      arith,
      flag-letters-length f,
      flag-letter-length f.invalid (code "I"),
      flag-letter-length f.overflow (code "O"),
      flag-letter-length f.underflow (code "U"),
      flag-letter-length f.inexact (code "X"),
    )

pub no-flags : (f : Flags) → length (flag_letters f) ≡ 0 → flags_text f ≡ ascii "-"
unfolding flags_text
no-flags f e = rw (eq-eqb (length (flag_letters f)) 0 e)

pub some-flags : (f : Flags) → (length (flag_letters f) ≡ 0 → ⊥) → flags_text f ≡ flag_letters f
unfolding flags_text
some-flags f n = rw (ne_eqb (length (flag_letters f)) 0 n)

longer : (b : Bool) (l : List ℕ) → (b ≡ true → length l ≡ 0) → (b ≡ false → length l ≢ 0) → (length l ≤ length (cond b (ascii "-") l)) × (1 ≤ length (cond b (ascii "-") l))
longer true l p q = (omega (arith, p refl), omega arith)
longer false l p q = (omega arith, omega (arith, q refl))

pub flags-room : (f : Flags) → (length (flag_letters f) ≤ length (flags_text f)) × (1 ≤ length (flags_text f))
unfolding flags_text
flags-room f = longer (eqb (length (flag_letters f)) 0) (flag_letters f) (eqb-true (length (flag_letters f)) 0) (eqb-false (length (flag_letters f)) 0)

flag-letter-most : (b : Bool) (c : ℕ) → length (flag_letter b c) ≤ 1
flag-letter-most true c = omega arith
flag-letter-most false c = omega arith

most : (b : Bool) (l : List ℕ) → length l ≤ 4 → length (cond b (ascii "-") l) ≤ 4
most true l h = omega arith
most false l h = h

pub flags-most : (f : Flags) → length (flags_text f) ≤ 4
unfolding flags_text
flags-most f =
    most (eqb (length (flag_letters f)) 0) (flag_letters f)
    (rw (flag-letters-length f) (omega (
      arith,
      flag-letter-most f.invalid (code "I"),
      flag-letter-most f.overflow (code "O"),
      flag-letter-most f.underflow (code "U"),
      flag-letter-most f.inexact (code "X"),
    )))
