-- The texts of the lines, as their fields follow one another, and how long they are.
use Prim.Native.Nat.{ℕ, ◌+◌, min}
use mathlib.Core.Path.{◌≡◌, ◌∙◌, ap}
use mathlib.Core.Bool.{Bool, true, false}
use mathlib.Core.List.{List, [], ◌∷◌, ◌++◌, append_assoc}
use native.Mathlib.Omega.{arith}
use lib.ListN.{length, get_or, length-append}
use Rattle.augmented_spec.specs.declared.Pair.{Pair}
use Rattle.worksheet_spec.specs.Lines.{most_lines}
use Rattle.question_spec.specs.Ascii.{ascii, tab, newline}
use Rattle.question_spec.specs.Questions.{operation_letters_by_number, pattern_text, question_text}
use Rattle.transcript_spec.specs.Texts.{
  decimal,
  step_of,
  step_letters_by_number,
  takes_two,
  third_text,
  flags_text,
  mark_text,
  line_of,
  ask_text,
  step_text,
  pair_text,
  steps_text,
  answered_text,
}
use Rattle.transcript_spec.proofs.FieldLaws.{letters-length, step-letters-length, third-unused, third-used}

-- what follows the letters of an `ask`
abbrev pub after_letters : ℕ → ℕ → List ℕ
after_letters x y = (tab ∷ pattern_text x) ++ ((tab ∷ pattern_text y) ++ (newline ∷ []))

pub ask-fields : (n o x y : ℕ) → ask_text n o x y ≡ ascii "ask\t" ++ (decimal n ++ ((tab ∷ []) ++ (operation_letters_by_number o ++ after_letters x y)))
unfolding ask_text question_text
ask-fields n o x y =
    ap (λ (t : List ℕ). ascii "ask\t" ++ (decimal n ++ (tab ∷ t))) (append_assoc (operation_letters_by_number o) (tab ∷ pattern_text x ++ (tab ∷ pattern_text y)) (newline ∷ []))

between : (a b c d : List ℕ) → length (a ++ (b ++ (c ++ d))) ≡ length a + (length b + (length c + length d))
between a b c d = rw (length-append a (b ++ (c ++ d)), length-append b (c ++ d), length-append c d)

pub ask-length : (n o x y : ℕ) → length (ask_text n o x y) ≡ 27 + length (decimal n)
ask-length n o x y =
    ap length (ask-fields n o x y)
    ∙ (between (ascii "ask\t") (decimal n) (tab ∷ []) (operation_letters_by_number o ++ after_letters x y)
    ∙ omega (arith, length-append (operation_letters_by_number o) (after_letters x y), letters-length o))

pub step-length : (n : ℕ) (words : List ℕ) → length (step_text n words) ≡ 40 + length (decimal n) + length (third_text (get_or words 0 0) (get_or words 3 0))
unfolding step_text
step-length n words =
    let o : ℕ = get_or words 0 0 in
    let third : List ℕ = third_text o (get_or words 3 0) in
    let rest : List ℕ = tab ∷ line_of (pattern_text (get_or words 4 0) ∷ mark_text (get_or words 5 0) ∷ []) in
    let after : List ℕ = tab ∷ pattern_text (get_or words 1 0) ++ (tab ∷ pattern_text (get_or words 2 0) ++ (tab ∷ third ++ rest)) in
    omega (arith, length-append (decimal n) (tab ∷ step_letters_by_number o ++ after), length-append (step_letters_by_number o) after, step-letters-length o, length-append third rest)

module _ (n : ℕ) (words : List ℕ) (two : Bool) (is : two ≡ takes_two (step_of (get_or words 0 0))) where
  pub step-length-two : two ≡ true → length (step_text n words) ≡ 41 + length (decimal n)
  step-length-two t = omega (arith, step-length n words, ap length (third-unused (get_or words 0 0) (get_or words 3 0) two t is))

  pub step-length-three : two ≡ false → length (step_text n words) ≡ 48 + length (decimal n)
  step-length-three f = omega (arith, step-length n words, ap length (third-used (get_or words 0 0) (get_or words 3 0) two f is))

pub pair-length : (p : Pair) → length (pair_text p) ≡ 24 + length (flags_text p.flags)
unfolding pair_text
pair-length p = omega (arith, length-append (flags_text p.flags) (newline ∷ []))

pub counts-length : (a b : ℕ) → length (line_of (decimal a ∷ decimal b ∷ [])) ≡ 2 + length (decimal a) + length (decimal b)
counts-length a b = omega (arith, length-append (decimal a) (tab ∷ decimal b ++ (newline ∷ [])), length-append (decimal b) (newline ∷ []))

pub answered-length : (n o x y : ℕ) (words : List ℕ) (lines : ℕ) (p : Pair)
    → length (answered_text n o x y words lines p) ≡ 51 + length (decimal n) + length (steps_text (min lines most_lines) 1 words) + length (flags_text p.flags)
unfolding answered_text
answered-length n o x y words lines p =
    let steps : List ℕ = steps_text (min lines most_lines) 1 words in
    omega (arith, length-append (ask_text n o x y) (steps ++ pair_text p), length-append steps (pair_text p), ask-length n o x y, pair-length p)
