-- The steps of a sheet: one more of them, fewer of them are no longer, and how long they are at most.
use Prim.Native.Nat.{ℕ, zero, suc, ◌+◌, ◌*◌, ◌-◌, ◌≤◌, ◌<◌}
use mathlib.Core.Path.{◌≡◌, sym, ◌∙◌, ap}
use mathlib.Core.Logic.{⊎_elim}
use mathlib.Core.List.{List, ◌++◌, append-nil, append_assoc}
use native.Mathlib.Omega.{arith}
use lib.ListN.{length, get_or, drop, length-append}
use lib.Seq.{drop-drop}
use Rattle.worksheet_spec.specs.Lines.{line_size, most_lines}
use Rattle.transcript_spec.specs.Texts.{step_text, steps_text}
use Rattle.transcript_spec.proofs.DecimalLaws.{one-length, two-lengths, small-or-not}
use Rattle.transcript_spec.proofs.FieldLaws.{third-most}
use Rattle.transcript_spec.proofs.TextLengths.{step-length}

one-more-from : (k number : ℕ) (words : List ℕ) → steps_text (suc k) number words ≡ steps_text k number words ++ step_text (number + k) (drop (line_size * k) words)
unfolding steps_text
one-more-from zero number words =
    let e : number + 0 ≡ number = omega arith in
    rw e (append-nil (step_text number words))
one-more-from (suc k) number words =
    let e : suc number + k ≡ number + suc k = omega arith in
    let f : line_size * k + line_size ≡ line_size * suc k = omega arith in
    let later : step_text (suc number + k) (drop (line_size * k) (drop line_size words)) ≡ step_text (number + suc k) (drop (line_size * suc k) words) =
    rw (drop-drop (line_size * k) line_size words, e) (ap (λ (n : ℕ). step_text (number + suc k) (drop n words)) (commuted (line_size * k) line_size ∙ f)) in
    let more = one-more-from k (suc number) (drop line_size words) ∙ ap (λ (t : List ℕ). steps_text k (suc number) (drop line_size words) ++ t) later in
    ap (λ (t : List ℕ). step_text number words ++ t) more
    ∙ sym (append_assoc (step_text number words) (steps_text k (suc number) (drop line_size words)) (step_text (number + suc k) (drop (line_size * suc k) words)))
  where
    commuted : (a b : ℕ) → b + a ≡ a + b
    commuted a b = omega arith

pub one_more : (k : ℕ) (words : List ℕ) → steps_text (k + 1) 1 words ≡ steps_text k 1 words ++ step_text (k + 1) (drop (line_size * k) words)
one_more k words =
    let e : 1 + k ≡ k + 1 = omega arith in
    let f : suc k ≡ k + 1 = omega arith in
    let n : steps_text (suc k) 1 words ≡ steps_text k 1 words ++ step_text (k + 1) (drop (line_size * k) words) = one-more-from k 1 words ∙ rw e in
    rw (sym f) (n ∙ rw f)

pub more-length : (k : ℕ) (words : List ℕ)
    → length (steps_text (k + 1) 1 words) ≡ length (steps_text k 1 words) + length (step_text (k + 1) (drop (line_size * k) words))
more-length k words = ap length (one_more k words) ∙ length-append (steps_text k 1 words) (step_text (k + 1) (drop (line_size * k) words))

pub fewer : (j k number : ℕ) (words : List ℕ) → j ≤ k → length (steps_text j number words) ≤ length (steps_text k number words)
unfolding steps_text
fewer zero k number words h = omega arith
fewer (suc j) zero number words h = absurd (omega arith)
fewer (suc j) (suc k) number words h =
    let later : List ℕ = drop line_size words in
    let rest = fewer j k (suc number) later (omega arith) in
    omega (arith, length-append (step_text number words) (steps_text j (suc number) later), length-append (step_text number words) (steps_text k (suc number) later))

-- ---- at most
step-most : (number : ℕ) (words : List ℕ) → number < 100 → length (step_text number words) ≤ 50
step-most number words h = omega (arith, step-length number words, third-most (get_or words 0 0) (get_or words 3 0), two-lengths number h)

short-step-most : (number : ℕ) (words : List ℕ) → number < 10 → length (step_text number words) ≤ 49
short-step-most number words h = omega (arith, step-length number words, third-most (get_or words 0 0) (get_or words 3 0), one-length number h)

-- up to the last step of a sheet: 50 bytes for each at most, and a byte less for those before the tenth
steps-most-from : (k number : ℕ) (words : List ℕ) → number + k ≤ suc most_lines → length (steps_text k number words) + (10 - number) ≤ 50 * (suc most_lines - number)
unfolding steps_text
steps-most-from zero number words h = omega arith
steps-most-from (suc k) number words h =
    let rest = steps-most-from k (suc number) (drop line_size words) (omega arith) in
    let sum = length-append (step_text number words) (steps_text k (suc number) (drop line_size words)) in
    ⊎_elim
    (λ s. omega (arith, rest, sum, s, short-step-most number words s))
    (λ l. omega (arith, rest, sum, l, step-most number words (omega arith)))
    (small-or-not number)

pub steps-most : (k : ℕ) (words : List ℕ) → k ≤ most_lines → length (steps_text k 1 words) + 9 ≤ 50 * most_lines
steps-most k words h = omega (arith, steps-most-from k 1 words (omega arith))
