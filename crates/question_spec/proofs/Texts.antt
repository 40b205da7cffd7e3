-- The texts of patterns and of questions, byte by byte.
use Prim.Native.Nat.{ℕ, zero, suc, ◌+◌, ◌-◌, ◌/◌, ◌%◌, ◌^◌, ◌<◌}
use mathlib.Core.Path.{◌≡◌, refl, sym, ap, ◌∙◌}
use mathlib.Core.List.{List, [], ◌∷◌}
use native.Mathlib.Omega.{arith}
use lib.ListN.{get_or}
use Rattle.question_spec.specs.Ascii.{ascii}
use Rattle.question_spec.specs.Questions.{operation_letters_by_number, digit, pattern_text, question_text}
use Rattle.question_spec.specs.Theorems.{PatternTexts, QuestionTexts}

-- n entries, each given by its place, from k on
abbrev entries : (ℕ → ℕ) → ℕ → ℕ → List ℕ
entries f k zero = []
entries f k (suc n) = f k ∷ entries f (suc k) n

entry : (f : ℕ → ℕ) (n k i : ℕ) → i < n → get_or (entries f k n) i 0 ≡ f (k + i)
entry f zero k i h = absurd (omega arith)
entry f (suc n) k zero h = let z : k ≡ k + 0 = omega arith in ap f z
entry f (suc n) k (suc i) h = let z : suc k + i ≡ k + suc i = omega arith in entry f n (suc k) i (omega arith) ∙ ap f z

from_zero : (f : ℕ → ℕ) (n i : ℕ) → i < n → get_or (entries f 0 n) i 0 ≡ f i
from_zero f n i h = let z : 0 + i ≡ i = omega arith in entry f n 0 i h ∙ ap f z

abbrev characters : List ℕ
characters = ascii "0123456789ABCDEF"

character : (n : ℕ) → digit (n % 16) ≡ get_or characters (n % 16) 0
character n = let low : n % 16 < 16 = omega arith in sym (from_zero digit 16 (n % 16) low)

-- the character at the place i of a pattern
abbrev at : ℕ → ℕ → ℕ
at x i = get_or characters (x / 16 ^ (7 - i) % 16) 0

eight : (x : ℕ) → pattern_text x ≡ entries (at x) 0 8
eight x =
    let last : x % 16 ≡ x / 1 % 16 = omega arith in
    cc (
      character (x / 268435456),
      character (x / 16777216),
      character (x / 1048576),
      character (x / 65536),
      character (x / 4096),
      character (x / 256),
      character (x / 16),
      character x ∙ ap (λ (j : ℕ). get_or characters j 0) last,
    )

pub pattern-texts : PatternTexts
pattern-texts x = (refl, λ i h. ap (λ (l : List ℕ). get_or l i 0) (eight x) ∙ from_zero (at x) 8 i h)

pub question-texts : QuestionTexts
unfolding question_text operation_letters_by_number
question-texts x y = (refl, refl, refl)
