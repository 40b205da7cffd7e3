-- The lines of an input, and what they print while there is room for them.
use mathlib.Core.Path.{◌≡◌, refl, sym, ap, ◌∙◌}
use mathlib.Core.Bool.{Bool, true, false, cond}
use mathlib.Core.List.{List, [], ◌∷◌, ◌++◌, append_assoc}
use Prim.Native.Nat.{ℕ, zero, suc, ◌<◌}
use native.Mathlib.Decide.{dec_le}
use native.Mathlib.Omega.{arith}
use borrow.Author.Tests.{le-leb, lt-leb, ne_eqb}
use lib.Dec.{eqb, leb}
use lib.ListN.{length, take}
use lib.Seq.{take_all, length-take-le}
use Rattle.question_spec.specs.Ascii.{newline}
use Rattle.question_spec.specs.Questions.{question_size, read_question}
use Rattle.question_spec.proofs.Theorems.{refused-in-order}
use Rattle.transcript_spec.specs.Texts.{stop_text}
use Rattle.sheet_spec.specs.States.{kept_bytes}
use Rattle.sheet_spec.specs.Printed.{lines_from, lines_of, line_text, Progress, start, after_line, after_lines, lines_text, closing_text, most_input_lines, output}

-- what the lines print, and what stands last, with room for so many lines
unfoldable pub ending : Progress → ℕ → List (List ℕ) → List ℕ
ending p room [] = closing_text p
ending p zero (l ∷ ls) = stop_text
ending p (suc room) (l ∷ ls) = line_text (suc p.lines) (read_question l) ++ ending (after_line p l) room ls

-- ---- with the room's bound outside, as the definition has it
abbrev chosen : Bool → Progress → ℕ → List (List ℕ) → List ℕ
chosen b p room ls = cond b (lines_text p ls ++ closing_text (after_lines p ls)) (lines_text p (take room ls) ++ stop_text)

more : (b : Bool) (p : Progress) (room : ℕ) (l : List ℕ) (ls : List (List ℕ)) → line_text (suc p.lines) (read_question l) ++ chosen b (after_line p l) room ls ≡ chosen b p (suc room) (l ∷ ls)
unfolding lines_text after_lines
more true p room l ls = sym (append_assoc (line_text (suc p.lines) (read_question l)) (lines_text (after_line p l) ls) (closing_text (after_lines (after_line p l) ls)))
more false p room l ls = sym (append_assoc (line_text (suc p.lines) (read_question l)) (lines_text (after_line p l) (take room ls)) stop_text)

one_less : (m n : ℕ) → leb (suc m) (suc n) ≡ leb m n
one_less m n = elim (dec_le m n) [ yes h ↦ le-leb (suc m) (suc n) (omega arith) ∙ sym (le-leb m n h) | no h ↦ lt-leb (suc m) (suc n) (omega arith) ∙ sym (lt-leb m n (omega arith)) ]

ending-is : (ls : List (List ℕ)) (p : Progress) (room : ℕ) → ending p room ls ≡ chosen (leb (length ls) room) p room ls
unfolding ending lines_text after_lines
ending-is [] p room = rw (le-leb 0 room (omega arith))
ending-is (l ∷ ls) p zero = rw (lt-leb (suc (length ls)) 0 (omega arith))
ending-is (l ∷ ls) p (suc room) =
    ap (λ (t : List ℕ). line_text (suc p.lines) (read_question l) ++ t) (ending-is ls (after_line p l) room) ∙ more (leb (length ls) room) p room l ls
    ∙ ap (λ (b : Bool). chosen b p (suc room) (l ∷ ls)) (sym (one_less (length ls) room))

pub output-is : (input : List ℕ) → output input ≡ ending start most_input_lines (lines_of input)
unfolding output
output-is input = sym (ending-is (lines_of input) start most_input_lines)

-- ---- an open line with a byte is a line
abbrev pub Some : List (List ℕ) → Type 0
Some lines = (l : List ℕ) × (ls : List (List ℕ)) × (lines ≡ l ∷ ls)

either : (e : Bool) (l : List ℕ) (ls rest : List (List ℕ)) → Some rest → Some (cond e (l ∷ ls) rest)
either true l ls rest s = (l, ls, refl)
either false l ls rest s = s

pub has-byte : (c : ℕ) (begun : List ℕ) → eqb (length (c ∷ begun)) 0 ≡ false
has-byte c begun = ne_eqb (suc (length begun)) 0 (λ (e : suc (length begun) ≡ 0). omega arith)

some-line : (bytes : List ℕ) (c : ℕ) (begun : List ℕ) → Some (lines_from (c ∷ begun) bytes)
unfolding lines_from
some-line [] c begun = (c ∷ begun, [], rw (has-byte c begun))
some-line (b ∷ bs) c begun = either (eqb b newline) (c ∷ begun) (lines_from [] bs) (lines_from (c ∷ (begun ++ (b ∷ []))) bs) (some-line bs c (begun ++ (b ∷ [])))

pub first-line : (b : ℕ) (bs : List ℕ) → Some (lines_from [] (b ∷ bs))
unfolding lines_from
first-line b bs = either (eqb b newline) [] (lines_from [] bs) (lines_from (b ∷ []) bs) (some-line bs b [])

-- ---- the bytes of a line that are kept are enough
pub first-bytes : (line : List ℕ) → read_question (take kept_bytes line) ≡ read_question line
first-bytes line = elim (dec_le (length line) kept_bytes) [ yes h ↦ ap read_question (take_all kept_bytes line h) | no h ↦ long (omega arith) ]
  where
    long : kept_bytes < length line → read_question (take kept_bytes line) ≡ read_question line
    long h =
        let n : length (take kept_bytes line) ≡ kept_bytes = length-take-le kept_bytes line (omega arith) in
        (refused-in-order (take kept_bytes line)).0 (λ (e : length (take kept_bytes line) ≡ question_size). omega arith)
        ∙ sym ((refused-in-order line).0 (λ (e : length line ≡ question_size). omega arith))

pub take_again : (n : ℕ) (xs ys : List ℕ) → take n (take n xs ++ ys) ≡ take n (xs ++ ys)
take_again zero xs ys = refl
take_again (suc n) [] ys = refl
take_again (suc n) (x ∷ xs) ys = ap (λ (l : List ℕ). x ∷ l) (take_again n xs ys)
