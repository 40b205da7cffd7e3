-- Filling: one law a case, the words of the lines, and that a filled sheet's pair is the direct pair.
use mathlib.Core.Path.{◌≡◌, refl, sym, ap, ◌∙◌, subst}
use mathlib.Core.Logic.{◌⊎◌, inl, inr}
use mathlib.Core.Bool.{Bool, true, false, not}
use mathlib.Core.List.{List, [], ◌∷◌, ◌++◌, append_assoc}
use Prim.Native.Nat.{ℕ, ◌*◌, ◌-◌, ◌≤◌, ◌<◌}
use native.Mathlib.Omega.{arith}
use borrow.Author.Tests.{lt-ltb, le-ltb, le-leb, lt-leb}
use lib.Dec.{T, ltb, ltb→lt, nltb→le}
use lib.ListN.{length, take, drop, replicate, length-append, length-replicate, length-drop}
use lib.Seq.{take_at, drop_at}
use Rattle.pattern_spec.specs.Answer.{refused}
use Rattle.rounding_spec.specs.Format.{binary32}
use Rattle.augmented_spec.specs.declared.Pair.{Pair}
use Rattle.augmented_spec.specs.declared.Operation.{Operation}
use Rattle.augmented_spec.specs.declared.Operation.TheVariants.{Sum as sum, Difference as difference, Product as product}
use Rattle.augmented_spec.specs.Operations.{is_operation, operation_number, operation_of}
use Rattle.augmented_spec.specs.Direct.{direct_pair}
use Rattle.worksheet_spec.specs.Lines.{line_size, most_lines, sheet_size, Line}
use Rattle.worksheet_spec.specs.Sheets.{sheet_of}
use Rattle.worksheet_spec.specs.Filling.{line_words, lines_words, sheet_words, filled, sheet_answer, filling, after_filling, HasDirectPair}
use Rattle.worksheet_spec.specs.Theorems.{FillingRefused, SheetWritten, FilledPair}
use Rattle.worksheet_spec.proofs.FootIsPair.{foot-is-pair}

-- ---- one law a case, whichever test comes first
module _ (o x y : ℕ) (words : List ℕ) where
  pub unknown-operation : is_operation o ≡ false → filling o x y words ≡ refused 10
  unfolding filling
  unknown-operation e = go (ltb (length words) sheet_size) refl
    where
      go : (short : Bool) → ltb (length words) sheet_size ≡ short → filling o x y words ≡ refused 10
      go true h = simp (h, e)
      go false h = simp (h, e)

  pub short-words : is_operation o ≡ true → length words < sheet_size → filling o x y words ≡ refused 9
  unfolding filling
  short-words e h = rw (e, lt-ltb (length words) sheet_size h)

  pub fills : is_operation o ≡ true → sheet_size ≤ length words → filling o x y words ≡ sheet_answer (operation_of o) x y
  unfolding filling
  fills e h = rw (e, le-ltb (length words) sheet_size h)

  pub refused-words : (n : ℕ) → filling o x y words ≡ refused n → after_filling o x y words ≡ words
  unfolding after_filling
  refused-words n e = rw e

  pub filled-words : (n : ℕ) (p : Pair) → filling o x y words ≡ filled n p → after_filling o x y words ≡ sheet_words (sheet_of (operation_of o) x y).lines ++ drop sheet_size words
  unfolding after_filling
  filled-words n p e = rw e

outside : (o : ℕ) → (o ≡ 0) ⊎ (3 < o) → is_operation o ≡ false
outside o h = elim h [ inl z ↦ rw (lt-leb 1 o (omega (arith, z))) | inr z ↦ rw (le-leb 1 o (omega (arith, z)), lt-leb o 3 z) ]

inside : (o : ℕ) → 1 ≤ o → o ≤ 3 → is_operation o ≡ true
inside o h k = rw (le-leb 1 o h, le-leb o 3 k)

pub filling-refused : FillingRefused
filling-refused o x y words = (
  λ h. let e = unknown-operation o x y words (outside o h) in (e, refused-words o x y words 10 e),
  λ h k w. let e = short-words o x y words (inside o h k) w in (e, refused-words o x y words 9 e),
)

-- ---- the pair
pub answer-is : (o : Operation) (x y : ℕ) → sheet_answer o x y ≡ filled (length (sheet_of o x y).lines) (direct_pair o binary32 x y)
unfolding sheet_answer
answer-is o x y = let f = foot-is-pair o x y in rw (f.0, f.1)

pub filled-pair : FilledPair
filled-pair o x y words = go (is_operation o) (ltb (length words) sheet_size) refl (ltb→lt (length words) sheet_size) (nltb→le (length words) sheet_size)
  where
    go : (known short : Bool) → is_operation o ≡ known → (T short → length words < sheet_size) → (T (not short) → sheet_size ≤ length words) → HasDirectPair o x y (filling o x y words)
    go false short e h k = subst (HasDirectPair o x y) (sym (unknown-operation o x y words e)) tt
    go true true e h k = subst (HasDirectPair o x y) (sym (short-words o x y words e (h tt))) tt
    go true false e h k = subst (HasDirectPair o x y) (sym (fills o x y words e (k tt) ∙ answer-is (operation_of o) x y)) refl

-- ---- the words
pub words-length : (ls : List Line) → length (lines_words ls) ≡ line_size * length ls
unfolding lines_words
words-length [] = refl
words-length (l ∷ ls) = length-append (line_words l) (lines_words ls) ∙ omega (arith, words-length ls)

pub words_append : (ks ls : List Line) → lines_words (ks ++ ls) ≡ lines_words ks ++ lines_words ls
unfolding lines_words
words_append [] ls = refl
words_append (k ∷ ks) ls = ap (λ (ws : List ℕ). line_words k ++ ws) (words_append ks ls)

pub sheet-words-length : (ls : List Line) → length ls ≤ most_lines → length (sheet_words ls) ≡ sheet_size
unfolding sheet_words
sheet-words-length ls h = length-append (lines_words ls) (replicate (sheet_size - line_size * length ls) 0)
    ∙ omega (arith, words-length ls, length-replicate {A = ℕ} (sheet_size - line_size * length ls) 0)

module _ (ls : List Line) (rest : List ℕ) (most : length ls ≤ most_lines) where
  pub all_words : sheet_words ls ++ rest ≡ lines_words ls ++ (replicate (sheet_size - line_size * length ls) 0 ++ rest)
  unfolding sheet_words
  all_words = append_assoc (lines_words ls) (replicate (sheet_size - line_size * length ls) 0) rest

  line_at : (k : ℕ) (earlier later : List Line) (l : Line) → ls ≡ earlier ++ (l ∷ later) → k ≡ length earlier → take line_size (drop (line_size * k) (sheet_words ls ++ rest)) ≡ line_words l
  unfolding lines_words
  line_at k earlier later l e n =
      let tail = lines_words later ++ (replicate (sheet_size - line_size * length ls) 0 ++ rest) in
      let whole : sheet_words ls ++ rest ≡ lines_words earlier ++ (line_words l ++ tail) =
      all_words ∙ ap (λ (ws : List ℕ). ws ++ (replicate (sheet_size - line_size * length ls) 0 ++ rest)) (ap lines_words e ∙ words_append earlier (l ∷ later))
      ∙ append_assoc (lines_words earlier) (lines_words (l ∷ later)) _ in
      let size : length (lines_words earlier) ≡ line_size * k = words-length earlier ∙ omega (arith, n) in
      ap (λ (ws : List ℕ). take line_size (drop (line_size * k) ws)) whole ∙ ap (take line_size) (drop_at (lines_words earlier) (line_words l ++ tail) (line_size * k) size)
      ∙ take_at (line_words l) tail line_size refl

  unused-zero : take (sheet_size - line_size * length ls) (drop (line_size * length ls) (sheet_words ls ++ rest)) ≡ replicate (sheet_size - line_size * length ls) 0
  unused-zero =
      let zeros : List ℕ = replicate (sheet_size - line_size * length ls) 0 in
      ap (λ (ws : List ℕ). take (sheet_size - line_size * length ls) (drop (line_size * length ls) ws)) all_words
      ∙ ap (take (sheet_size - line_size * length ls)) (drop_at (lines_words ls) (zeros ++ rest) (line_size * length ls) (words-length ls))
      ∙ take_at zeros rest (sheet_size - line_size * length ls) (length-replicate {A = ℕ} (sheet_size - line_size * length ls) 0)

  behind : drop sheet_size (sheet_words ls ++ rest) ≡ rest
  behind = drop_at (sheet_words ls) rest sheet_size (sheet-words-length ls most)

number-of : (o : Operation) → (is_operation (operation_number o) ≡ true) × (operation_of (operation_number o) ≡ o)
number-of sum = (refl, refl)
number-of difference = (refl, refl)
number-of product = (refl, refl)

module _ (o : Operation) (x y : ℕ) (words : List ℕ) (room : sheet_size ≤ length words) (most : length (sheet_of o x y).lines ≤ most_lines) where
  abbrev ls : List Line
  ls = (sheet_of o x y).lines

  abbrev words-after : List ℕ
  words-after = after_filling (operation_number o) x y words

  abbrev unused : ℕ
  unused = sheet_size - line_size * length ls

  answered : filling (operation_number o) x y words ≡ filled (length ls) (direct_pair o binary32 x y)
  answered = fills (operation_number o) x y words (number-of o).0 room ∙ ap (λ (p : Operation). sheet_answer p x y) (number-of o).1 ∙ answer-is o x y

  after : words-after ≡ sheet_words ls ++ drop sheet_size words
  after = filled-words (operation_number o) x y words _ _ answered ∙ ap (λ (p : Operation). sheet_words (sheet_of p x y).lines ++ drop sheet_size words) (number-of o).1

  as_long : length (sheet_words ls ++ drop sheet_size words) ≡ length words
  as_long = length-append (sheet_words ls) (drop sheet_size words) ∙ omega (arith, sheet-words-length ls most, length-drop sheet_size words)

  pub sheet-filled : (filling (operation_number o) x y words ≡ filled (length ls) (direct_pair o binary32 x y)) × SheetWritten ls words words-after
  sheet-filled = rw after (answered, (as_long, line_at ls (drop sheet_size words) most, unused-zero ls (drop sheet_size words) most, behind ls (drop sheet_size words) most))
