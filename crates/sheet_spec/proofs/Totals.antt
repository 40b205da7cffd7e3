-- The program's total accepts every term of its lines.
use mathlib.Core.Path.{◌≡◌, refl, sym, ap, ◌∙◌, subst}
use mathlib.Core.Bool.{Bool, true, false, cond}
use mathlib.Core.List.{List, [], ◌∷◌, ◌++◌}
use Prim.Native.Nat.{ℕ, ◌*◌, ◌≤◌}
use native.Mathlib.Nat.{le_refl, le_trans, le_of_eq}
use native.Mathlib.Omega.{arith}
use lib.ListN.{length, length-append}
use Rattle.pattern_spec.specs.Answer.{Answer, refused, done, is_done}
use Rattle.pattern_spec.specs.Classes.{both_finite}
use Rattle.pattern_spec.proofs.Truth.{both_of}
use Rattle.rounding_spec.specs.Format.{binary32}
use Rattle.rounding_spec.specs.Value.{decode, is_finite}
use Rattle.augmented_spec.specs.declared.Pair.{Pair}
use Rattle.augmented_spec.specs.Operations.{is_operation, operation_of}
use Rattle.augmented_spec.specs.Direct.{direct_pair}
use Rattle.worksheet_spec.specs.Lines.{sheet_size}
use Rattle.worksheet_spec.specs.Filling.{FilledSheet, sheet_answer, filling}
use Rattle.worksheet_spec.proofs.Filling.{fills, answer-is}
use Rattle.question_spec.specs.Questions.{Asked, read_question}
use Rattle.question_spec.proofs.Theorems.{only-text}
use Rattle.accumulator_spec.specs.Totals.{number, sign_word, Term, of_pattern, after_adding, FitTotal}
use Rattle.accumulator_spec.specs.Columns.{column, AllFinite}
use Rattle.accumulator_spec.proofs.Columns.{exact-column}
use Rattle.sheet_spec.specs.Printed.{blank, half_terms, pair_terms, line_terms, Progress, start, after_line, after_lines}
use Rattle.sheet_spec.specs.Theorems.{NeverRefused, LineTerms, terms_of, TotalTakesAll}

-- ---- the terms of a line: none, or two that are finite
half-terms : (first second : ℕ) → AllFinite (half_terms first second) × (length (half_terms first second) ≤ 2)
unfolding AllFinite
half-terms first second = go (both_finite first second) refl
  where
    go : (b : Bool) → both_finite first second ≡ b
        → AllFinite (cond b (of_pattern first ∷ of_pattern second ∷ []) []) × (length (cond b (of_pattern first ∷ of_pattern second ∷ []) []) ≤ 2)
    go true e = let f = both_of (is_finite (decode binary32 first)) (is_finite (decode binary32 second)) e in ((f.0, (f.1, tt)), omega arith)
    go false e = (tt, omega arith)

pair-terms : (f : Answer FilledSheet) → AllFinite (pair_terms f) × (length (pair_terms f) ≤ 2)
unfolding AllFinite
pair-terms (refused n) = (tt, omega arith)
pair-terms (done s) = half-terms s.pair.first s.pair.second

terms-of : (a : Answer Asked) → AllFinite (line_terms a) × (length (line_terms a) ≤ 2)
unfolding AllFinite
terms-of (done q) = pair-terms (filling q.operation q.x q.y blank)
terms-of (refused n) = (tt, omega arith)

finite-append : (xs ys : List Term) → AllFinite xs → AllFinite ys → AllFinite (xs ++ ys)
unfolding AllFinite
finite-append [] ys f g = g
finite-append (x ∷ xs) ys f g = (f.0, finite-append xs ys f.1 g)

pub all-terms : (ls : List (List ℕ)) → AllFinite (terms_of ls) × (length (terms_of ls) ≤ 2 * length ls)
unfolding terms_of AllFinite
all-terms [] = (tt, omega arith)
all-terms (l ∷ ls) =
    let t = terms-of (read_question l) in
    let r = all-terms ls in
    (finite-append (line_terms (read_question l)) (terms_of ls) t.0 r.0, le_trans (le_of_eq (length-append (line_terms (read_question l)) (terms_of ls))) (omega (arith, t.1, r.1)))

-- ---- one line's terms after another's
column-append : (xs ys : List Term) (t : List ℕ) → column t (xs ++ ys) ≡ column (column t xs) ys
unfolding column
column-append [] ys t = refl
column-append (x ∷ xs) ys t = column-append xs ys (after_adding t x)

pub total-is : (ls : List (List ℕ)) (p : Progress) → (after_lines p ls).total ≡ column p.total (terms_of ls)
unfolding after_lines after_line terms_of column
total-is [] p = refl
total-is (l ∷ ls) p = total-is ls (after_line p l) ∙ sym (column-append (line_terms (read_question l)) (terms_of ls) p.total)

pub total-takes-all : TotalTakesAll
total-takes-all lines h =
    let t = all-terms lines in
    let c = exact-column (terms_of lines) (omega (arith, t.1)) t.0 in
    let e = total-is lines start in
    (c.0, e, ap number e ∙ c.2, ap (λ (u : List ℕ). sign_word u) e ∙ c.4, subst FitTotal (sym e) c.5)

-- ---- a question that is read has its sheet
pub never-refused : NeverRefused
unfolding sheet_answer
never-refused line o x y e =
    let t = only-text line o x y e in
    ap is_done (fills o x y blank t.1 (le_refl sheet_size))

-- ---- the terms of a line, by its question's pair
module _ (o x y : ℕ) (known : is_operation o ≡ true) where
  abbrev direct : Pair
  direct = direct_pair (operation_of o) binary32 x y

  pair_is : pair_terms (filling o x y blank) ≡ half_terms direct.first direct.second
  pair_is = ap pair_terms (fills o x y blank known (le_refl sheet_size) ∙ answer-is (operation_of o) x y)

  both-terms : both_finite direct.first direct.second ≡ true → pair_terms (filling o x y blank) ≡ of_pattern direct.first ∷ of_pattern direct.second ∷ []
  both-terms e = pair_is ∙ rw e

  no-terms : both_finite direct.first direct.second ≡ false → pair_terms (filling o x y blank) ≡ []
  no-terms e = pair_is ∙ rw e

pub line-terms : LineTerms
line-terms = (
  λ line o x y e. let known = (only-text line o x y e).1 in (
    λ f. ap line_terms e ∙ both-terms o x y known f,
    λ n. ap line_terms e ∙ no-terms o x y known n,
  ),
  λ line n e. ap line_terms e,
)
