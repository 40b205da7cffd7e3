-- The lines of an input, told from its bytes; and what is printed of as many as are taken, and of more.
use mathlib.Core.Path.{◌≡◌, refl, sym, ap, ap₂, ◌∙◌}
use mathlib.Core.Logic.{◌≢◌}
use mathlib.Core.Bool.{Bool, true, false, cond}
use mathlib.Core.List.{List, [], ◌∷◌, ◌++◌, append_assoc}
use Prim.Native.Nat.{ℕ, suc, ◌+◌, ◌-◌, ◌≤◌, ◌<◌}
use native.Mathlib.Omega.{arith}
use borrow.Author.Tests.{le-leb, lt-leb, ne_eqb, eqb-true}
use lib.Dec.{eqb}
use lib.ListN.{length, take, length-append}
use lib.Seq.{take_at}
use Rattle.pattern_spec.specs.Answer.{Answer, is_done}
use Rattle.rounding_spec.specs.Format.{binary32}
use Rattle.augmented_spec.specs.Pairs.{pair_of}
use Rattle.accumulator_spec.specs.Totals.{TwoPatterns, exact_total, pair_answer, reading}
use Rattle.accumulator_spec.specs.Columns.{column_sum, column_sign}
use Rattle.accumulator_spec.proofs.ReadTotal.{read-column}
use Rattle.question_spec.specs.Questions.{read_question}
use Rattle.transcript_spec.specs.Texts.{stop_text, end_text}
use Rattle.sheet_spec.specs.Printed.{lines_from, lines_of, line_text, Progress, start, after_line, after_lines, lines_text, read_text, closing_text, most_input_lines, output}
use Rattle.sheet_spec.specs.Theorems.{newlines, with_newlines, NoNewline, LinesAre, terms_of, texts_from, good_lines, bad_lines, WithinLimit, PastLimit}
use Rattle.sheet_spec.proofs.Lines.{first-line}
use Rattle.sheet_spec.proofs.Totals.{all-terms, total-is}

-- ---- how many lines there are
open-line : (begun : List ℕ) (b : ℕ) → lines_from (begun ++ (b ∷ [])) [] ≡ (begun ++ (b ∷ [])) ∷ []
unfolding lines_from
open-line begun b = rw (ne_eqb (length (begun ++ (b ∷ []))) 0 (λ (e : length (begun ++ (b ∷ [])) ≡ 0). omega (arith, length-append begun (b ∷ []))))

line-count : (front begun : List ℕ) (b : ℕ) → length (lines_from begun (front ++ (b ∷ []))) ≡ newlines front + 1
unfolding lines_from newlines
line-count [] begun b = last (eqb b 10)
  where
    last : (c : Bool) → length (cond c (begun ∷ []) (lines_from (begun ++ (b ∷ [])) [])) ≡ 1
    last true = refl
    last false = ap length (open-line begun b)
line-count (c ∷ front) begun b = by (eqb c 10) (line-count front [] b) (line-count front (begun ++ (c ∷ [])) b)
  where
    by : (e : Bool) → length (lines_from [] (front ++ (b ∷ []))) ≡ newlines front + 1 → length (lines_from (begun ++ (c ∷ [])) (front ++ (b ∷ []))) ≡ newlines front + 1
        → length (cond e (begun ∷ lines_from [] (front ++ (b ∷ []))) (lines_from (begun ++ (c ∷ [])) (front ++ (b ∷ [])))) ≡ cond e 1 0 + newlines front + 1
    by true l m = omega (arith, l)
    by false l m = omega (arith, m)

-- ---- which they are
joined-again : (front begun : List ℕ) → with_newlines (lines_from begun (front ++ (10 ∷ []))) ≡ begun ++ (front ++ (10 ∷ []))
unfolding lines_from with_newlines
joined-again [] begun = refl
joined-again (c ∷ front) begun = by (eqb c 10) (eqb-true c 10) (joined-again front []) (joined-again front (begun ++ (c ∷ [])))
  where
    by : (e : Bool) → (e ≡ true → c ≡ 10)
        → with_newlines (lines_from [] (front ++ (10 ∷ []))) ≡ front ++ (10 ∷ [])
        → with_newlines (lines_from (begun ++ (c ∷ [])) (front ++ (10 ∷ []))) ≡ (begun ++ (c ∷ [])) ++ (front ++ (10 ∷ []))
        → with_newlines (cond e (begun ∷ lines_from [] (front ++ (10 ∷ []))) (lines_from (begun ++ (c ∷ [])) (front ++ (10 ∷ [])))) ≡ begun ++ (c ∷ (front ++ (10 ∷ [])))
    by true h l m = ap (λ (bs : List ℕ). begun ++ bs) (ap₂ {C = List ℕ} ◌∷◌ (sym (h refl)) l)
    by false h l m = m ∙ append_assoc begun (c ∷ []) (front ++ (10 ∷ []))

newlines-append : (xs ys : List ℕ) → newlines (xs ++ ys) ≡ newlines xs + newlines ys
unfolding newlines
newlines-append [] ys = omega arith
newlines-append (x ∷ xs) ys = omega (arith, newlines-append xs ys)

none_within : (front begun : List ℕ) → newlines begun ≡ 0 → NoNewline (lines_from begun (front ++ (10 ∷ [])))
unfolding lines_from NoNewline newlines
none_within [] begun h = (h, tt)
none_within (c ∷ front) begun h = by (eqb c 10) refl (none_within front [] refl) (none_within front (begun ++ (c ∷ [])))
  where
    by : (e : Bool) → eqb c 10 ≡ e → NoNewline (lines_from [] (front ++ (10 ∷ [])))
        → (newlines (begun ++ (c ∷ [])) ≡ 0 → NoNewline (lines_from (begun ++ (c ∷ [])) (front ++ (10 ∷ []))))
        → NoNewline (cond e (begun ∷ lines_from [] (front ++ (10 ∷ []))) (lines_from (begun ++ (c ∷ [])) (front ++ (10 ∷ []))))
    by true e l m = (h, l)
    by false e l m = m (newlines-append begun (c ∷ []) ∙ rw e (omega (arith, h)))

missing : (front begun : List ℕ) (b : ℕ) → b ≢ 10 → lines_from begun (front ++ (b ∷ [])) ≡ lines_from begun (front ++ (b ∷ 10 ∷ []))
unfolding lines_from
missing [] begun b h = rw (ne_eqb b 10 h) (open-line begun b)
missing (c ∷ front) begun b h =
    ap₂ (cond (eqb c 10)) (ap (λ (ls : List (List ℕ)). begun ∷ ls) (missing front [] b h)) (missing front (begun ++ (c ∷ [])) b h)

pub lines_are : LinesAre
unfolding newlines
lines_are front = (joined-again front [], none_within front [] refl, missing front [])

-- ---- as many as are taken
good-and-bad : (ls : List (List ℕ)) → good_lines ls + bad_lines ls ≡ length ls
unfolding good_lines bad_lines
good-and-bad [] = refl
good-and-bad (l ∷ ls) = by (is_done (read_question l)) (good-and-bad ls)
  where
    by : (d : Bool) → good_lines ls + bad_lines ls ≡ length ls → cond d 1 0 + good_lines ls + (cond d 0 1 + bad_lines ls) ≡ suc (length ls)
    by true e = omega arith
    by false e = omega arith

counted : (ls : List (List ℕ)) (p : Progress) → ((after_lines p ls).lines ≡ p.lines + length ls) × ((after_lines p ls).good ≡ p.good + good_lines ls)
unfolding after_lines after_line good_lines
counted [] p = (omega arith, omega arith)
counted (l ∷ ls) p = let c = counted ls (after_line p l) in (omega (arith, c.0), omega (arith, c.1))

module _ (lines : List (List ℕ)) (most : length lines ≤ most_input_lines) where
  total-reads : reading (after_lines start lines).total ≡ pair_answer (pair_of binary32 (exact_total (column_sum (terms_of lines)) (length (terms_of lines)) (column_sign (terms_of lines))))
  total-reads = let t = all-terms lines in ap reading (total-is lines start) ∙ read-column (terms_of lines) (omega (arith, t.1)) t.0

  bad-left : (after_lines start lines).lines - (after_lines start lines).good ≡ bad_lines lines
  bad-left = let c = counted lines start in omega (arith, c.0, c.1, good-and-bad lines)

  all-good : (after_lines start lines).good ≡ good_lines lines
  all-good = (counted lines start).1 ∙ omega arith

  closes : closing_text (after_lines start lines)
      ≡ read_text (pair_answer (pair_of binary32 (exact_total (column_sum (terms_of lines)) (length (terms_of lines)) (column_sign (terms_of lines))))) ++ end_text (good_lines lines) (bad_lines lines)
  unfolding closing_text
  closes = ap₂ (λ (a : Answer TwoPatterns) (t : List ℕ). read_text a ++ t) total-reads (ap₂ end_text all-good bad-left)

numbered : (ls : List (List ℕ)) (p : Progress) → lines_text p ls ≡ texts_from (suc p.lines) ls
unfolding lines_text texts_from after_line
numbered [] p = refl
numbered (l ∷ ls) p = ap (λ (t : List ℕ). line_text (suc p.lines) (read_question l) ++ t) (numbered ls (after_line p l))

output-within : (input : List ℕ) → length (lines_of input) ≤ most_input_lines → output input ≡ lines_text start (lines_of input) ++ closing_text (after_lines start (lines_of input))
unfolding output
output-within input h = rw (le-leb (length (lines_of input)) most_input_lines h)

pub within-limit : WithinLimit
within-limit front b h =
    let n = line-count front [] b in
    let lines = lines_of (front ++ (b ∷ [])) in
    let most : length lines ≤ most_input_lines = omega (arith, n) in
    (output-within (front ++ (b ∷ [])) most ∙ ap₂ {C = List ℕ} ◌++◌ (numbered lines start) (closes lines most), good-and-bad lines ∙ n)

-- ---- more
output-past : (input : List ℕ) → most_input_lines < length (lines_of input) → output input ≡ lines_text start (take most_input_lines (lines_of input)) ++ stop_text
unfolding output
output-past input h = rw (lt-leb (length (lines_of input)) most_input_lines h)

lines_split : (front begun rest : List ℕ) → lines_from begun (front ++ (10 ∷ rest)) ≡ lines_from begun (front ++ (10 ∷ [])) ++ lines_from [] rest
unfolding lines_from
lines_split [] begun rest = refl
lines_split (c ∷ front) begun rest = by (eqb c 10) (lines_split front [] rest) (lines_split front (begun ++ (c ∷ [])) rest)
  where
    by : (e : Bool) → lines_from [] (front ++ (10 ∷ rest)) ≡ lines_from [] (front ++ (10 ∷ [])) ++ lines_from [] rest
        → lines_from (begun ++ (c ∷ [])) (front ++ (10 ∷ rest)) ≡ lines_from (begun ++ (c ∷ [])) (front ++ (10 ∷ [])) ++ lines_from [] rest
        → cond e (begun ∷ lines_from [] (front ++ (10 ∷ rest))) (lines_from (begun ++ (c ∷ [])) (front ++ (10 ∷ rest)))
        ≡ cond e (begun ∷ lines_from [] (front ++ (10 ∷ []))) (lines_from (begun ++ (c ∷ [])) (front ++ (10 ∷ []))) ++ lines_from [] rest
    by true l m = ap (λ (ls : List (List ℕ)). begun ∷ ls) l
    by false l m = m

pub past-limit : PastLimit
past-limit front b after h =
    let taken = lines_of (front ++ (10 ∷ [])) in
    let n : length taken ≡ most_input_lines = line-count front [] 10 ∙ omega (arith, h) in
    let s = first-line b after in
    let split : lines_of (front ++ (10 ∷ b ∷ after)) ≡ taken ++ (s.0 ∷ s.1) = lines_split front [] (b ∷ after) ∙ ap (λ (ls : List (List ℕ)). taken ++ ls) s.2 in
    output-past (front ++ (10 ∷ b ∷ after)) (omega (arith, n, ap length split, length-append taken (s.0 ∷ s.1)))
    ∙ ap (λ (ls : List (List ℕ)). lines_text start ls ++ stop_text) (ap (take most_input_lines) split ∙ take_at taken (s.0 ∷ s.1) most_input_lines n)
    ∙ ap (λ (t : List ℕ). t ++ stop_text) (numbered taken start)
