-- What holds of words and of totals: that the definitions mean what is asked (R6, R8.7 to R8.9). Each name is a statement, proved in
-- proofs/ (proofs/Theorems.antt has them together). Those of joining stand in JoinTheorems.antt, those of the sign word and of totals
-- that are carried over in SignTheorems.antt, those of the answers' cases in AnswerTheorems.antt.
use Rattle.std.specs.Prelude.{ℕ, suc, ◌-◌, ◌*◌, ◌/◌, ◌%◌, ◌^◌, ◌≤◌, ◌<◌, ◌≡◌, ◌≢◌, ◌↔◌, ◌⊎◌, Bool, true, false, not, ◌&&◌}
use Rattle.std.specs.Prelude.{ltb, length, get_or, replicate, ℤ, pos, negsuc, nat_abs, neg_ℤ, ◌+ℤ◌, ◌*ℤ◌}
use mathlib.Core.List.{List, [], ◌∷◌, ◌++◌, Perm}
use Rattle.pattern_spec.specs.Answer.{Answer, refused, done}
use Rattle.rounding_spec.specs.Format.{binary32, edge}
use Rattle.rounding_spec.specs.Value.{infinite, finite, decode, encode, RN0}
use Rattle.pattern_spec.specs.Exact.{whole, int}
use Rattle.pattern_spec.specs.Classes.{zero_pattern}
use Rattle.augmented_spec.specs.Pairs.{pair_of, sum_pair, product_pair}
use Rattle.accumulator_spec.specs.declared.ReadingNumbers.{ReadingNumbers}
use Rattle.accumulator_spec.specs.Words.{Words, natural, integer, words_of_integer}
use Rattle.accumulator_spec.specs.Totals.{zeros, number_size, total_size, most_terms, number, count, sign_word, total_of, fit, FitTotal}
use Rattle.accumulator_spec.specs.Totals.{is_cleared, Term, of_pattern, of_product, finite_operands, exact_term, is_minus_zero}
use Rattle.accumulator_spec.specs.Totals.{adding, after_adding, Adds, AddsNumbered, Clears, ClearsNumbered}
use Rattle.accumulator_spec.specs.Totals.{clearing, after_clearing, pair_read, exact_number, exact_total, pair_answer}
use Rattle.accumulator_spec.specs.Totals.{reading, reading_numbers}
use Rattle.accumulator_spec.specs.Columns.{column, Accepted, AllFinite, column_sum, column_sign}
use Rattle.accumulator_spec.specs.Carrying.{old_size}
use Rattle.accumulator_spec.specs.JoinTheorems.{JoiningRefused, AcceptedJoin, ExactJoin, RefusedJoin, JoinsMeans, JoinsNumberedMeans}
use Rattle.accumulator_spec.specs.JoinTheorems.{BuiltBy, BuiltIsColumn, JoinedIsColumn, ColumnsJoin, ColumnBuilt, EmptyJoins}
use Rattle.accumulator_spec.specs.JoinTheorems.{JoinLandmarks}
use Rattle.accumulator_spec.specs.SignTheorems.{SignOfBothIs, PatternMinusZero, ProductMinusZero, WithinIs, UnfitSigns}
use Rattle.accumulator_spec.specs.SignTheorems.{ColumnSignIs, ColumnMinusZero, CarryingRefused, CarriesMeans, CarriesNumberedMeans}
use Rattle.accumulator_spec.specs.SignTheorems.{FitOldIs, OldReads, CarriedFit, OldColumnIs, OldBuiltIs, CarriedTermsAre}
use Rattle.accumulator_spec.specs.SignTheorems.{CarriedColumn, SignLandmarks}
use Rattle.accumulator_spec.specs.AnswerTheorems.{AnswersOfOne, AnswersOfTwo}

-- ---- words, however many (R6.1)
-- word i counts 2 ^ (32 i); the words of -(n + 1) are the complements of n's
abbrev pub WordAt : Type 0
WordAt =
    (k n i : ℕ) → i < k
    → (get_or (words_of_integer k (pos n)) i 0 ≡ n / 2 ^ (32 * i) % 2 ^ 32)
    × (get_or (words_of_integer k (negsuc n)) i 0 ≡ 2 ^ 32 - 1 - n / 2 ^ (32 * i) % 2 ^ 32)

-- `words_of_integer` gives k words, each below 2 ^ 32
abbrev pub WordsFormed : Type 0
WordsFormed = (k : ℕ) (z : ℤ) → (length (words_of_integer k z) ≡ k) × Words (words_of_integer k z)

-- k words have the range 2 ^ (32 k), and a number in it has these words
abbrev pub NaturalWords : Type 0
NaturalWords =
    (ws : List ℕ) → Words ws → (natural ws < 2 ^ (32 * length ws)) × (words_of_integer (length ws) (pos (natural ws)) ≡ ws)

-- k words hold every whole number of magnitude below half the range,
abbrev pub IntegerHeld : Type 0
IntegerHeld = (k : ℕ) (z : ℤ) → 2 * nat_abs z < 2 ^ (32 * k) → integer (words_of_integer k z) ≡ z

-- and no other k words hold it.
abbrev pub WordsUnique : Type 0
WordsUnique = (ws : List ℕ) → Words ws → words_of_integer (length ws) (integer ws) ≡ ws

-- R6.1, R6.3, R6.13: a total has 22 words, 20 of them for its number, and takes 65,536 terms; it had 21
abbrev pub TotalSizes : Type 0
TotalSizes = (total_size ≡ 22) × (number_size ≡ 20) × (most_terms ≡ 65536) × (old_size ≡ 21)

-- ---- the number, the count and the sign word of a total (R6.1)
-- the count stands behind the words of the number, and behind that the sign word
abbrev pub NumberAndCount : Type 0
NumberAndCount =
    (ws : List ℕ) (n w : ℕ) → length ws ≡ number_size → let t = ws ++ (n ∷ w ∷ []) in
    (number t ≡ integer ws) × (count t ≡ n) × (sign_word t ≡ w)

-- every number of magnitude below 2 ^ 639 has its words,
abbrev pub NumberHeld : Type 0
NumberHeld =
    (z : ℤ) (n w : ℕ) → nat_abs z < 2 ^ 639 → let t = total_of z n w in (number t ≡ z) × (count t ≡ n) × (sign_word t ≡ w)

-- and these alone: the words of a total are those of their number, count and sign word.
abbrev pub TotalUnique : Type 0
TotalUnique = (t : List ℕ) → length t ≡ total_size → Words t → total_of (number t) (count t) (sign_word t) ≡ t

-- the words of 1, 2 ^ 32, -1 and -2 ^ 32
abbrev pub TotalLandmarks : Type 0
TotalLandmarks =
    (total_of (pos 1) 7 1 ≡ 1 ∷ replicate 19 0 ++ (7 ∷ 1 ∷ []))
    × (total_of (pos (2 ^ 32)) 7 1 ≡ 0 ∷ 1 ∷ replicate 18 0 ++ (7 ∷ 1 ∷ []))
    × (total_of (negsuc 0) 7 1 ≡ replicate number_size 0xffff_ffff ++ (7 ∷ 1 ∷ []))
    × (total_of (neg_ℤ (pos (2 ^ 32))) 7 1 ≡ 0 ∷ replicate 19 0xffff_ffff ++ (7 ∷ 1 ∷ []))

-- R6.3: both bounds are inclusive; R6.12: the last word is 0 or 1, 0 with the number 0 only and 1 with terms only
abbrev pub FitIs : Type 0
FitIs =
    (t : List ℕ)
    → (fit t ≡ true)
    ↔ ((count t ≤ most_terms) × (nat_abs (number t) ≤ count t * 2 ^ 554)
    × (sign_word t ≤ 1) × (sign_word t ≡ 0 → number t ≡ pos 0) × (sign_word t ≡ 1 → 0 < count t))

-- R6.3: -2 ^ 639 has words, though 2 ^ 639 has none: it is unfit, whatever the count
abbrev pub LowestUnfit : Type 0
LowestUnfit = (t : List ℕ) → number t ≡ neg_ℤ (pos (2 ^ 639)) → fit t ≡ false

-- a total is cleared where its words are all zero
abbrev pub ClearedZeros : Type 0
ClearedZeros = (t : List ℕ) → (is_cleared t ≡ true) ↔ (t ≡ zeros)

-- ---- terms (R6.2)
-- R8.7: an operand is infinite or NaN where its exponent field is 255, in either factor
abbrev pub FiniteOperandsAre : Type 0
FiniteOperandsAre =
    (x y : ℕ)
    → (finite_operands (of_pattern x) ≡ ltb (x % 2 ^ 31) 0x7f80_0000)
    × (finite_operands (of_product x y) ≡ (ltb (x % 2 ^ 31) 0x7f80_0000 && ltb (y % 2 ^ 31) 0x7f80_0000))

-- in units of 2 ^ -298: a pattern's value, which counts 2 ^ -149,
abbrev pub PatternTerm : Type 0
PatternTerm =
    (x : ℕ) (s : Bool) (a : ℕ) → decode binary32 x ≡ finite s a → whole (exact_term (of_pattern x)) ≡ int s a *ℤ pos (2 ^ 149)

-- and the product of two
abbrev pub ProductTerm : Type 0
ProductTerm =
    (x y : ℕ) (s t : Bool) (a b : ℕ) → decode binary32 x ≡ finite s a → decode binary32 y ≡ finite t b
    → whole (exact_term (of_product x y)) ≡ int s a *ℤ int t b

-- 1, -u, u times u, -u times u, and 1 times -1
abbrev pub TermLandmarks : Type 0
TermLandmarks =
    (whole (exact_term (of_pattern 0x3f80_0000)) ≡ pos (2 ^ 298))
    × (whole (exact_term (of_pattern 0x8000_0001)) ≡ neg_ℤ (pos (2 ^ 149)))
    × (whole (exact_term (of_product 1 1)) ≡ pos 1)
    × (whole (exact_term (of_product 0x8000_0001 1)) ≡ negsuc 0)
    × (whole (exact_term (of_product 0x3f80_0000 0xbf80_0000)) ≡ neg_ℤ (pos (2 ^ 298)))

-- ---- one call
-- R8.7: the four refusals, of which the first that applies is answered (R8.2)
abbrev pub AddingRefused : Type 0
AddingRefused =
    (t : List ℕ) (x : Term)
    → (length t ≢ total_size → adding t x ≡ refused 5)
    × (length t ≡ total_size → fit t ≡ false → adding t x ≡ refused 6)
    × (length t ≡ total_size → fit t ≡ true → finite_operands x ≡ false → adding t x ≡ refused 7)
    × (length t ≡ total_size → fit t ≡ true → finite_operands x ≡ true → count t ≡ most_terms → adding t x ≡ refused 8)

-- a finite term is accepted by a fit total that has room for it, and only so
abbrev pub AcceptedTerm : Type 0
AcceptedTerm =
    (t : List ℕ) (x : Term) → Words t
    → (adding t x ≡ done tt → FitTotal t × (finite_operands x ≡ true) × (count t < most_terms))
    × (FitTotal t → finite_operands x ≡ true → count t < most_terms → adding t x ≡ done tt)

-- an accepted term: the total is fit again, holds the exact sum, one term more, and 0 as the sign word exactly where it did and the term
-- is -0 (R6.11)
abbrev pub ExactAdding : Type 0
ExactAdding =
    (t : List ℕ) (x : Term) → Words t → adding t x ≡ done tt
    → FitTotal (after_adding t x)
    × (number (after_adding t x) ≡ number t +ℤ whole (exact_term x))
    × (count (after_adding t x) ≡ suc (count t))
    × (sign_word (after_adding t x) ≡ 0 ↔ ((sign_word t ≡ 0) × (is_minus_zero (exact_term x) ≡ true)))

-- R8.1: a refused one leaves all words
abbrev pub RefusedTerm : Type 0
RefusedTerm = (t : List ℕ) (x : Term) (n : ℕ) → adding t x ≡ refused n → after_adding t x ≡ t

-- R8.9: clearing refuses other than a total's words, and leaves them; else all words become 0
abbrev pub ClearingIs : Type 0
ClearingIs =
    (t : List ℕ)
    → (length t ≢ total_size → (clearing t ≡ refused 5) × (after_clearing t ≡ t))
    × (length t ≡ total_size → (clearing t ≡ done tt) × (after_clearing t ≡ zeros))

-- ---- what the contracts' relations say, with an answer of any type that has a `refusal` for each number and `carried_out`
-- R8.9, R8.1: clearing gives 22 zeros
abbrev pub ClearedAs : {A : Type 0} → (ℕ → A) → A → List ℕ → A → List ℕ → Type 0
ClearedAs refusal carried_out before answer after =
    (length before ≢ total_size → (answer ≡ refusal 5) × (after ≡ before))
    × (length before ≡ total_size → (answer ≡ carried_out) × (after ≡ replicate 22 0))

abbrev pub ClearsMeans : Type 0
ClearsMeans =
    (before after : List ℕ) (answer : Answer (Unit {0})) → Clears before answer after → ClearedAs refused (done tt) before answer after

-- by numbers: 5, or 0 where it is carried out (R8.2)
abbrev pub ClearNumbers : Type 0
ClearNumbers = (before after : List ℕ) (n : ℕ) → ClearsNumbered before n after → ClearedAs (λ k. k) 0 before n after

-- R8.7, R8.1: the four refusals in their order, which leave the words; else a fit total, whose number is the exact sum, one term more, and
-- 0 as the sign word exactly where it was 0 and the term is -0 (R6.11)
abbrev pub AddedAs : {A : Type 0} → (ℕ → A) → A → List ℕ → Term → A → List ℕ → Type 0
AddedAs refusal carried_out before x answer after =
    (length before ≢ total_size → (answer ≡ refusal 5) × (after ≡ before))
    × (length before ≡ total_size
    → (fit before ≡ false → (answer ≡ refusal 6) × (after ≡ before))
    × (fit before ≡ true → finite_operands x ≡ false → (answer ≡ refusal 7) × (after ≡ before))
    × (fit before ≡ true → finite_operands x ≡ true → count before ≡ most_terms → (answer ≡ refusal 8) × (after ≡ before))
    × (fit before ≡ true → finite_operands x ≡ true → count before ≢ most_terms → Words before
    → (answer ≡ carried_out)
    × FitTotal after
    × (number after ≡ number before +ℤ whole (exact_term x))
    × (count after ≡ suc (count before))
    × (sign_word after ≡ 0 ↔ ((sign_word before ≡ 0) × (is_minus_zero (exact_term x) ≡ true)))))

abbrev pub AddsMeans : Type 0
AddsMeans =
    (before after : List ℕ) (x : Term) (answer : Answer (Unit {0})) → Adds before x answer after
    → AddedAs refused (done tt) before x answer after

-- by numbers: a refusal's own, and 0 (R8.2)
abbrev pub AddsNumberedMeans : Type 0
AddsNumberedMeans =
    (before after : List ℕ) (x : Term) (n : ℕ) → AddsNumbered before x n after → AddedAs (λ k. k) 0 before x n after

-- Whatever keeps `AddsNumbered` gives the same answer and leaves the same words. What a reading promises is an equation too, with a
-- definition of the words alone (`reading`). So builds with these contracts make the same words of the same terms, and each reads what
-- another has stored, however adding is done inside (R12.3). The comparison holds the library to totals that an earlier build stored.
abbrev pub AddsAlike : Type 0
AddsAlike =
    (before after other : List ℕ) (x : Term) (n m : ℕ) → AddsNumbered before x n after → AddsNumbered before x m other
    → (n ≡ m) × (after ≡ other)

-- ---- columns
-- a column is one adding after the other, each on the words as they then are
abbrev pub ColumnNext : Type 0
ColumnNext =
    (t : List ℕ) (xs : List Term) (x : Term) → (column t [] ≡ t) × (column t (xs ++ (x ∷ [])) ≡ after_adding (column t xs) x)

-- where a column is accepted, so is each of its terms, by the words before it
abbrev pub AcceptedEach : Type 0
AcceptedEach = (t : List ℕ) (xs ys : List Term) (x : Term) → Accepted t (xs ++ (x ∷ ys)) → adding (column t xs) x ≡ done tt

-- finite where each of them is
abbrev pub AllFiniteIs : Type 0
AllFiniteIs = (xs : List Term) (x : Term) → AllFinite [] × (AllFinite xs → finite_operands x ≡ true → AllFinite (xs ++ (x ∷ [])))

-- any sequence of finite terms, no more than a total takes, from a cleared one: every one is accepted, and the number is the exact sum
abbrev pub ExactColumn : Type 0
ExactColumn =
    (xs : List Term) → length xs ≤ most_terms → AllFinite xs
    → Accepted zeros xs
    × (column zeros xs ≡ total_of (column_sum xs) (length xs) (column_sign xs))
    × (number (column zeros xs) ≡ column_sum xs)
    × (count (column zeros xs) ≡ length xs)
    × (sign_word (column zeros xs) ≡ column_sign xs)
    × FitTotal (column zeros xs)

-- in any order
abbrev pub AnyOrder : Type 0
AnyOrder = (xs ys : List Term) → Perm xs ys → length xs ≤ most_terms → AllFinite xs → column zeros xs ≡ column zeros ys

-- ---- reading
-- R8.8: the two refusals, in this order
abbrev pub ReadingRefused : Type 0
ReadingRefused =
    (t : List ℕ) → (length t ≢ total_size → reading t ≡ refused 5) × (length t ≡ total_size → fit t ≡ false → reading t ≡ refused 6)

-- every fit total reads the pair of its exact value, which is its number, but -0 where it has terms and the sign word 0,
abbrev pub ReadFit : Type 0
ReadFit =
    (t : List ℕ) → FitTotal t
    → (reading t ≡ pair_answer (pair_of binary32 (exact_total (number t) (count t) (sign_word t))))
    × ((sign_word t ≡ 1) ⊎ (count t ≡ 0) → reading t ≡ pair_answer (pair_of binary32 (exact_number (number t))))
    × (sign_word t ≡ 0 → 0 < count t → reading t ≡ pair_answer (pair_of binary32 (finite true 0)))

-- By numbers: 5, then 6, beside zeros; else 0 and both halves of the pair of the total's exact value (R6.5 to R6.8).
abbrev pub NoPairRead : ℕ → ReadingNumbers → Type 0
NoPairRead n r = (r.refusal ≡ n) × (r.first ≡ 0) × (r.second ≡ 0)

abbrev pub ReadNumbers : Type 0
ReadNumbers =
    (t : List ℕ) (r : ReadingNumbers) → r ≡ reading_numbers (reading t)
    → (length t ≢ total_size → NoPairRead 5 r)
    × (length t ≡ total_size → fit t ≡ false → NoPairRead 6 r)
    × (length t ≡ total_size → fit t ≡ true
    → let p = pair_of binary32 (exact_total (number t) (count t) (sign_word t)) in
    (r.refusal ≡ 0) × (r.first ≡ encode binary32 p.first) × (r.second ≡ encode binary32 p.second))

-- so that a column reads the pair of its exact sum, or of -0 where it has terms and all are -0
abbrev pub ReadColumn : Type 0
ReadColumn =
    (xs : List Term) → length xs ≤ most_terms → AllFinite xs
    → reading (column zeros xs) ≡ pair_answer (pair_of binary32 (exact_total (column_sum xs) (length xs) (column_sign xs)))

-- the number that is rounded is the total's, not another
abbrev pub ExactBack : Type 0
ExactBack = (z : ℤ) → whole (exact_number z) ≡ z

-- R6.5, R6.6: where first is finite, up to 2 ^ 128 - 2 ^ 103 itself (`OverflowRN0` of rounding_spec), second is the rest rounded, or a
-- zero of first's sign
abbrev pub ReadFinite : Type 0
ReadFinite =
    (t : List ℕ) (s : Bool) (a : ℕ) → FitTotal t → RN0 binary32 (exact_total (number t) (count t) (sign_word t)) ≡ finite s a
    → reading t
    ≡ pair_read (encode binary32 (finite s a))
    (zero_pattern s (encode binary32 (RN0 binary32 (exact_number (number t +ℤ int (not s) (a * 2 ^ 149))))))

-- R6.7: strictly above 2 ^ 128 - 2 ^ 103
abbrev pub ReadOverflow : Type 0
ReadOverflow =
    (t : List ℕ) (s : Bool) (N : ℕ) → FitTotal t → number t ≡ int s N → edge binary32 < N
    → reading t ≡ pair_read (encode binary32 (infinite s)) (encode binary32 (infinite s))

-- R6.8: a zero total: -0 twice where it has terms and the sign word 0, +0 twice where it has another, or no terms
abbrev pub ReadZero : Type 0
ReadZero =
    (t : List ℕ) → FitTotal t → number t ≡ pos 0
    → (0 < count t → sign_word t ≡ 0 → reading t ≡ pair_read 0x8000_0000 0x8000_0000)
    × (sign_word t ≢ 0 → reading t ≡ pair_read 0 0)
    × (count t ≡ 0 → reading t ≡ pair_read 0 0)

-- R6.6: a total that is not zero, of a magnitude up to 2 ^ -150, which is half of u, reads a zero of its own sign twice
abbrev pub ReadRoundedToZero : Type 0
ReadRoundedToZero =
    (t : List ℕ) (s : Bool) (N : ℕ) → FitTotal t → number t ≡ int s (suc N) → suc N ≤ 2 ^ 148
    → reading t ≡ pair_read (encode binary32 (finite s 0)) (encode binary32 (finite s 0))

-- two patterns read their sum pair (R3.1), that of zeros too,
abbrev pub ReadSum : Type 0
ReadSum =
    (x y : ℕ) → finite_operands (of_pattern x) ≡ true → finite_operands (of_pattern y) ≡ true
    → reading (column zeros (of_pattern x ∷ of_pattern y ∷ [])) ≡ pair_read (sum_pair binary32 x y).first (sum_pair binary32 x y).second

-- and a product its product pair (R3.2)
abbrev pub ReadProduct : Type 0
ReadProduct =
    (x y : ℕ) → finite_operands (of_product x y) ≡ true
    → reading (column zeros (of_product x y ∷ [])) ≡ pair_read (product_pair binary32 x y).first (product_pair binary32 x y).second

-- all of them
abbrev pub All : Type 0
All =
    TotalSizes × WordAt × WordsFormed × NaturalWords × IntegerHeld × WordsUnique × NumberAndCount × NumberHeld × TotalUnique
    × TotalLandmarks × FitIs × LowestUnfit × ClearedZeros × FiniteOperandsAre × PatternTerm × ProductTerm × TermLandmarks × AddingRefused
    × AcceptedTerm × ExactAdding × RefusedTerm × ClearingIs × ClearsMeans × ClearNumbers × AddsMeans × AddsNumberedMeans × AddsAlike
    × ColumnNext × AcceptedEach × AllFiniteIs × ExactColumn × AnyOrder × ReadingRefused × ReadFit × ReadNumbers × ReadColumn × ExactBack
    × ReadFinite × ReadOverflow × ReadZero × ReadRoundedToZero × ReadSum × ReadProduct × JoiningRefused × AcceptedJoin × ExactJoin
    × RefusedJoin × JoinsMeans × JoinsNumberedMeans × BuiltBy × BuiltIsColumn × JoinedIsColumn × ColumnsJoin × ColumnBuilt × EmptyJoins
    × JoinLandmarks × SignOfBothIs × PatternMinusZero × ProductMinusZero × WithinIs × UnfitSigns × ColumnSignIs × ColumnMinusZero
    × CarryingRefused × CarriesMeans × CarriesNumberedMeans × FitOldIs × OldReads × CarriedFit × OldColumnIs × OldBuiltIs
    × CarriedTermsAre × CarriedColumn × SignLandmarks × AnswersOfOne × AnswersOfTwo
