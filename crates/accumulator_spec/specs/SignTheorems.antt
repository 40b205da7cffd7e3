-- What holds of the sign word (R6.8, R6.11, R6.12), and of old totals that are carried over (R6.13, R6.14, R8.17). Theorems.antt has these
-- statements in its `All`.
use Rattle.std.specs.Prelude.{ℕ, ◌*◌, ◌^◌, ◌≤◌, ◌<◌, ◌≡◌, ◌≢◌, ◌↔◌, Bool, true, false, ◌&&◌, ◌||◌, List}
use Rattle.std.specs.Prelude.{[], ◌∷◌, ◌++◌, eqb, length, take, replicate, pos, nat_abs}
use Rattle.std.specs.Float.Ieee.{unlike}
use Rattle.rounding_spec.specs.Format.{binary32}
use Rattle.rounding_spec.specs.Value.{finite, decode}
use Rattle.pattern_spec.specs.Answer.{Answer, refused, done}
use Rattle.augmented_spec.specs.Pairs.{pair_of}
use Rattle.accumulator_spec.specs.Totals.{zeros, number_size, total_size, most_terms, number, count, sign_word, fit, within_limits}
use Rattle.accumulator_spec.specs.Totals.{FitTotal, Term, of_pattern, of_product, exact_term, is_minus_zero, sign_of_both, after_adding}
use Rattle.accumulator_spec.specs.Totals.{pair_read, exact_number, pair_answer, reading}
use Rattle.accumulator_spec.specs.Columns.{column, AllFinite, AllMinusZero}
use Rattle.accumulator_spec.specs.Carrying.{old_size, old_column, FitOld, old_reading, carrying, after_carrying, Carries, CarriesNumbered}
use Rattle.accumulator_spec.specs.Carrying.{carried_terms}
use Rattle.accumulator_spec.specs.Joins.{after_joining, Built}
use Rattle.accumulator_spec.specs.Words.{Words}

-- ---- the sign word (R6.11)
-- 0 exactly where both are 0, and else 1
abbrev pub SignOfBothIs : Type 0
SignOfBothIs = (v w : ℕ) → (sign_of_both v w ≡ 0 ↔ ((v ≡ 0) × (w ≡ 0))) × (sign_of_both v w ≤ 1)

-- a pattern is -0 where its sign bit is set and no other
abbrev pub PatternMinusZero : Type 0
PatternMinusZero = (x : ℕ) → x < 2 ^ 32 → (is_minus_zero (exact_term (of_pattern x)) ≡ true) ↔ (x ≡ 0x8000_0000)

-- a product is -0 where either factor is a zero, and their signs are unlike
abbrev pub ProductMinusZero : Type 0
ProductMinusZero =
    (x y : ℕ) (s t : Bool) (a b : ℕ) → decode binary32 x ≡ finite s a → decode binary32 y ≡ finite t b
    → is_minus_zero (exact_term (of_product x y)) ≡ (unlike s t && (eqb a 0 || eqb b 0))

-- R6.3: count and magnitude, both bounds inclusive, of a total as of an old one
abbrev pub WithinIs : Type 0
WithinIs = (t : List ℕ) → (within_limits t ≡ true) ↔ ((count t ≤ most_terms) × (nat_abs (number t) ≤ count t * 2 ^ 554))

-- R6.12: the three kinds of total that it makes unfit
abbrev pub UnfitSigns : Type 0
UnfitSigns =
    (t : List ℕ)
    → (1 < sign_word t → fit t ≡ false)
    × (sign_word t ≡ 0 → number t ≢ pos 0 → fit t ≡ false)
    × (sign_word t ≡ 1 → count t ≡ 0 → fit t ≡ false)

-- ---- of columns
-- it is 0 exactly where all terms are -0, and else 1
abbrev pub ColumnSignIs : Type 0
ColumnSignIs =
    (xs : List Term) → length xs ≤ most_terms → AllFinite xs
    → (sign_word (column zeros xs) ≡ 0 ↔ AllMinusZero xs) × (sign_word (column zeros xs) ≤ 1)

-- the number 0, the sign word 0 and a count above 0: exactly where there is a term and all are -0; such a column reads -0 twice (R6.8)
abbrev pub ColumnMinusZero : Type 0
ColumnMinusZero =
    (xs : List Term) → length xs ≤ most_terms → AllFinite xs → let t = column zeros xs in
    (((number t ≡ pos 0) × (sign_word t ≡ 0) × (0 < count t)) ↔ ((0 < length xs) × AllMinusZero xs))
    × (0 < length xs → AllMinusZero xs → reading t ≡ pair_read 0x8000_0000 0x8000_0000)

-- ---- carrying over
-- R8.17: its conditions in their order: 5 of either array, then 6 of the old one
abbrev pub CarryingRefused : Type 0
CarryingRefused =
    (old new : List ℕ)
    → (length old ≢ old_size → carrying old new ≡ refused 5)
    × (length new ≢ total_size → carrying old new ≡ refused 5)
    × (length old ≡ old_size → length new ≡ total_size → within_limits old ≡ false → carrying old new ≡ refused 6)

-- what the contracts' relations say, with an answer of any type that has a `refusal` for each number and `carried_out`: the refusals, which
-- leave the new one's words; else a fit total with the old one's words, number and count, and a sign word by the count
abbrev pub CarriedAs : {A : Type 0} → (ℕ → A) → A → List ℕ → List ℕ → A → List ℕ → Type 0
CarriedAs refusal carried_out old new answer after =
    (length old ≢ old_size → (answer ≡ refusal 5) × (after ≡ new))
    × (length new ≢ total_size → (answer ≡ refusal 5) × (after ≡ new))
    × (length old ≡ old_size → length new ≡ total_size
    → (within_limits old ≡ false → (answer ≡ refusal 6) × (after ≡ new))
    × (within_limits old ≡ true
    → (answer ≡ carried_out)
    × (take old_size after ≡ old) × (length after ≡ total_size)
    × (Words old → FitTotal after × (number after ≡ number old) × (count after ≡ count old))
    × (count old ≡ 0 → sign_word after ≡ 0)
    × (count old ≢ 0 → sign_word after ≡ 1)))

abbrev pub CarriesMeans : Type 0
CarriesMeans =
    (old new after : List ℕ) (answer : Answer (Unit {0})) → Carries old new answer after → CarriedAs refused (done tt) old new answer after

-- by numbers: a refusal's own, and 0 (R8.2)
abbrev pub CarriesNumberedMeans : Type 0
CarriesNumberedMeans = (old new after : List ℕ) (n : ℕ) → CarriesNumbered old new n after → CarriedAs (λ k. k) 0 old new n after

-- R6.13: which old totals are fit
abbrev pub FitOldIs : Type 0
FitOldIs =
    (t : List ℕ)
    → FitOld t ↔ ((length t ≡ 21) × Words t × (count t ≤ most_terms) × (nat_abs (number t) ≤ count t * 2 ^ 554))

-- and what they read
abbrev pub OldReads : Type 0
OldReads =
    (t : List ℕ)
    → (length t ≢ old_size → old_reading t ≡ refused 5)
    × (length t ≡ old_size → within_limits t ≡ false → old_reading t ≡ refused 6)
    × (FitOld t → old_reading t ≡ pair_answer (pair_of binary32 (exact_number (number t))))

-- R6.14: every fit one is carried over, into a fit total with its number and count, which reads as the old one read
abbrev pub CarriedFit : Type 0
CarriedFit =
    (old new : List ℕ) → FitOld old → length new ≡ total_size → let t = after_carrying old new in
    (carrying old new ≡ done tt)
    × FitTotal t × (number t ≡ number old) × (count t ≡ count old) × (reading t ≡ old_reading old)

-- ---- the terms that it stands for (R6.14)
-- an old total of these terms has the first 21 words that the column of them has now
abbrev pub OldColumnIs : Type 0
OldColumnIs = (xs : List Term) → length xs ≤ most_terms → AllFinite xs → take old_size (column zeros xs) ≡ old_column xs

-- so has one that was built from these terms by adding and joining (R6.10)
abbrev pub OldBuiltIs : Type 0
OldBuiltIs = (t : List ℕ) (xs : List Term) → Built t xs → take old_size t ≡ old_column xs

-- all of them -0: as if the first had been +0; else its own terms
abbrev pub CarriedTermsAre : Type 0
CarriedTermsAre =
    (carried_terms [] ≡ [])
    × ((x : Term) (xs : List Term) → AllMinusZero (x ∷ xs) → carried_terms (x ∷ xs) ≡ of_pattern 0 ∷ xs)
    × ((xs : List Term) → (AllMinusZero xs → ⊥) → carried_terms xs ≡ xs)

-- carried over, it has the words of the column of those, and as many are counted
abbrev pub CarriedColumn : Type 0
CarriedColumn =
    (new : List ℕ) (xs : List Term) → length xs ≤ most_terms → AllFinite xs → length new ≡ total_size
    → (carrying (old_column xs) new ≡ done tt)
    × (after_carrying (old_column xs) new ≡ column zeros (carried_terms xs))
    × (length (carried_terms xs) ≡ length xs)

-- ---- by computation
-- the words of a number 0 with this count and this sign word
abbrev pub zero_with : ℕ → ℕ → List ℕ
zero_with n w = replicate number_size 0 ++ (n ∷ w ∷ [])

-- -0, +0, -0 times 1 and times -1, +0 times -1, -1, each to a cleared total; +0 to a column of -0; joins of all kinds; old totals without
-- terms and with one; readings
abbrev pub SignLandmarks : Type 0
SignLandmarks =
    (after_adding zeros (of_pattern 0x8000_0000) ≡ zero_with 1 0)
    × (after_adding zeros (of_pattern 0) ≡ zero_with 1 1)
    × (after_adding zeros (of_product 0x8000_0000 0x3f80_0000) ≡ zero_with 1 0)
    × (after_adding zeros (of_product 0x8000_0000 0xbf80_0000) ≡ zero_with 1 1)
    × (after_adding zeros (of_product 0 0xbf80_0000) ≡ zero_with 1 0)
    × (sign_word (after_adding zeros (of_pattern 0xbf80_0000)) ≡ 1)
    × (after_adding (zero_with 7 0) (of_pattern 0) ≡ zero_with 8 1)
    × (after_adding (zero_with 7 1) (of_pattern 0x8000_0000) ≡ zero_with 8 1)
    × (after_joining (zero_with 2 0) (zero_with 3 0) ≡ zero_with 5 0)
    × (after_joining (zero_with 2 0) (zero_with 3 1) ≡ zero_with 5 1)
    × (after_joining (zero_with 2 1) (zero_with 3 0) ≡ zero_with 5 1)
    × (after_joining (zero_with 2 1) (zero_with 3 1) ≡ zero_with 5 1)
    × (after_carrying (replicate 21 0) (replicate 22 7) ≡ zeros)
    × (after_carrying (replicate 20 0 ++ (1 ∷ [])) (replicate 22 7) ≡ zero_with 1 1)
    × (reading (zero_with 1 0) ≡ pair_read 0x8000_0000 0x8000_0000)
    × (reading (zero_with 1 1) ≡ pair_read 0 0)
    × (reading zeros ≡ pair_read 0 0)
