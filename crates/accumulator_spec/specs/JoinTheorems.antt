-- What holds of joining: that the definitions mean what is asked (R6.9 to R6.11, R6.14, R8.16). Theorems.antt has these statements in its
-- `All`.
use Rattle.std.specs.Prelude.{ℕ, ◌+◌, ◌^◌, ◌≤◌, ◌<◌, ◌≡◌, ◌≢◌, ◌↔◌, true, false, length, replicate, pos, negsuc, ◌+ℤ◌}
use mathlib.Core.List.{List, [], ◌∷◌, ◌++◌, Perm}
use Rattle.pattern_spec.specs.Answer.{Answer, refused, done}
use Rattle.accumulator_spec.specs.Words.{Words}
use Rattle.accumulator_spec.specs.Totals.{zeros, number_size, total_size, most_terms, number, count, sign_word, total_of, fit, FitTotal}
use Rattle.accumulator_spec.specs.Totals.{Term, adding, after_adding}
use Rattle.accumulator_spec.specs.Columns.{column, Accepted, AllFinite}
use Rattle.accumulator_spec.specs.Carrying.{old_column, carried_terms, carrying, after_carrying}
use Rattle.accumulator_spec.specs.Joins.{joining, after_joining, Joins, JoinsNumbered, Built}

-- ---- one call
-- R8.16: the five conditions in their order, of which the first that applies is answered (R8.2)
abbrev pub JoiningRefused : Type 0
JoiningRefused =
    (f s : List ℕ)
    → (length f ≢ total_size → joining f s ≡ refused 5)
    × (length f ≡ total_size → fit f ≡ false → joining f s ≡ refused 6)
    × (length f ≡ total_size → fit f ≡ true → length s ≢ total_size → joining f s ≡ refused 5)
    × (length f ≡ total_size → fit f ≡ true → length s ≡ total_size → fit s ≡ false → joining f s ≡ refused 6)
    × (length f ≡ total_size → fit f ≡ true → length s ≡ total_size → fit s ≡ true → 65536 < count f + count s → joining f s ≡ refused 12)

-- two fit totals of at most 65,536 terms together are joined, and only such
abbrev pub AcceptedJoin : Type 0
AcceptedJoin =
    (f s : List ℕ) → Words f → Words s
    → (joining f s ≡ done tt → FitTotal f × FitTotal s × (count f + count s ≤ most_terms))
    × (FitTotal f → FitTotal s → count f + count s ≤ most_terms → joining f s ≡ done tt)

-- R6.9, R6.11: a joined total is fit, and holds the exact sum of both numbers and of both counts; its sign word is 0 exactly where both are
abbrev pub ExactJoin : Type 0
ExactJoin =
    (f s : List ℕ) → joining f s ≡ done tt
    → FitTotal (after_joining f s)
    × (number (after_joining f s) ≡ number f +ℤ number s)
    × (count (after_joining f s) ≡ count f + count s)
    × (sign_word (after_joining f s) ≡ 0 ↔ ((sign_word f ≡ 0) × (sign_word s ≡ 0)))

-- R8.1: a refused join leaves the first's words
abbrev pub RefusedJoin : Type 0
RefusedJoin = (f s : List ℕ) (n : ℕ) → joining f s ≡ refused n → after_joining f s ≡ f

-- ---- what the contracts' relations say, with an answer of any type that has a `refusal` for each number and `carried_out`
-- R8.16, R8.1: the refusals in their order, which leave the first's words; else a fit total with the sums of both, and 0 as the sign
-- word exactly where both have it (R6.11)
abbrev pub JoinedAs : {A : Type 0} → (ℕ → A) → A → List ℕ → List ℕ → A → List ℕ → Type 0
JoinedAs refusal carried_out first second answer after =
    (length first ≢ total_size → (answer ≡ refusal 5) × (after ≡ first))
    × (length first ≡ total_size → fit first ≡ false → (answer ≡ refusal 6) × (after ≡ first))
    × (length first ≡ total_size → fit first ≡ true
    → (length second ≢ total_size → (answer ≡ refusal 5) × (after ≡ first))
    × (length second ≡ total_size → fit second ≡ false → (answer ≡ refusal 6) × (after ≡ first))
    × (length second ≡ total_size → fit second ≡ true
    → (most_terms < count first + count second → (answer ≡ refusal 12) × (after ≡ first))
    × (count first + count second ≤ most_terms
    → (answer ≡ carried_out)
    × FitTotal after
    × (number after ≡ number first +ℤ number second)
    × (count after ≡ count first + count second)
    × (sign_word after ≡ 0 ↔ ((sign_word first ≡ 0) × (sign_word second ≡ 0))))))

abbrev pub JoinsMeans : Type 0
JoinsMeans =
    (first second after : List ℕ) (answer : Answer (Unit {0})) → Joins first second answer after
    → JoinedAs refused (done tt) first second answer after

-- by numbers: a refusal's own, and 0 (R8.2)
abbrev pub JoinsNumberedMeans : Type 0
JoinsNumberedMeans =
    (first second after : List ℕ) (n : ℕ) → JoinsNumbered first second n after → JoinedAs (λ k. k) 0 first second n after

-- ---- totals that were built (R6.10, R6.14)
-- the ways of building: from nothing, by one term more, by two totals that were built, by an old total of finite terms that is carried over
abbrev pub BuiltBy : Type 0
BuiltBy =
    Built zeros []
    × ((t : List ℕ) (xs : List Term) (x : Term) → Built t xs → adding t x ≡ done tt → Built (after_adding t x) (xs ++ (x ∷ [])))
    × ((t u : List ℕ) (xs ys : List Term) → Built t xs → Built u ys → joining t u ≡ done tt → Built (after_joining t u) (xs ++ ys))
    × ((new : List ℕ) (xs : List Term) → AllFinite xs → carrying (old_column xs) new ≡ done tt
    → Built (after_carrying (old_column xs) new) (carried_terms xs))

-- However it was built, its words are those of one column of all the terms that it stands for, in any order, each of which that column
-- accepts.
abbrev pub BuiltIsColumn : Type 0
BuiltIsColumn =
    (t : List ℕ) (xs zs : List Term) → Built t xs → Perm xs zs
    → (t ≡ column zeros zs) × Accepted zeros zs × AllFinite zs × (length zs ≤ most_terms) × FitTotal t

-- so of two that are joined: one column of the terms of both
abbrev pub JoinedIsColumn : Type 0
JoinedIsColumn =
    (f s : List ℕ) (xs ys zs : List Term) → Built f xs → Built s ys → joining f s ≡ done tt → Perm (xs ++ ys) zs
    → (after_joining f s ≡ column zeros zs) × Accepted zeros zs

-- columns of finite terms that have room in one are joined, and leave that one
abbrev pub ColumnsJoin : Type 0
ColumnsJoin =
    (xs ys : List Term) → length xs + length ys ≤ most_terms → AllFinite xs → AllFinite ys
    → (joining (column zeros xs) (column zeros ys) ≡ done tt)
    × (after_joining (column zeros xs) (column zeros ys) ≡ column zeros (xs ++ ys))

-- every column of at most 65,536 finite terms is built
abbrev pub ColumnBuilt : Type 0
ColumnBuilt = (xs : List Term) → length xs ≤ most_terms → AllFinite xs → Built (column zeros xs) xs

-- an empty total is joined too, on either side, and leaves the other's words
abbrev pub EmptyJoins : Type 0
EmptyJoins =
    (t : List ℕ) → FitTotal t
    → (joining t zeros ≡ done tt) × (after_joining t zeros ≡ t) × (joining zeros t ≡ done tt) × (after_joining zeros t ≡ t)

-- ---- by computation
-- -1 and 1, a carry through all words; -1 and -2 ^ 32; room for 65,536 terms and for no more; 6 of the first before 5 of the second, and 5
-- of the second before 12
abbrev pub JoinLandmarks : Type 0
JoinLandmarks =
    (after_joining (replicate number_size 0xffff_ffff ++ (3 ∷ 1 ∷ [])) (1 ∷ replicate 19 0 ++ (4 ∷ 1 ∷ []))
    ≡ replicate number_size 0 ++ (7 ∷ 1 ∷ []))
    × (after_joining (total_of (negsuc 0) 3 1) (total_of (negsuc 0xffff_ffff) 4 1) ≡ total_of (negsuc (2 ^ 32)) 7 1)
    × (joining (total_of (pos 5) 65535 1) (total_of (pos 0) 1 1) ≡ done tt)
    × (joining (total_of (pos 5) 65535 1) (total_of (pos 0) 2 1) ≡ refused 12)
    × (joining (total_of (pos 1) 0 0) [] ≡ refused 6)
    × (joining (total_of (pos 1) 65536 1) (total_of (pos 0) 1 1 ++ (0 ∷ [])) ≡ refused 5)
