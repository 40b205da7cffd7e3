-- The letters of a line and the operation's number, each from the other.
use Prim.Native.Nat.{ℕ, ◌≤◌}
use mathlib.Core.Path.{◌≡◌, refl, sym, ◌∙◌, ap}
use mathlib.Core.Logic.{◌≢◌}
use mathlib.Core.Bool.{Bool, true, false, cond, ◌&&◌}
use mathlib.Core.List.{List, [], ◌∷◌}
use native.Mathlib.Omega.{arith}
use borrow.Author.Tests.{eqb-true}
use lib.Dec.{eqb, lit<}
use lib.ListN.{length, get_or, take, drop_of_length-le}
use lib.Seq.{drop-cons, get_or-take, length-take-le}
use Rattle.pattern_spec.proofs.Truth.{both_of}
use Rattle.augmented_spec.specs.declared.Operation.{Operation}
use Rattle.augmented_spec.specs.declared.Operation.TheVariants.{Sum as sum, Difference as difference, Product as product}
use Rattle.augmented_spec.specs.Operations.{is_operation, operation_number}
use Rattle.question_spec.specs.Questions.{operation_letters, operation_letters_by_number, starts, letters_operation}

as-three : (l : List ℕ) → length l ≡ 3 → get_or l 0 0 ∷ get_or l 1 0 ∷ get_or l 2 0 ∷ [] ≡ l
as-three l e =
    let a = drop-cons l 0 0 (omega arith) in
    let b = drop-cons l 1 0 (omega arith) in
    let c = drop-cons l 2 0 (omega arith) in
    let z = drop_of_length-le l {i = 3} (omega arith) in
    cc (a, b, c, z)

pub three-letters : (o : Operation) → length (operation_letters o) ≡ 3
three-letters sum = refl
three-letters difference = refl
three-letters product = refl

module _ (line : List ℕ) where
  at-three : (three : List ℕ) → take 3 line ≡ three
      → (get_or line 0 0 ≡ get_or three 0 0) × (get_or line 1 0 ≡ get_or three 1 0) × (get_or line 2 0 ≡ get_or three 2 0)
  at-three three e = (
    sym (get_or-take 3 line 0 0 (lit< tt)) ∙ ap (λ (l : List ℕ). get_or l 0 0) e,
    sym (get_or-take 3 line 1 0 (lit< tt)) ∙ ap (λ (l : List ℕ). get_or l 1 0) e,
    sym (get_or-take 3 line 2 0 (lit< tt)) ∙ ap (λ (l : List ℕ). get_or l 2 0) e,
  )

  pub of-letters : (o : Operation) → take 3 line ≡ operation_letters o → letters_operation line ≡ operation_number o
  unfolding letters_operation
  of-letters sum e = let at = at-three (operation_letters sum) e in rw (at.0, at.1, at.2)
  of-letters difference e = let at = at-three (operation_letters difference) e in rw (at.0, at.1, at.2)
  of-letters product e = let at = at-three (operation_letters product) e in rw (at.0, at.1, at.2)

  started : 3 ≤ length line → (three : List ℕ) → length three ≡ 3 → starts line three ≡ true → take 3 line ≡ three
  started long three full is =
      let p = both_of (eqb (get_or line 0 0) (get_or three 0 0)) (eqb (get_or line 1 0) (get_or three 1 0) && eqb (get_or line 2 0) (get_or three 2 0)) is in
      let q = both_of (eqb (get_or line 1 0) (get_or three 1 0)) (eqb (get_or line 2 0) (get_or three 2 0)) p.1 in
      cc (
        as-three (take 3 line) (length-take-le 3 line long),
        as-three three full,
        get_or-take 3 line 0 0 (lit< tt),
        get_or-take 3 line 1 0 (lit< tt),
        get_or-take 3 line 2 0 (lit< tt),
        eqb-true (get_or line 0 0) (get_or three 0 0) p.0,
        eqb-true (get_or line 1 0) (get_or three 1 0) q.0,
        eqb-true (get_or line 2 0) (get_or three 2 0) q.1,
      )

none : (s d m : Bool) → (s ≡ true → ⊥) → (d ≡ true → ⊥) → (m ≡ true → ⊥)
    → cond s (operation_number sum) (cond d (operation_number difference) (cond m (operation_number product) 0)) ≡ 0
none true d m p q r = absurd (p refl)
none false true m p q r = absurd (q refl)
none false false true p q r = absurd (r refl)
none false false false p q r = refl

which : (s d m : Bool) (l : List ℕ) (o : ℕ)
    → (s ≡ true → l ≡ operation_letters sum) → (d ≡ true → l ≡ operation_letters difference) → (m ≡ true → l ≡ operation_letters product)
    → cond s (operation_number sum) (cond d (operation_number difference) (cond m (operation_number product) 0)) ≡ o → o ≢ 0
    → (l ≡ operation_letters_by_number o) × (is_operation o ≡ true)
unfolding operation_letters_by_number
which true d m l o p q r is n = rw (sym is) (p refl, refl)
which false true m l o p q r is n = rw (sym is) (q refl, refl)
which false false true l o p q r is n = rw (sym is) (r refl, refl)
which false false false l o p q r is n = absurd (n (sym is))

module _ (line : List ℕ) (long : 3 ≤ length line) where
  begun : (o : Operation) → starts line (operation_letters o) ≡ true → take 3 line ≡ operation_letters o
  begun o = started line long (operation_letters o) (three-letters o)

  -- other letters are unknown
  pub unknown : take 3 line ≢ operation_letters sum → take 3 line ≢ operation_letters difference → take 3 line ≢ operation_letters product
      → letters_operation line ≡ 0
  unfolding letters_operation
  unknown p q r =
      none (starts line (operation_letters sum)) (starts line (operation_letters difference)) (starts line (operation_letters product))
      (λ e. p (begun sum e)) (λ e. q (begun difference e)) (λ e. r (begun product e))

  pub known : (o : ℕ) → letters_operation line ≡ o → o ≢ 0 → (take 3 line ≡ operation_letters_by_number o) × (is_operation o ≡ true)
  unfolding letters_operation
  known o =
      which (starts line (operation_letters sum)) (starts line (operation_letters difference)) (starts line (operation_letters product)) (take 3 line) o
      (begun sum) (begun difference) (begun product)
