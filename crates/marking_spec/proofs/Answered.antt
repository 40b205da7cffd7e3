-- Marking: one law a case, whichever test comes first.
use mathlib.Core.Path.{◌≡◌, refl}
use mathlib.Core.Bool.{true, false}
use mathlib.Core.List.{List, []}
use mathlib.Core.Logic.{◌⊎◌, inl, inr}
use Prim.Native.Nat.{ℕ, ◌≤◌, ◌<◌}
use native.Mathlib.Omega.{arith}
use borrow.Author.Tests.{le-leb, lt-leb}
use lib.ListN.{length}
use Rattle.augmented_spec.specs.declared.Operation.{Operation}
use Rattle.augmented_spec.specs.declared.Operation.TheVariants.{Sum as sum, Difference as difference, Product as product}
use Rattle.augmented_spec.specs.Operations.{is_operation, operation_number, operation_of}
use Rattle.marking_spec.specs.Marking.{claims, refused_at, in_order, is_markable, marking}

module _ (n x y : ℕ) (words : List ℕ) where
  pub no-operation : (n ≡ 0) ⊎ (3 < n) → marking n x y words ≡ refused_at 10 0
  unfolding marking
  no-operation h = elim h [ inl e ↦ rw (lt-leb 1 n (omega (arith, e))) | inr k ↦ rw (le-leb 1 n (omega (arith, k)), lt-leb n 3 k) ]

  module _ (low : 1 ≤ n) (high : n ≤ 3) where
    pub unfit-words : is_markable (length words) ≡ false → marking n x y words ≡ refused_at 13 0
    unfolding marking
    unfit-words e = rw (le-leb 1 n low, le-leb n 3 high, e)

    pub looked-at : is_markable (length words) ≡ true → marking n x y words ≡ in_order (operation_of n) x y [] (claims words)
    unfolding marking
    looked-at e = rw (le-leb 1 n low, le-leb n 3 high, e)

-- ---- by the operation that the number stands for
numbered : (o : Operation) → (is_operation (operation_number o) ≡ true) × (operation_of (operation_number o) ≡ o)
numbered sum = (refl, refl)
numbered difference = (refl, refl)
numbered product = (refl, refl)

module _ (n x y : ℕ) (words : List ℕ) where
  pub none-asked : is_operation n ≡ false → marking n x y words ≡ refused_at 10 0
  unfolding marking
  none-asked e = rw e

  module _ (o : Operation) (is : operation_number o ≡ n) where
    pub unfit-asked : is_markable (length words) ≡ false → marking n x y words ≡ refused_at 13 0
    unfolding marking
    unfit-asked e = rw (← is, (numbered o).0, e)

    pub fit-asked : is_markable (length words) ≡ true → marking n x y words ≡ in_order o x y [] (claims words)
    unfolding marking
    fit-asked e = rw (← is, (numbered o).0, (numbered o).1, e)
