-- One question by the pair that came back: whether it enters, and what it leaves on both totals.
use mathlib.Core.Path.{◌≡◌, refl, sym, ap, ap₂, ◌∙◌, subst}
use mathlib.Core.Bool.{true≢false, Bool, true, false}
use mathlib.Core.List.{List, [], ◌∷◌}
use Prim.Native.Nat.{ℕ}
use borrow.Author.Tests.{eqb-true}
use lib.Dec.{eqb}
use Rattle.std.proofs.Common.{Result, Ok, Err}
use Rattle.std.specs.Result.{result_unwrap_or}
use Rattle.pattern_spec.specs.Answer.{Answer, refused}
use Rattle.augmented_spec.specs.declared.Pair.{Pair}
use Rattle.augmented_spec.specs.declared.NoOperation.{NoOperation}
use Rattle.augmented_spec.specs.declared.Operation.{Operation}
use Rattle.augmented_spec.specs.declared.Operation.TheVariants.{Sum as sum, Difference as difference, Product as product}
use Rattle.augmented_spec.specs.Operations.{Numbers, is_operation, operation_of}
use Rattle.worksheet_spec.specs.Filling.{FilledSheet, filled, HasDirectPair, Fills}
use Rattle.worksheet_spec.proofs.Theorems.{filled-pair}
use Rattle.accumulator_spec.specs.Totals.{Term, of_pattern, after_adding}
use Rattle.accumulator_spec.specs.Columns.{column}
use Rattle.conservation_spec.specs.Lists.{Posed, sheet_for, operation_for, direct_for, pair_enters, enters, set_terms, Totals}
use Rattle.conservation_spec.specs.Inner.{Settles}

module _ (q : Posed) where
  -- the pair that came back is the direct pair
  enters_is : (n : ℕ) (p : Pair) → filled n p ≡ sheet_for q → enters q ≡ pair_enters p
  unfolding enters
  enters_is n p e =
      let d : p ≡ direct_for q = subst (HasDirectPair q.operation q.x q.y) (sym e) (filled-pair q.operation q.x q.y q.words) in
      rw (← e, d)

  refused-out : (n : ℕ) → refused n ≡ sheet_for q → enters q ≡ false
  unfolding enters
  refused-out n e = rw (← e)

  -- what a call of filling and the adding calls leave
  module _ (t : Totals) {words : List ℕ} {answer : Answer FilledSheet} (f : Fills q.operation q.x q.y q.words answer words) where
    out : enters q ≡ false → Settles q t words t
    out e = (f.1, rw e)

    pub refused-settles : (n : ℕ) → answer ≡ refused n → Settles q t words t
    refused-settles n e = out (refused-out n (sym e ∙ f.0))

    pub outside-settles : (n : ℕ) (p : Pair) → answer ≡ filled n p → pair_enters p ≡ false → Settles q t words t
    outside-settles n p e b = out (enters_is n p (sym e ∙ f.0) ∙ b)

    pub entering-settles : (n : ℕ) (p : Pair) → answer ≡ filled n p → pair_enters p ≡ true → (first other : List ℕ)
        → first ≡ column t.first (of_pattern p.first ∷ of_pattern p.second ∷ []) → other ≡ column t.other (set_terms (operation_for q) q.x q.y)
        → Settles q t words (record { first = first; other = other })
    entering-settles n p e b first other g h =
        let k = sym e ∙ f.0 in
        (f.1, rw (enters_is n p k ∙ b, ← k) (ap₂ {C = Totals} (λ (u v : List ℕ). record { first = u; other = v }) g h))

-- ---- terms one after_event the other
pub one-term : (t a : List ℕ) (x : Term) → a ≡ after_adding t x → a ≡ column t (x ∷ [])
unfolding column
one-term t a x e = e

pub two-terms : (t a b : List ℕ) (x y : Term) → a ≡ after_adding t x → b ≡ after_adding a y → b ≡ column t (x ∷ y ∷ [])
unfolding column
two-terms t a b x y e f = f ∙ ap (λ (u : List ℕ). after_adding u y) e

-- a number that stands for no other operation counts as a product's
pub product-asked : (n : ℕ) (r : Result Operation NoOperation) → Numbers n r → result_unwrap_or r product ≡ product → operation_of n ≡ product
product-asked n (Ok sum) is e = cc
product-asked n (Ok difference) is e = cc
product-asked n (Ok product) is e = rw (← is) refl
product-asked n (Err d) none e = go (eqb n 1) refl (eqb n 2) refl
  where
    go : (i : Bool) → eqb n 1 ≡ i → (j : Bool) → eqb n 2 ≡ j → operation_of n ≡ product
    go true is j js = absurd (true≢false (ap is_operation (sym (eqb-true n 1 is)) ∙ none))
    go false is true js = absurd (true≢false (ap is_operation (sym (eqb-true n 2 js)) ∙ none))
    go false is false js = rw (is, js)
