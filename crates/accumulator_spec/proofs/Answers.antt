-- What clearing, adding and reading answer, and the words as they end, by the conditions in their order.
use mathlib.Core.Path.{◌≡◌, refl, sym, ap, ◌∙◌}
use mathlib.Core.Bool.{true≢false, Bool, true, false}
use mathlib.Core.List.{List}
use Prim.Native.Nat.{ℕ}
use native.Mathlib.Decide.{ℕ_discrete}
use borrow.Author.Tests.{eq-eqb, ne_eqb}
use lib.ListN.{length, replicate}
use Rattle.pattern_spec.specs.Answer.{refused, done, is_done, refusal_of}
use Rattle.rounding_spec.specs.Format.{binary32}
use Rattle.augmented_spec.specs.Pairs.{pair_of}
use Rattle.accumulator_spec.specs.Theorems.{RefusedTerm, AddingRefused, ReadingRefused, ClearingIs}
use Rattle.accumulator_spec.specs.Totals.{total_size, most_terms, number, count, sign_word, fit, Term, finite_operands}
use Rattle.accumulator_spec.specs.Totals.{adding, total_with, after_adding, clearing, after_clearing, exact_total, pair_answer, reading}

-- ---- clearing
module _ (t : List ℕ) where
  pub clearing-length : (length t ≡ total_size → ⊥) → (refused 5 ≡ clearing t) × (t ≡ after_clearing t)
  unfolding clearing after_clearing
  clearing-length n = let e = ne_eqb (length t) total_size n in (rw e, rw e)

  pub clearing-done : length t ≡ total_size → ((done tt) ≡ clearing t) × (replicate total_size 0 ≡ after_clearing t)
  unfolding clearing after_clearing
  clearing-done h = let e = eq-eqb (length t) total_size h in (rw e, rw e)

-- ---- adding
module _ (t : List ℕ) (x : Term) where
  pub adding-length : (length t ≡ total_size → ⊥) → adding t x ≡ refused 5
  unfolding adding
  adding-length n = rw (ne_eqb (length t) total_size n)

  module _ (full : length t ≡ total_size) where
    pub adding-unfit : fit t ≡ false → adding t x ≡ refused 6
    unfolding adding
    adding-unfit f = rw (eq-eqb (length t) total_size full, f)

    module _ (fits : fit t ≡ true) where
      pub adding-special : finite_operands x ≡ false → adding t x ≡ refused 7
      unfolding adding
      adding-special o = rw (eq-eqb (length t) total_size full, fits, o)

      pub adding-full : finite_operands x ≡ true → count t ≡ most_terms → adding t x ≡ refused 8
      unfolding adding
      adding-full o n = rw (eq-eqb (length t) total_size full, fits, o, eq-eqb (count t) most_terms n)

      pub adding-done : finite_operands x ≡ true → (count t ≡ most_terms → ⊥) → adding t x ≡ done tt
      unfolding adding
      adding-done o n = rw (eq-eqb (length t) total_size full, fits, o, ne_eqb (count t) most_terms n)

  pub after-refused : (n : ℕ) → adding t x ≡ refused n → after_adding t x ≡ t
  unfolding after_adding
  after-refused n e = rw e

  pub after-done : adding t x ≡ done tt → after_adding t x ≡ total_with t x
  unfolding after_adding
  after-done e = rw e

  -- both at once, as a contract has them
  pub refuses : (n : ℕ) → adding t x ≡ refused n → (refused n ≡ adding t x) × (t ≡ after_adding t x)
  refuses n e = (sym e, sym (after-refused n e))

-- ---- reading
module _ (t : List ℕ) where
  pub reading-length : (length t ≡ total_size → ⊥) → reading t ≡ refused 5
  unfolding reading
  reading-length n = rw (ne_eqb (length t) total_size n)

  pub reading-unfit : length t ≡ total_size → fit t ≡ false → reading t ≡ refused 6
  unfolding reading
  reading-unfit full f = rw (eq-eqb (length t) total_size full, f)

  pub reading-pair : length t ≡ total_size → fit t ≡ true → reading t ≡ pair_answer (pair_of binary32 (exact_total (number t) (count t) (sign_word t)))
  unfolding reading
  reading-pair full f = rw (eq-eqb (length t) total_size full, f)

  -- 5 and 6 are all the refusals that there are
  pub reading-other : (n : ℕ) → refused n ≡ reading t → (n ≡ 5 → ⊥) → refused 6 ≡ reading t
  reading-other n e other = elim (ℕ_discrete (length t) total_size) [ yes full ↦ by full (fit t) refl | no h ↦ absurd (other (ap refusal_of (e ∙ reading-length h))) ]
    where
      by : length t ≡ total_size → (f : Bool) → fit t ≡ f → refused 6 ≡ reading t
      by full true f = absurd (true≢false (sym (ap is_done (e ∙ reading-pair full f))))
      by full false f = sym (reading-unfit full f)

-- ---- as they are stated
pub refused-term : RefusedTerm
refused-term t x n e = after-refused t x n e

pub adding-refused : AddingRefused
adding-refused t x = (adding-length t x, adding-unfit t x, adding-special t x, adding-full t x)

pub reading-refused : ReadingRefused
reading-refused t = (reading-length t, reading-unfit t)

pub clearing-is : ClearingIs
clearing-is t = (λ n. let c = clearing-length t n in (sym c.0, sym c.1), λ h. let c = clearing-done t h in (sym c.0, sym c.1))
