-- What is wrong with lent words.
use Rattle.std.proofs.Common.{◌≡◌, ℕ, ◌<◌, Bool, true, false, eqb, List, length, Result, Ok, Err, sym, refl, ◌∙◌, eq-eqb, eqb-true}
use borrow.Author.Tests.{eqb-false}
use Rattle.accumulator_spec.specs.declared.NotDone.{NotDone}
use Rattle.accumulator_spec.specs.declared.NotDone.TheVariants as not-done
use Rattle.accumulator_spec.specs.Totals.{total_size, most_terms, count, fit}
use Rattle.accumulator_fit.specs.Inner.{fault}

module _ (t : List ℕ) where
  abbrev pub Length : Type 0
  Length = length t ≡ total_size → ⊥

  abbrev pub Unfit : Type 0
  Unfit = (length t ≡ total_size) × (fit t ≡ false)

  abbrev pub Sound : Type 0
  Sound = (length t ≡ total_size) × (fit t ≡ true)

  -- one of the three
  pub by_fault : {G : Type 0} → (Length → fault t ≡ Err not-done.Length → G) → (Unfit → fault t ≡ Err not-done.Unfit → G) → (Sound → fault t ≡ Ok tt → G) → G
  by_fault {G} five six none = go (eqb (length t) total_size) refl (fit t) refl
    where
      go : (b : Bool) → eqb (length t) total_size ≡ b → (f : Bool) → fit t ≡ f → G
      go false p f q = five (eqb-false (length t) total_size p) (rw p refl)
      go true p false q = six (eqb-true (length t) total_size p, q) (rw (p, q) refl)
      go true p true q = none (eqb-true (length t) total_size p, q) (rw (p, q) refl)

  pub sound : fault t ≡ Ok tt → Sound
  sound e = by_fault (λ h n. absurd cc) (λ h n. absurd cc) (λ h n. h)

  pub no-fault : length t ≡ total_size → fit t ≡ true → fault t ≡ Ok tt
  no-fault l f = rw (eq-eqb (length t) total_size l, f) refl

  -- ---- of a total that a term is to go into
  abbrev pub Full : Type 0
  Full = Sound × (count t ≡ most_terms)

  abbrev pub Takes : Type 0
  Takes = Sound × (count t < most_terms)
