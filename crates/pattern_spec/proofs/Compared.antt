-- What comparisons of values mean.
use mathlib.Core.Path.{◌≡◌, refl, sym, ap, ap₂, ◌∙◌, subst}
use mathlib.Core.Bool.{Bool, true, false, beq, ◌&&◌, ◌||◌}
use Prim.Native.Nat.{ℕ, zero, suc}
use borrow.Author.Tests.{eqb-true, eq-eqb}
use lib.Dec.{eqb}
use lib.IntN.{ℤ, pos, negsuc, nat_abs}
use Rattle.rounding_spec.specs.Value.{Value, nan, infinite, finite, is_finite}
use Rattle.pattern_spec.specs.Exact.{int}
use Rattle.pattern_spec.specs.Comparisons.{same, less_magnitude}
use Rattle.pattern_spec.specs.Theorems.{SameMeans, LessMeans}
use Rattle.pattern_spec.proofs.Integers.{int-size}
use Rattle.pattern_spec.proofs.Truth.{both_of}

pub less-means : LessMeans
unfolding less_magnitude
less-means = (λ s a t b. refl, nothing, λ s v. (refl, infinity s v))
  where
    nothing : (v : Value) → (less_magnitude nan v ≡ false) × (less_magnitude v nan ≡ false)
    nothing nan = (refl, refl)
    nothing (infinite s) = (refl, refl)
    nothing (finite s a) = (refl, refl)

    infinity : (s : Bool) (v : Value) → less_magnitude v (infinite s) ≡ is_finite v
    infinity s nan = refl
    infinity s (infinite t) = refl
    infinity s (finite t a) = refl

-- a zero has every sign, and no other number has two
NotNegative : ℤ → Type 0
NotNegative (pos a) = Unit {0}
NotNegative (negsuc a) = ⊥

two-signs : (a : ℕ) → int false a ≡ int true a → a ≡ 0
unfolding NotNegative
two-signs zero e = refl
two-signs (suc a) e = absurd (subst NotNegative e tt)

sign-or-zero : (s t : Bool) (a : ℕ) → int s a ≡ int t a → beq s t || eqb a 0 ≡ true
sign-or-zero true true a e = refl
sign-or-zero false false a e = refl
sign-or-zero true false a e = eq-eqb a 0 (two-signs a (sym e))
sign-or-zero false true a e = eq-eqb a 0 (two-signs a e)

same_sign_lem : (s t : Bool) (a : ℕ) → beq s t || eqb a 0 ≡ true → int s a ≡ int t a
same_sign_lem true true a e = refl
same_sign_lem false false a e = refl
same_sign_lem true false a e = let z = eqb-true a 0 e in rw z refl
same_sign_lem false true a e = let z = eqb-true a 0 e in rw z refl

pub same-means : SameMeans
unfolding same
same-means = (λ s a t b. (forth s a t b, back s a t b), nothing, λ s t. refl, λ s t b. (refl, refl))
  where
    forth : (s : Bool) (a : ℕ) (t : Bool) (b : ℕ) → eqb a b && (beq s t || eqb a 0) ≡ true → int s a ≡ int t b
    forth s a t b e = let h = both_of (eqb a b) (beq s t || eqb a 0) e in same_sign_lem s t a h.1 ∙ ap (int t) (eqb-true a b h.0)

    back : (s : Bool) (a : ℕ) (t : Bool) (b : ℕ) → int s a ≡ int t b → eqb a b && (beq s t || eqb a 0) ≡ true
    back s a t b e =
        let n : a ≡ b = sym (int-size s a) ∙ ap nat_abs e ∙ int-size t b in
        ap₂ ◌&&◌ (eq-eqb a b n) (sign-or-zero s t a (e ∙ ap (int t) (sym n)))

    nothing : (v : Value) → (same nan v ≡ false) × (same v nan ≡ false)
    nothing nan = (refl, refl)
    nothing (infinite s) = (refl, refl)
    nothing (finite s a) = (refl, refl)
