-- Truth values.
use mathlib.Core.Path.{◌≡◌, refl, sym}
use mathlib.Core.Logic.{◌⊎◌, inl, inr}
use mathlib.Core.Bool.{Bool, true, false, ◌&&◌, true≢false}

pub one_of : (i j : Bool) → i && j ≡ false → (i ≡ false) ⊎ (j ≡ false)
one_of true j e = inr e
one_of false j e = inl refl

pub some-false : (i j : Bool) → (i ≡ false) ⊎ (j ≡ false) → i && j ≡ false
some-false false j h = refl
some-false true j h = elim h [ inl k ↦ absurd (true≢false k) | inr k ↦ k ]

pub both_of : (i j : Bool) → i && j ≡ true → (i ≡ true) × (j ≡ true)
both_of true j e = (refl, e)
both_of false j e = absurd (true≢false (sym e))

pub refute : (b : Bool) → (b ≡ true → ⊥) → b ≡ false
refute true h = absurd (h refl)
refute false h = refl

pub alike : (p q : Bool) → (p ≡ true → q ≡ true) → (q ≡ true → p ≡ true) → p ≡ q
alike true q f g = sym (f refl)
alike false true f g = g refl
alike false false f g = refl
