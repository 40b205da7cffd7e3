-- Magnitudes compare as the bits below the sign do.
use mathlib.Core.Path.{◌≡◌, refl, sym, ap, ◌∙◌}
use mathlib.Core.Logic.{inl, inr}
use Prim.Native.Nat.{ℕ, ◌<◌, compare}
use native.Mathlib.Decide.{dec_le}
use native.Mathlib.Omega.{arith}
use lib.Dec.{is_le, compare_is_eq, ltb, leb, eqb}
use borrow.Author.Tests.{lt-ltb, le-ltb}
use Rattle.rounding_spec.specs.Value.{magnitude}
use Rattle.rounding_spec.proofs.Compare.{tri, cmp-lt, cmp-eq, cmp-gt}
use Rattle.rounding_spec.proofs.Bits.{magnitude-lt, magnitude-mono}

module _ (f c d : ℕ) where
  magnitude-compare : compare (magnitude f c) (magnitude f d) ≡ compare c d
  magnitude-compare =
      elim (tri c d) [
        | inl h ↦ cmp-lt (magnitude f c) (magnitude f d) (magnitude-lt f c d h) ∙ sym (cmp-lt c d h)
        | inr o ↦ elim o [
          | inl e ↦ cmp-eq (magnitude f c) (magnitude f d) (ap (magnitude f) e) ∙ sym (cmp-eq c d e)
          | inr h ↦ cmp-gt (magnitude f c) (magnitude f d) (magnitude-lt f d c h) ∙ sym (cmp-gt c d h)
        ]
      ]

  pub magnitude-eqb : eqb c d ≡ eqb (magnitude f c) (magnitude f d)
  magnitude-eqb = sym (ap compare_is_eq magnitude-compare)

  pub magnitude-leb : leb c d ≡ leb (magnitude f c) (magnitude f d)
  magnitude-leb = sym (ap is_le magnitude-compare)

  pub magnitude-ltb : ltb c d ≡ ltb (magnitude f c) (magnitude f d)
  magnitude-ltb =
      elim (dec_le d c) [
        | yes h ↦ le-ltb c d h ∙ sym (le-ltb (magnitude f c) (magnitude f d) (magnitude-mono f d c h))
        | no h ↦ let l : c < d = omega arith in lt-ltb c d l ∙ sym (lt-ltb (magnitude f c) (magnitude f d) (magnitude-lt f c d l))
      ]

-- ---- no magnitude but that of 0 is 0
zero-magnitude : magnitude 23 0 ≡ 0
unfolding magnitude
zero-magnitude = refl

pub magnitude-none : (c : ℕ) → eqb c 0 ≡ eqb (magnitude 23 c) 0
magnitude-none c = magnitude-eqb 23 c 0 ∙ ap (eqb (magnitude 23 c)) zero-magnitude
