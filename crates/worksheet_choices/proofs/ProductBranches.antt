-- The branch of a product by the bits below the sign of its first line.
use mathlib.Core.Path.{◌≡◌, refl, sym, ap, ◌∙◌}
use mathlib.Core.Bool.{Bool, cond}
use Prim.Native.Nat.{ℕ, ◌%◌, ◌^◌, ◌≤◌, ◌<◌}
use native.Mathlib.Omega.{arith}
use lib.Dec.{ltb, leb, eqb}
use borrow.Author.Tests.{lt-ltb, le-ltb, le-leb, lt-leb, eq-eqb, ne_eqb}
use Rattle.rounding_spec.specs.Format.{binary32, infinity}
use Rattle.rounding_spec.specs.Value.{magnitude, unsigned, decode}
use Rattle.rounding_spec.proofs.Codec.{unsigned-finite, unsigned-infinite, unsigned-nan}
use Rattle.worksheet_spec.specs.Lines.{value}
use Rattle.worksheet_spec.specs.declared.Branch.{Branch}
use Rattle.worksheet_spec.specs.declared.Branch.TheVariants.{NotANumber as when_nan, Infinite as when_infinite, Zero as when_zero, Tiny as when_tiny, Middle as when_middle, Other as otherwise}
use Rattle.worksheet_spec.specs.Sheets.{branch_of}
use Rattle.rounding_spec.proofs.Orders.{magnitude-none, magnitude-leb, magnitude-ltb}

-- ---- the bounds, in units of u
tiny-bound : magnitude 23 0x0100_0000 ≡ 2 ^ 24
unfolding magnitude
tiny-bound = refl

middle-bound : magnitude 23 0x0c80_0000 ≡ 2 ^ 47
unfolding magnitude
middle-bound = refl

-- ---- of the bits
abbrev by_bits : ℕ → Branch
by_bits c = cond (eqb c 0) when_zero (cond (ltb c 0x0100_0000) when_tiny (cond (leb c 0x0c80_0000) when_middle otherwise))

module _ (s : Bool) (c : ℕ) where
  finite-bits : c < infinity binary32 → by_bits c ≡ branch_of (unsigned binary32 s c)
  unfolding branch_of
  finite-bits h =
      let tiny = magnitude-ltb 23 c 0x0100_0000 ∙ ap (ltb (magnitude 23 c)) tiny-bound in
      let middle = magnitude-leb 23 c 0x0c80_0000 ∙ ap (leb (magnitude 23 c)) middle-bound in
      rw (magnitude-none c, tiny, middle, unsigned-finite binary32 s c h)

  infinite-bits : c ≡ infinity binary32 → when_infinite ≡ branch_of (unsigned binary32 s c)
  unfolding branch_of
  infinite-bits e = rw (unsigned-infinite binary32 s c e)

  nan-bits : infinity binary32 < c → when_nan ≡ branch_of (unsigned binary32 s c)
  unfolding branch_of
  nan-bits h = rw (unsigned-nan binary32 s c h)

-- ---- of the pattern
module _ (a : ℕ) where
  abbrev below : ℕ
  below = a % 2 ^ 31

  finite-is : below < infinity binary32 → by_bits below ≡ branch_of (value a)
  unfolding decode
  finite-is h = finite-bits (leb (2 ^ 31) a) below h

  pub zero-branch : a % 2 ^ 31 ≡ 0 → when_zero ≡ branch_of (value a)
  zero-branch e = sym (rw (eq-eqb below 0 e)) ∙ finite-is (omega arith)

  pub tiny-branch : (a % 2 ^ 31 ≡ 0 → ⊥) → a % 2 ^ 31 < 0x0100_0000 → when_tiny ≡ branch_of (value a)
  tiny-branch n h = sym (rw (ne_eqb below 0 n, lt-ltb below 0x0100_0000 h)) ∙ finite-is (omega arith)

  pub middle-branch : 0x0100_0000 ≤ a % 2 ^ 31 → a % 2 ^ 31 ≤ 0x0c80_0000 → when_middle ≡ branch_of (value a)
  middle-branch l h = sym (rw (ne_eqb below 0 (λ (e : below ≡ 0). omega arith), le-ltb below 0x0100_0000 l, le-leb below 0x0c80_0000 h)) ∙ finite-is (omega arith)

  pub infinite-branch : a % 2 ^ 31 ≡ 0x7f80_0000 → when_infinite ≡ branch_of (value a)
  unfolding decode
  infinite-branch e = infinite-bits (leb (2 ^ 31) a) below e

  pub other-branch : 0x0c80_0000 < a % 2 ^ 31 → a % 2 ^ 31 < 0x7f80_0000 → otherwise ≡ branch_of (value a)
  other-branch l h =
      sym (rw (ne_eqb below 0 (λ (e : below ≡ 0). omega arith), le-ltb below 0x0100_0000 (omega arith), lt-leb below 0x0c80_0000 l)) ∙ finite-is h

  pub nan-branch : 0x7f80_0000 < a % 2 ^ 31 → when_nan ≡ branch_of (value a)
  unfolding decode
  nan-branch h = nan-bits (leb (2 ^ 31) a) below h
