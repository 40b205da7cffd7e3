-- Both halves are nearest among numbers with signs: one of the other sign lies farther than the magnitudes do.
use mathlib.Core.Path.{◌≡◌, sym, ◌∙◌}
use mathlib.Core.Logic.{◌⊎◌, inl, inr}
use mathlib.Core.Bool.{Bool}
use Prim.Native.Nat.{ℕ, suc, ◌+◌, ◌*◌, ◌^◌, ◌≤◌}
use native.Mathlib.Nat.{le_of_mul-le-mul_right}
use native.Mathlib.Omega.{arith}
use lib.IntN.{ℤ, nat_abs, ◌-ℤ◌}
use lib.Pow.{pow_pos}
use Rattle.rounding_spec.specs.declared.Ties.TheVariants.{ToZero}
use Rattle.rounding_spec.specs.Format.{Format, low}
use Rattle.rounding_spec.specs.Round.{rounded}
use Rattle.rounding_spec.specs.Nearest.{dist, Rep}
use Rattle.rounding_spec.specs.Value.{finite, decode}
use Rattle.rounding_spec.proofs.Representable.{rep_zero}
use Rattle.rounding_spec.proofs.Rounded.{rounded-near0}
use Rattle.pattern_spec.specs.Exact.{int}
use Rattle.pattern_spec.proofs.Integers.{int-scale}
use Rattle.augmented_spec.specs.declared.Pair.{Pair}
use Rattle.augmented_spec.specs.Theorems.{finer_int}
use Rattle.augmented_spec.proofs.Distance.{int-zero, difference-size, same_size}
use Rattle.augmented_spec.proofs.FiniteOperands.{rest, side, second_size, second_sign, Halved}
use Rattle.augmented_spec.proofs.AddsUp.{rest-exact}

-- n is how far the number b of u lies from N, on its side of zero or on the other
nearer : (f L N b n : ℕ) → Rep (suc f) L (b * 2 ^ L) → (n ≡ b * 2 ^ L + N) ⊎ (n ≡ dist (b * 2 ^ L) N)
    → (dist (rounded ToZero f L N * 2 ^ L) N ≤ n) × (n ≡ dist (rounded ToZero f L N * 2 ^ L) N → rounded ToZero f L N ≤ b)
nearer f L N b n r o =
    let near = rounded-near0 f L N in
    let zero = near.near.best 0 rep_zero in
    let tie : dist (b * 2 ^ L) N ≡ dist (rounded ToZero f L N * 2 ^ L) N → rounded ToZero f L N ≤ b = λ e. le_of_mul-le-mul_right (near.tie (b * 2 ^ L) r e) (pow_pos L) in
    elim o [
      | inl s ↦ (omega arith, λ e. tie (omega arith))
      | inr s ↦ (omega (arith, near.near.best (b * 2 ^ L) r), λ e. tie (sym s ∙ e))
    ]

-- a number N of u * u with the sign s, rounded, against every number b of u with any sign r
module _ (F : Format) (s : Bool) (N : ℕ) where
  abbrev kept : ℕ
  kept = rounded ToZero F.fraction (low F) N

  signed-near : (r : Bool) (b : ℕ) → Rep (suc F.fraction) (low F) (b * 2 ^ low F)
      → (nat_abs (finer_int F s kept -ℤ int s N) ≤ nat_abs (finer_int F r b -ℤ int s N)) × (nat_abs (finer_int F r b -ℤ int s N) ≡ nat_abs (finer_int F s kept -ℤ int s N) → kept ≤ b)
  signed-near r b rep =
      rw (← int-scale s kept (2 ^ low F), ← int-scale r b (2 ^ low F), same_size s (kept * 2 ^ low F) N)
      (nearer F.fraction (low F) N b (nat_abs (int r (b * 2 ^ low F) -ℤ int s N)) rep (difference-size r (b * 2 ^ low F) s N))

-- ---- both halves
module _ {F : Format} {E : ℤ} {p : Pair} {q : Bool} {c : ℕ} (h : Halved F E p q c) (r : Bool) (b : ℕ) (rep : Rep (suc F.fraction) (low F) (b * 2 ^ low F)) where
  pub first-near : (nat_abs (finer_int F q c -ℤ E) ≤ nat_abs (finer_int F r b -ℤ E)) × (nat_abs (finer_int F r b -ℤ E) ≡ nat_abs (finer_int F q c -ℤ E) → c ≤ b)
  first-near = rw (← h.exact, h.first) (signed-near F q (nat_abs E) r b rep)

  -- with first's sign zero is the same number
  pub second-near : (t : Bool) (d : ℕ) → decode F p.second ≡ finite t d
      → let exact_rest = E -ℤ finer_int F q c in
      (nat_abs (finer_int F t d -ℤ exact_rest) ≤ nat_abs (finer_int F r b -ℤ exact_rest)) × (nat_abs (finer_int F r b -ℤ exact_rest) ≡ nat_abs (finer_int F t d -ℤ exact_rest) → d ≤ b)
  second-near t d e =
      let f : finite t d ≡ finite (second_sign F E q) (second_size F E q) = sym e ∙ h.second in
      let sign : t ≡ second_sign F E q = cc in
      let size : d ≡ second_size F E q = cc in
      rw (sign, size, ← rest-exact h, int-zero q (side F E q) (second_size F E q)) (signed-near F (side F E q) (rest F E q) r b rep)
