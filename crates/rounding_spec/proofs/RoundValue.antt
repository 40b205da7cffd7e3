-- Rounding of a finite exact result: finite or infinite, the pattern of it, and where it overflows.
use mathlib.Core.Path.{◌≡◌, sym, ap, ◌∙◌}
use mathlib.Core.Bool.{Bool}
use Prim.Native.Nat.{ℕ, suc, ◌+◌, ◌-◌, ◌*◌, ◌^◌, ◌≤◌, ◌<◌, min}
use native.Mathlib.Nat.{le_trans, le_of_eq, lt_of_lt_of_le, le_of_mul-le-mul_right, lt_of_mul-lt-mul_right}
use native.Mathlib.Decide.{dec_le}
use native.Mathlib.Omega.{arith}
use borrow.Author.Tests.{lt-ltb, le-ltb}
use lib.Pow.{pow-add, pow_pos}
use Rattle.rounding_spec.specs.declared.Ties.{Ties}
use Rattle.rounding_spec.specs.declared.Ties.TheVariants.{ToEven, ToZero}
use Rattle.rounding_spec.specs.Format.{Format, Proper, low, limit, edge, infinity}
use Rattle.rounding_spec.specs.Round.{rounded}
use Rattle.rounding_spec.specs.Value.{Value, nan, infinite, finite, Fits, bits, signed, encode, round_finite, round}
use Rattle.rounding_spec.proofs.Rounded.{rounded-near}
use Rattle.rounding_spec.proofs.Scaled.{rounded-rep}
use Rattle.rounding_spec.proofs.Halfway.{last, next, tie, last-next, below-tie, above-tie, even_up, zero-down}
use Rattle.rounding_spec.proofs.Codec.{bits_below, bits_above}

-- ---- finite or infinite
module _ (t : Ties) (F : Format) (s : Bool) (N : ℕ) where
  pub round-below : rounded t F.fraction (low F) N < limit F → round_finite t F s N ≡ finite s (rounded t F.fraction (low F) N)
  unfolding round_finite
  round-below h = rw (lt-ltb (rounded t F.fraction (low F) N) (limit F) h)

  pub round-above : limit F ≤ rounded t F.fraction (low F) N → round_finite t F s N ≡ infinite s
  unfolding round_finite
  round-above h = rw (le-ltb (rounded t F.fraction (low F) N) (limit F) h)

  -- a finite result is the rounded number
  pub round-finite : (r : Bool) (a : ℕ) → round_finite t F s N ≡ finite r a → a ≡ rounded t F.fraction (low F) N
  round-finite r a e =
      elim (dec_le (limit F) (rounded t F.fraction (low F) N)) [
        | yes h ↦ let x = round-above h in cc
        | no h ↦ let x = round-below (omega arith) in cc
      ]

  -- the pattern: the infinity's bits where the rounded number's would be larger
  pub encode-round : 0 < F.fraction → encode F (round_finite t F s N) ≡ signed F s (min (infinity F) (bits F.fraction (rounded t F.fraction (low F) N)))
  unfolding encode
  encode-round pos =
      let a = rounded t F.fraction (low F) N in
      elim (dec_le (limit F) a) [
        | yes h ↦ ap (encode F) (round-above h) ∙ ap (signed F s) (let z = bits_above F pos h in omega arith)
        | no h ↦
            let l : a < limit F = omega arith in
            ap (encode F) (round-below l) ∙ ap (signed F s) (let z = bits_below F pos (rounded-rep t F.fraction (low F) N) l in omega arith)
      ]

  finite-fits : Fits F (round_finite t F s N)
  unfolding Fits
  finite-fits =
      elim (dec_le (limit F) (rounded t F.fraction (low F) N)) [
        | yes h ↦ rw (round-above h) tt
        | no h ↦
            let l : rounded t F.fraction (low F) N < limit F = omega arith in
            rw (round-below l) (rounded-rep t F.fraction (low F) N, l)
      ]

pub round-fits : (t : Ties) (F : Format) (v : Value) → Fits F (round t F v)
unfolding round Fits
round-fits t F nan = tt
round-fits t F (infinite s) = tt
round-fits t F (finite s N) = finite-fits t F s N

-- ---- overflow: the edge is the tie behind the largest finite number
module _ (F : Format) (ok : Proper F) where
  top : ℕ
  top = F.emax + 2 * low F - suc F.fraction

  top-is : suc (suc F.fraction) + top ≡ suc F.emax + 2 * low F
  unfolding top
  top-is = let f = ok.0 in let e = ok.1 in omega arith

  top_above : low F ≤ suc top
  unfolding top
  top_above = let f = ok.0 in let e = ok.1 in omega arith

  limit-next : limit F * 2 ^ low F ≡ next F.fraction top
  unfolding limit
  limit-next =
      let e : suc F.emax + low F + low F ≡ suc F.fraction + suc top = omega (arith, top-is) in
      sym (pow-add 2 (suc F.emax + low F) (low F)) ∙ ap (λ (x : ℕ). 2 ^ x) e ∙ pow-add 2 (suc F.fraction) (suc top)

  edge-tie : edge F ≡ tie F.fraction top
  unfolding edge top
  edge-tie =
      let e : 2 ^ (suc F.emax + 2 * low F) ≡ next F.fraction top =
      ap (λ (x : ℕ). 2 ^ x) (let z : suc F.emax + 2 * low F ≡ suc F.fraction + suc top = omega (arith, top-is) in z) ∙ pow-add 2 (suc F.fraction) (suc top)
      in
      omega (arith, last-next F.fraction top)

  module _ (t : Ties) (N : ℕ) where
    scaled-below : rounded t F.fraction (low F) N * 2 ^ low F ≤ last F.fraction top → rounded t F.fraction (low F) N < limit F
    scaled-below h = lt_of_mul-lt-mul_right (2 ^ low F) (let p = pow_pos top in omega (arith, limit-next, last-next F.fraction top))

    scaled-above : next F.fraction top ≤ rounded t F.fraction (low F) N * 2 ^ low F → limit F ≤ rounded t F.fraction (low F) N
    scaled-above h = le_of_mul-le-mul_right (le_trans (le_of_eq limit-next) h) (pow_pos (low F))

    -- away from the edge the tie rule does not matter
    pub under-edge : N < edge F → rounded t F.fraction (low F) N < limit F
    under-edge h = scaled-below (below-tie F.fraction (low F) top top_above (rounded-near t F.fraction (low F) N) (lt_of_lt_of_le h (le_of_eq edge-tie)))

    pub over-edge : edge F < N → limit F ≤ rounded t F.fraction (low F) N
    over-edge h = scaled-above (above-tie F.fraction (low F) top top_above (rounded-near t F.fraction (low F) N) (le_trans (le_of_eq (ap suc (sym edge-tie))) h))

  pub even-at-edge : (N : ℕ) → edge F ≤ N → limit F ≤ rounded ToEven F.fraction (low F) N
  even-at-edge N h = scaled-above ToEven N (even_up F.fraction (low F) top top_above N (le_trans (le_of_eq (sym edge-tie)) h))

  pub zero-at-edge : (N : ℕ) → N ≤ edge F → rounded ToZero F.fraction (low F) N < limit F
  zero-at-edge N h = scaled-below ToZero N (zero-down F.fraction (low F) top top_above N (le_trans h (le_of_eq edge-tie)))
