-- A pattern stands for the same value in both accounts.
use mathlib.Core.Path.{◌≡◌, refl, sym, ap, ◌∙◌}
use mathlib.Core.Logic.{inl, inr}
use mathlib.Core.Bool.{Bool}
use Prim.Native.Nat.{ℕ, zero, suc, ◌+◌, ◌-◌, ◌*◌, ◌/◌, ◌%◌, ◌≤◌, ◌<◌}
use native.Mathlib.Nat.{mod-lt, div-add-mod', div-lt_iff_lt-mul, mul-le-mul_right, zero-lt-suc, mul-pos}
use native.Mathlib.Omega.{arith}
use borrow.Author.Tests.{eq-eqb, ne_eqb}
use lib.Dec.{leb}
use lib.Arith.{mod-mul, digits_mod}
use lib.Pow.{pow_pos}
use lib.Ieee.{Format as Standard, prec, emax, low as standard-low, odd, ones, hid, top, of_fields, of_bits}
use Rattle.rounding_spec.specs.Format.{infinity, sign_bit}
use Rattle.rounding_spec.specs.Value.{unsigned, decode}
use Rattle.rounding_spec.proofs.Compare.{tri}
use Rattle.rounding_spec.proofs.Bits.{mag-at}
use Rattle.rounding_spec.proofs.Codec.{unsigned-finite, unsigned-infinite, unsigned-nan}
use Rattle.binary32_spec.proofs.IeeeSame.{ours, sign-is, both-nan, both-inf, Agree, odd-same}

module _ (f : Standard) (s : Bool) where
  -- significand q and exponent d
  finite-same : (c d q : ℕ) → c ≡ d * hid f + q → q ≤ 2 * hid f → (0 < d → hid f ≤ q) → c < infinity (ours f)
      → Agree f (unsigned (ours f) s c) (odd (prec f) s q d (standard-low f))
  finite-same c d q e h g l =
      rw (unsigned-finite (ours f) s c l, e, mag-at (prec f - 1) d q h g) (odd-same (prec f) s q d (standard-low f))

  -- exponent field and fraction side by side
  fields-same : (x t : ℕ) → t < hid f → x ≤ ones f → Agree f (unsigned (ours f) s (x * hid f + t)) (of_fields f s x t)
  unfolding of_fields
  fields-same zero t h l =
      finite-same (0 * hid f + t) 0 t refl (omega arith) (λ g. absurd (omega arith)) (omega (arith, mul-le-mul_right (hid f) (zero-lt-suc (2 * emax f))))
  fields-same (suc x) t h l =
      elim (tri (suc x) (ones f)) [
        | inl g ↦
            rw (ne_eqb (suc x) (ones f) (λ (e : suc x ≡ ones f). omega arith))
            (finite-same (suc x * hid f + t) x (hid f + t) (omega arith) (omega arith) (λ n. omega arith) (omega (arith, mul-le-mul_right (hid f) g)))
        | inr o ↦ elim o [
          | inl e ↦
              let i : suc x * hid f ≡ infinity (ours f) = ap (λ (y : ℕ). y * hid f) e in
              rw (eq-eqb (suc x) (ones f) e)
              (elim (tri 0 t) [
                | inl n ↦ rw (ne_eqb t 0 (λ (z : t ≡ 0). omega arith), unsigned-nan (ours f) s (suc x * hid f + t) (omega arith)) both-nan
                | inr o ↦ elim o [
                  | inl z ↦ rw (eq-eqb t 0 (sym z), unsigned-infinite (ours f) s (suc x * hid f + t) (omega arith)) both-inf
                  | inr n ↦ absurd (omega arith)
                ]
              ])
          | inr g ↦ absurd (omega arith)
        ]
      ]

  unsigned-same : (c : ℕ) → c < sign_bit (ours f) → Agree f (unsigned (ours f) s c) (of_fields f s (c / hid f) (c % hid f))
  unsigned-same c h =
      let l : c / hid f < suc (ones f) = (div-lt_iff_lt-mul (pow_pos (prec f - 1))).1 h in
      rw (div-add-mod' c (hid f)) at (fields-same (c / hid f) (c % hid f) (mod-lt c (pow_pos (prec f - 1))) (omega arith))

decode_is : (f : Standard) (x : ℕ) → decode (ours f) x ≡ unsigned (ours f) (leb (sign_bit (ours f)) x) (x % sign_bit (ours f))
unfolding decode
decode_is f x = refl

of_bits_is : (f : Standard) (x : ℕ) → of_bits f x ≡ of_fields f (leb (top f) x) (x % top f / hid f) (x % hid f)
unfolding of_bits
of_bits_is f x = refl

-- the fraction stands below the exponent field
fraction-is : (f : Standard) (x : ℕ) → x % sign_bit (ours f) % hid f ≡ x % hid f
fraction-is f x =
    let h = pow_pos (prec f - 1) in
    ap (λ (y : ℕ). y % hid f) (mod-mul x (zero-lt-suc (ones f)) h) ∙ digits_mod (x / hid f % suc (ones f)) (mod-lt x h)

pub decode-same : (f : Standard) (x : ℕ) → Agree f (decode (ours f) x) (of_bits f x)
decode-same f x =
    let c = unsigned-same f (leb (sign_bit (ours f)) x) (x % sign_bit (ours f)) (mod-lt x (mul-pos (zero-lt-suc (ones f)) (pow_pos (prec f - 1)))) in
    rw (decode_is f x, of_bits_is f x, ← sign-is f, ← fraction-is f x) c
