-- Patterns and values: each is read back from the other, and rounding gives values of the format.
use mathlib.Core.Path.{◌≡◌, refl, sym, ap, ap₂, ◌∙◌, subst}
use mathlib.Core.Logic.{inl, inr}
use mathlib.Core.Bool.{Bool, true, false}
use Prim.Native.Nat.{ℕ, suc, ◌+◌, ◌-◌, ◌*◌, ◌%◌, ◌^◌, ◌≤◌, ◌<◌}
use native.Mathlib.Nat.{le_refl, mod-eq_of_lt, zero-add, pow-suc}
use native.Mathlib.Decide.{dec_le}
use native.Mathlib.Omega.{arith}
use borrow.Author.Tests.{lt-ltb, le-ltb, le-leb, lt-leb, eq-eqb, ne_eqb}
use lib.Dec.{leb}
use lib.Arith.{digits_mod}
use lib.Pow.{pow-add, pow_pos, pow-lt}
use Rattle.rounding_spec.specs.Format.{Format, low, limit, infinity, sign_bit}
use Rattle.rounding_spec.specs.Nearest.{Rep}
use Rattle.rounding_spec.specs.Value.{Value, nan, infinite, finite, Fits, magnitude, unsigned, decode, bits, signed, quiet_nan, encode}
use Rattle.rounding_spec.proofs.Compare.{tri}
use Rattle.rounding_spec.proofs.Scaled.{rep-up}
use Rattle.rounding_spec.proofs.Bits.{mag-at, bits_at, bits_mono, bits-magnitude, magnitude-bits, magnitude-rep, magnitude-mono}

-- ---- the infinity's bits are those of the limit
module _ (F : Format) (pos : 0 < F.fraction) where
  limit_is : limit F ≡ 2 ^ F.fraction * 2 ^ (2 * F.emax)
  unfolding limit
  limit_is =
      let e : suc F.emax + low F ≡ F.fraction + 2 * F.emax = omega arith in
      ap (λ (x : ℕ). 2 ^ x) e ∙ pow-add 2 F.fraction (2 * F.emax)

  pub bits-limit : bits F.fraction (limit F) ≡ infinity F
  bits-limit =
      let q = pow_pos F.fraction in
      ap (bits F.fraction) limit_is ∙ bits_at F.fraction (2 * F.emax) (2 ^ F.fraction) (omega arith) (λ h. le_refl (2 ^ F.fraction)) ∙ omega arith

  magnitude-infinity : magnitude F.fraction (infinity F) ≡ limit F
  magnitude-infinity =
      let q = pow_pos F.fraction in
      let e : infinity F ≡ 2 * F.emax * 2 ^ F.fraction + 2 ^ F.fraction = omega arith in
      ap (magnitude F.fraction) e ∙ mag-at F.fraction (2 * F.emax) (2 ^ F.fraction) (omega arith) (λ h. le_refl (2 ^ F.fraction)) ∙ sym limit_is

  pub bits_below : {a : ℕ} → Rep (suc F.fraction) 0 a → a < limit F → bits F.fraction a < infinity F
  bits_below {a} r h =
      elim (dec_le (infinity F) (bits F.fraction a)) [
        | yes g ↦ absurd (omega (arith, magnitude-mono F.fraction (infinity F) (bits F.fraction a) g, magnitude-infinity, magnitude-bits F.fraction a r))
        | no g ↦ omega arith
      ]

  pub bits_above : {a : ℕ} → limit F ≤ a → infinity F ≤ bits F.fraction a
  bits_above {a} h = omega (arith, bits_mono F.fraction (limit F) a h, bits-limit)

  pub magnitude-below : (c : ℕ) → c < infinity F → magnitude F.fraction c < limit F
  magnitude-below c h =
      elim (dec_le (limit F) (magnitude F.fraction c)) [
        | yes g ↦ absurd (omega (arith, bits_above g, bits-magnitude F.fraction c))
        | no g ↦ omega arith
      ]

-- ---- the sign bit
module _ (F : Format) (c : ℕ) (h : c < sign_bit F) where
  pub split-sign : (s : Bool) → (leb (sign_bit F) (signed F s c) ≡ s) × (signed F s c % sign_bit F ≡ c)
  split-sign true =
      let e : sign_bit F + c ≡ 1 * sign_bit F + c = omega arith in
      (le-leb (sign_bit F) (sign_bit F + c) (omega arith), ap (λ (x : ℕ). x % sign_bit F) e ∙ digits_mod 1 h)
  split-sign false =
      let e : 0 + c ≡ c = omega arith in
      (rw e (lt-leb (sign_bit F) c h), rw e (mod-eq_of_lt h))

  pub decode-signed : (s : Bool) → decode F (signed F s c) ≡ unsigned F s c
  unfolding decode
  decode-signed s = ap₂ (unsigned F) (split-sign s).0 (split-sign s).1

-- ---- the bits below the sign, by their order against the infinity's
module _ (F : Format) (s : Bool) (c : ℕ) where
  pub unsigned-finite : c < infinity F → unsigned F s c ≡ finite s (magnitude F.fraction c)
  unfolding unsigned
  unsigned-finite h = rw (lt-ltb c (infinity F) h)

  pub unsigned-infinite : c ≡ infinity F → unsigned F s c ≡ infinite s
  unfolding unsigned
  unsigned-infinite e = rw (le-ltb c (infinity F) (omega arith), eq-eqb c (infinity F) e)

  pub unsigned-nan : infinity F < c → unsigned F s c ≡ nan
  unfolding unsigned
  unsigned-nan h = rw (le-ltb c (infinity F) (omega arith), ne_eqb c (infinity F) (λ (e : c ≡ infinity F). omega arith))

infinity-below : (F : Format) → infinity F < sign_bit F
infinity-below F = omega (arith, pow_pos F.fraction)

pub decode-quiet : (F : Format) → 0 < F.fraction → (s : Bool) (p : ℕ) → p < 2 ^ (F.fraction - 1) → decode F (quiet_nan F s p) ≡ nan
decode-quiet F pos s p h =
    let c = infinity F + 2 ^ (F.fraction - 1) + p in
    let b : 2 ^ F.fraction ≡ 2 ^ (F.fraction - 1) * 2 = ap (λ (k : ℕ). 2 ^ k) (let z : F.fraction ≡ suc (F.fraction - 1) = omega (arith, pos) in z) ∙ pow-suc 2 (F.fraction - 1) in
    decode-signed F c (omega arith) s ∙ unsigned-nan F s c (omega (arith, pow_pos (F.fraction - 1)))

-- ---- a value is read back from its pattern
pub decode-encode : (F : Format) → 0 < F.fraction → (v : Value) → Fits F v → decode F (encode F v) ≡ v
unfolding encode Fits
decode-encode F pos nan h = decode-quiet F pos false 0 (pow_pos (F.fraction - 1))
decode-encode F pos (infinite s) h = decode-signed F (infinity F) (infinity-below F) s ∙ unsigned-infinite F s (infinity F) refl
decode-encode F pos (finite s a) h =
    let b = bits_below F pos h.0 h.1 in
    decode-signed F (bits F.fraction a) (omega (arith, infinity-below F)) s ∙ unsigned-finite F s (bits F.fraction a) b ∙ ap (finite s) (magnitude-bits F.fraction a h.0)

-- ---- and has no bit above the sign
signed-width : (F : Format) (s : Bool) (c : ℕ) → c < sign_bit F → signed F s c < 2 * sign_bit F
signed-width F true c h = omega arith
signed-width F false c h = omega arith

pub encode-width : (F : Format) → 0 < F.fraction → (v : Value) → Fits F v → encode F v < 2 * sign_bit F
unfolding encode Fits
encode-width F pos nan h = let b : 2 ^ (F.fraction - 1) < 2 ^ F.fraction = pow-lt (omega arith) in omega arith
encode-width F pos (infinite s) h = signed-width F s (infinity F) (infinity-below F)
encode-width F pos (finite s a) h = signed-width F s (bits F.fraction a) (omega (arith, infinity-below F, bits_below F pos h.0 h.1))

-- ---- a pattern is read back from its value, if it is no NaN's
pub signed-split : (F : Format) (x : ℕ) → x < 2 * sign_bit F → signed F (leb (sign_bit F) x) (x % sign_bit F) ≡ x
signed-split F x h =
    elim (dec_le (sign_bit F) x) [
      | yes g ↦
          let e : x ≡ 1 * sign_bit F + (x - sign_bit F) = omega arith in
          let m : x % sign_bit F ≡ x - sign_bit F = ap (λ (y : ℕ). y % sign_bit F) e ∙ digits_mod 1 (omega arith) in
          rw (le-leb (sign_bit F) x g) (omega arith)
      | no g ↦
          let l : x < sign_bit F = omega arith in
          rw (lt-leb (sign_bit F) x l, mod-eq_of_lt l) (zero-add x)
    ]

encode-unsigned : (F : Format) (s : Bool) (c : ℕ) → (unsigned F s c ≡ nan → ⊥) → encode F (unsigned F s c) ≡ signed F s c
unfolding encode
encode-unsigned F s c n =
    elim (tri c (infinity F)) [
      | inl h ↦ ap (encode F) (unsigned-finite F s c h) ∙ ap (signed F s) (bits-magnitude F.fraction c)
      | inr o ↦ elim o [
        | inl e ↦ ap (encode F) (unsigned-infinite F s c e) ∙ ap (signed F s) (sym e)
        | inr h ↦ absurd (n (unsigned-nan F s c h))
      ]
    ]

pub encode-decode : (F : Format) (x : ℕ) → x < 2 * sign_bit F → (decode F x ≡ nan → ⊥) → encode F (decode F x) ≡ x
unfolding decode
encode-decode F x h n = encode-unsigned F (leb (sign_bit F) x) (x % sign_bit F) n ∙ signed-split F x h

-- ---- what is decoded, and what is rounded, is a value of the format
unsigned-fits : (F : Format) → 0 < F.fraction → (s : Bool) (c : ℕ) → Fits F (unsigned F s c)
unfolding Fits
unsigned-fits F pos s c =
    elim (tri c (infinity F)) [
      | inl h ↦ rw (unsigned-finite F s c h) (magnitude-rep F.fraction c, magnitude-below F pos c h)
      | inr o ↦ elim o [ inl e ↦ rw (unsigned-infinite F s c e) tt | inr h ↦ rw (unsigned-nan F s c h) tt ]
    ]

pub decode-fits : (F : Format) → 0 < F.fraction → (x : ℕ) → Fits F (decode F x)
unfolding decode
decode-fits F pos x = unsigned-fits F pos (leb (sign_bit F) x) (x % sign_bit F)

-- a finite pattern's magnitude is representable, in units of u * u too
pub pattern-rep : (F : Format) → 0 < F.fraction → (x : ℕ) (r : Bool) (b : ℕ) → decode F x ≡ finite r b → Rep (suc F.fraction) (low F) (b * 2 ^ low F)
unfolding Fits
pattern-rep F pos x r b e =
    let fits : Fits F (finite r b) = rw e at (decode-fits F pos x) in
    subst (λ (l : ℕ). Rep (suc F.fraction) l (b * 2 ^ low F)) (zero-add (low F)) (rep-up (low F) fits.0)
