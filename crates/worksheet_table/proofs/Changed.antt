-- Where recomposition changes the pair, the rest is a power of two.
use Prim.Native.Nat.{ℕ, zero, suc, ◌+◌, ◌-◌, ◌*◌, ◌^◌, ◌<◌}
use mathlib.Core.Path.{◌≡◌, refl, sym, ap, ap₂, ◌∙◌, subst}
use mathlib.Core.Bool.{Bool, true, not, cond}
use native.Mathlib.Nat.{zero-add, pow-succ', lt_of_le_of_lt}
use native.Mathlib.Omega.{arith}
use lib.Pow.{pow_pos}
use Rattle.rounding_spec.specs.declared.Ties.TheVariants.{ToEven}
use Rattle.rounding_spec.specs.Format.{binary32, low, limit}
use Rattle.rounding_spec.specs.Nearest.{dist}
use Rattle.rounding_spec.specs.Value.{Value, nan, infinite, finite}
use Rattle.rounding_spec.proofs.Chosen.{z-le}
use Rattle.rounding_spec.proofs.Predecessor as predecessor
use Rattle.rounding_spec.proofs.Predecessor.{upper, below-add}
use Rattle.rounding_spec.proofs.RoundValue.{round-below}
use Rattle.rounding_spec.proofs.TieDown.{error-le}
use Rattle.pattern_spec.specs.Exact.{negate}
use Rattle.binary32_spec.specs.Steps.{sub_value, mul_value, sub_step, mul_step}
use Rattle.binary32_spec.proofs.Theorems.{sub-decodes, mul-decodes}
use Rattle.pattern_spec.specs.Comparisons.{same}
use Rattle.errorfree_spec.specs.Constants as factor
use Rattle.errorfree_spec.proofs.Recomposed as recomposed
use Rattle.errorfree_spec.proofs.Signed.{Is, rel-dist}
use Rattle.errorfree_spec.proofs.Split.{Split, Split0}
use Rattle.errorfree_spec.proofs.Steps.{to_even, to_zero, mul-positive}
use Rattle.worksheet_spec.specs.Constants.{psi, two}
use Rattle.worksheet_spec.specs.Lines.{value, equal}
use Rattle.worksheet_spec.proofs.Constants.{psi-value, two-value}

-- equally far from A and from A less P is A less half of P
midway : (m n A Z P : ℕ) → Z + P ≡ A → 0 < P → m ≡ dist n A → m ≡ dist n Z → 2 * m ≡ P
midway m n A Z P e pos f g = omega arith

half-power : (f m : ℕ) → 2 * m ≡ 2 ^ f → (k : ℕ) × (m ≡ 2 ^ k)
half-power zero m e = absurd (omega (arith, e))
half-power (suc k) m e = (k, omega (arith, e, pow-succ' 2 k))

less : (m d L : ℕ) → m ≡ d → 2 * d < L → m < L
less m d L e h = omega arith

same_number : (s t : Bool) (a b : ℕ) → finite s a ≡ finite t b → a ≡ b
same_number s t a b e = ap number e
  where
    number : Value → ℕ
    number nan = 0
    number (infinite s) = 0
    number (finite s m) = m

module _ (s : Bool) (n A : ℕ) (b z d e : Value) (over : 2 ^ 23 < A) (h : Split binary32 s n A b)
    (zi : z ≡ mul_value binary32 (factor.psi_value binary32) (finite s A)) (di : d ≡ sub_value binary32 z (finite s A))
    (ei : e ≡ mul_value binary32 (factor.two_value binary32) b) (t : same e d ≡ true) where
  abbrev Z : ℕ
  Z = to_even binary32 ((2 ^ 24 - 1) * 2 ^ 125 * A)

  z-is : mul_value binary32 (factor.psi_value binary32) (finite s A) ≡ finite s Z
  z-is =
      mul-positive binary32 ((2 ^ 24 - 1) * 2 ^ 125) s A
      ∙ round-below ToEven binary32 s ((2 ^ 24 - 1) * 2 ^ 125 * A) (lt_of_le_of_lt (z-le Z h.near (recomposed.psi-near binary32 (omega arith) A)) h.fine)

  changed : Split0 binary32 s n (to_zero binary32 (n * 2 ^ low binary32)) z (negate b)
  changed =
      subst (λ (c : Bool). Split0 binary32 s n (to_zero binary32 (n * 2 ^ low binary32)) (cond c z (finite s A)) (cond c (negate b) b)) t
      (recomposed.recomposed binary32 (omega arith) s n A b h z d e zi di ei)

  first-is : to_zero binary32 (n * 2 ^ low binary32) ≡ Z
  first-is = same_number s s (to_zero binary32 (n * 2 ^ low binary32)) Z (sym changed.is ∙ zi ∙ z-is)

  abbrev Power : Type 0
  Power = (q : Bool) × (k : ℕ) × (b ≡ finite q (2 ^ k)) × (2 ^ k < limit binary32)

  power-of : (q : Bool) (m k : ℕ) → m ≡ 2 ^ k → b ≡ finite q m → m ≡ dist n A → Power
  power-of q m k e i f = (q, k, i ∙ ap (finite q) e, subst (λ (w : ℕ). w < limit binary32) e (less m (dist n A) (limit binary32) f (lt_of_le_of_lt (error-le h.near) h.fine)))

  changed-power : Power
  unfolding negate
  changed-power = by b refl h.rest (subst (λ (f : ℕ). Is s (negate b) n f) first-is changed.rest)
    where
      by : (v : Value) → b ≡ v → Is s v n A → Is s (negate v) n Z → Power
      by nan i j l = absurd j
      by (infinite q) i j l = absurd j
      by (finite q m) i j l =
          let u = upper 23 0 A h.near.rep (omega (arith, over)) in
          let zp : Z ≡ A - 2 ^ u.f = predecessor.psi u (omega (arith, over)) Z (rw zero-add (recomposed.psi-near binary32 (omega arith) A)) in
          let half = half-power u.f m (midway m n A Z (2 ^ u.f) (ap (λ (w : ℕ). w + 2 ^ u.f) zp ∙ below-add u) (pow_pos u.f) (rel-dist s q m n A j) (rel-dist s (not q) m n Z l)) in
          power-of q m half.0 half.1 i (rel-dist s q m n A j)

-- ---- on patterns
pub changed-rest : (a b : ℕ) (r : Bool) (n A : ℕ) → value a ≡ finite r A → 2 ^ 23 < A → Split binary32 r n A (value b) → equal (mul_step two b) (sub_step (mul_step psi a) a) ≡ true
    → (q : Bool) × (k : ℕ) × (value b ≡ finite q (2 ^ k)) × (2 ^ k < limit binary32)
changed-rest a b r n A ai over split e =
    let z = mul_step psi a in
    changed-power r n A (value b) (value z) (value (sub_step z a)) (value (mul_step two b)) over split
    (mul-decodes psi a ∙ ap₂ (mul_value binary32) psi-value ai) (sub-decodes z a ∙ ap (sub_value binary32 (value z)) ai)
    (mul-decodes two b ∙ ap (λ (v : Value). mul_value binary32 v (value b)) two-value) e
