-- Recomposition: from RNe of a number and what is left of it to RN0 and what is left then.
use mathlib.Core.Path.{◌≡◌, refl, sym, ap, ◌∙◌, subst}
use mathlib.Core.Bool.{Bool, true, false, cond}
use Prim.Native.Nat.{ℕ, suc, ◌+◌, ◌-◌, ◌*◌, ◌^◌, ◌<◌}
use native.Mathlib.Nat.{lt_of_le_of_lt, mul_assoc, mul_right_comm, pow-succ'}
use native.Mathlib.Omega.{arith}
use lib.Dec.{T}
use lib.Pow.{pow-add}
use Rattle.rounding_spec.specs.declared.Ties.TheVariants.{ToEven}
use Rattle.rounding_spec.specs.Format.{Format, low, limit}
use Rattle.rounding_spec.specs.Nearest.{dist, Rep, Near}
use Rattle.rounding_spec.specs.Value.{Value, nan, infinite, finite, Fits, is_finite}
use Rattle.rounding_spec.proofs.Representable.{rep_zero}
use Rattle.rounding_spec.proofs.NearLaws.{near0-one}
use Rattle.rounding_spec.proofs.Rounded.{rounded-near}
use Rattle.rounding_spec.proofs.RoundValue.{round-below}
use Rattle.rounding_spec.proofs.Rescaled.{near_down}
use Rattle.rounding_spec.proofs.Sterbenz.{rep-double}
use Rattle.rounding_spec.proofs.Chosen.{choose-z, choose-a, z-le, z-diff}
use Rattle.rounding_spec.proofs.TieDown.{error-le}
use Rattle.pattern_spec.specs.Exact.{negate}
use Rattle.binary32_spec.specs.Steps.{sub_value, mul_value}
use Rattle.pattern_spec.specs.Comparisons.{same}
use Rattle.errorfree_spec.specs.Constants.{Roomy, psi_value, two_value}
use Rattle.errorfree_spec.proofs.Signed.{Rel, Is, rel-own, rel-dist, is-negate, is-shift, same-eq, eq-same}
use Rattle.errorfree_spec.proofs.Steps.{to_even, to_zero, zero-at, round_whole, is-sub, mul-positive}
use Rattle.errorfree_spec.proofs.Split.{Split, Split0}

-- ---- the product by 1 - 2 ^ -precision
pub psi-near : (F : Format) → Roomy F → (A : ℕ)
    → Near (suc F.fraction) (suc F.fraction) ((2 ^ suc F.fraction - 1) * A) (to_even F ((2 ^ suc F.fraction - 1) * 2 ^ (low F - suc F.fraction) * A) * 2 ^ suc F.fraction)
psi-near F room A =
    let D = suc F.fraction in
    let s = low F - D in
    let c = 2 ^ D - 1 in
    let Z = to_even F (c * 2 ^ s * A) in
    let l-is : D + s ≡ low F = omega arith in
    near_down (c * A) (Z * 2 ^ D) s
    (rw l-is (subst (λ (z : ℕ). Near D (low F) (c * A * 2 ^ s) z) (ap (λ (z : ℕ). Z * 2 ^ z) (sym l-is) ∙ ap (λ (z : ℕ). Z * z) (pow-add 2 D s) ∙ sym (mul_assoc Z (2 ^ D) (2 ^ s)))
    (subst (λ (z : ℕ). Near D (low F) z (Z * 2 ^ low F)) (mul_right_comm c (2 ^ s) A) (rounded-near ToEven F.fraction (low F) (c * 2 ^ s * A)))))

-- ---- twice a value
rel-double : (r s : Bool) (m p n : ℕ) → Rel r s m p n → Rel r s (2 * m) (2 * p) (2 * n)
rel-double false false m p n h = omega arith
rel-double false true m p n h = omega arith
rel-double true false m p n h = omega arith
rel-double true true m p n h = omega arith

is-double : (F : Format) (r : Bool) (x : Value) (p n : ℕ) → Is r x p n → Rep (suc F.fraction) 0 (dist p n) → 2 * dist p n < limit F → Is r (mul_value F (two_value F) x) (2 * p) (2 * n)
is-double F r nan p n h a b = absurd h
is-double F r (infinite s) p n h a b = absurd h
is-double F r (finite s m) p n h a b =
    let d = rel-dist r s m p n h in
    let e : 2 ^ suc (low F) * m ≡ 2 * m * 2 ^ low F = ap (λ (z : ℕ). z * m) (pow-succ' 2 (low F)) ∙ mul_right_comm 2 (2 ^ low F) m in
    rw (mul-positive F (2 ^ suc (low F)) s m, e, round_whole ToEven F s (2 * m) (rep-double (rw d a)) (rw d b)) (rel-double r s m p n h)

-- ---- the three lines and the choice
module _ (F : Format) (room : Roomy F) (s : Bool) (n A : ℕ) (b : Value) (h : Split F s n A b) where
  pub Z : ℕ
  Z = to_even F ((2 ^ suc F.fraction - 1) * 2 ^ (low F - suc F.fraction) * A)

  zn : Near (suc F.fraction) (suc F.fraction) ((2 ^ suc F.fraction - 1) * A) (Z * 2 ^ suc F.fraction)
  unfolding Z
  zn = psi-near F room A

  pub z-is : mul_value F (psi_value F) (finite s A) ≡ finite s Z
  unfolding Z
  z-is =
      let c = (2 ^ suc F.fraction - 1) * 2 ^ (low F - suc F.fraction) in
      mul-positive F c s A ∙ round-below ToEven F s (c * A) (lt_of_le_of_lt (z-le Z h.near zn) h.fine)

  pub d-is : Is s (sub_value F (finite s Z) (finite s A)) Z A
  d-is =
      let e : dist (Z + 0) (0 + A) ≡ dist Z A = omega arith in
      let q = is-sub F s (finite s Z) (finite s A) Z 0 A 0 (rel-own s Z) (rel-own s A) (rw e (z-diff Z h.near zn)) (rw e (omega (arith, z-le Z h.near zn, h.fine))) in
      is-shift s (sub_value F (finite s Z) (finite s A)) (Z + 0) (0 + A) Z A q (omega arith)

  e-is : Is s (mul_value F (two_value F) b) (2 * n) (2 * A)
  e-is = is-double F s b n A h.rest h.error (lt_of_le_of_lt (error-le h.near) h.fine)

  choice : (c : Bool) → (T c → 2 * n + A ≡ Z + 2 * A) → (2 * n + A ≡ Z + 2 * A → T c)
      → Split0 F s n (to_zero F (n * 2 ^ low F)) (cond c (finite s Z) (finite s A)) (cond c (negate b) b)
  choice true x y =
      let f : Z ≡ to_zero F (n * 2 ^ low F) = near0-one (choose-z Z h.near zn (omega (arith, x tt))) (zero-at F n) in
      let d : dist n Z ≡ dist n A = omega (arith, x tt) in
      rw (← f) (record {
        is = refl;
        near = rw f (zero-at F n);
        fine = lt_of_le_of_lt (z-le Z h.near zn) h.fine;
        error = rw d h.error;
        rest = is-shift s (negate b) A n n Z (is-negate s b n A h.rest) (omega (arith, x tt));
      })
  choice false x y =
      let f : A ≡ to_zero F (n * 2 ^ low F) = near0-one (choose-a Z h.near zn (λ t. y (omega arith))) (zero-at F n) in
      rw (← f) (record { is = refl; near = rw f (zero-at F n); fine = h.fine; error = h.error; rest = h.rest })

  pub recomposed : (z d e : Value) → z ≡ mul_value F (psi_value F) (finite s A) → d ≡ sub_value F z (finite s A) → e ≡ mul_value F (two_value F) b
      → Split0 F s n (to_zero F (n * 2 ^ low F)) (cond (same e d) z (finite s A)) (cond (same e d) (negate b) b)
  recomposed z d e zi di ei =
      let v = sub_value F (finite s Z) (finite s A) in
      let w = mul_value F (two_value F) b in
      rw (ei, di, zi, z-is) (choice (same w v) (same-eq s w v (2 * n) (2 * A) Z A e-is d-is) (eq-same s w v (2 * n) (2 * A) Z A e-is d-is))

-- ---- the product of a finite value is finite
pub psi-finite : (F : Format) → Roomy F → (s : Bool) (A : ℕ) → Fits F (finite s A) → is_finite (mul_value F (psi_value F) (finite s A)) ≡ true
unfolding Fits
psi-finite F room s A f =
    let none : dist A A ≡ 0 = omega arith in
    let own : (s : Bool) → Rel s s 0 A A = λ (s : Bool). nothing s A in
    let whole : Split F s A A (finite s 0) = record { near = record { rep = f.0; best = λ m r. omega arith }; fine = f.1; error = rw none rep_zero; rest = own s } in
    ap is_finite (z-is F room s A A (finite s 0) whole)
  where
    nothing : (s : Bool) (A : ℕ) → Rel s s 0 A A
    nothing false A = omega arith
    nothing true A = omega arith
