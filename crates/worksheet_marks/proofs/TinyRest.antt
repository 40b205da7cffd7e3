-- In the branch of tiny products (R5.15) w = z - t3 is exact, on whichever side of g the scaled product lies; z = t2 + t3 may be rounded.
use mathlib.Core.Path.{◌≡◌, refl, sym, ◌∙◌}
use mathlib.Core.Logic.{inl, inr}
use mathlib.Core.Bool.{Bool, true, false}
use Prim.Native.Nat.{ℕ, suc, ◌+◌, ◌-◌, ◌*◌, ◌^◌, ◌≤◌, ◌<◌}
use native.Mathlib.Nat.{le_trans, le_of_eq, lt_of_le_of_lt}
use native.Mathlib.Decide.{dec_le}
use native.Mathlib.Omega.{arith}
use lib.Pow.{pow_pos}
use Rattle.rounding_spec.specs.Format.{Format, limit}
use Rattle.rounding_spec.specs.Nearest.{dist, Rep, Near}
use Rattle.rounding_spec.specs.Value.{Value, finite}
use Rattle.rounding_spec.proofs.Multiple.{Mult}
use Rattle.rounding_spec.proofs.NearLaws.{near-exact, near-ge}
use Rattle.rounding_spec.proofs.Representable.{rep_zero}
use Rattle.rounding_spec.proofs.SmallProducts.{apart, difference-rep}
use Rattle.rounding_spec.proofs.Sterbenz.{dist-ge, dist-le, add-ge, add-v, sub-le, sub-v}
use Rattle.binary32_spec.specs.Steps.{add_value, sub_value}
use Rattle.errorfree_spec.proofs.Signed.{Rel, Is, rel-other}
use Rattle.errorfree_spec.proofs.Steps.{is-sub}
use Rattle.errorfree_spec.proofs.TinyTest.{Scaled}
use Rattle.errorfree_spec.proofs.TinyTest as test

-- ---- T is rounded to T1, and G, a coarser number, is near T and not above it: with Z the rounding of T - G, Z - (T1 - G) is exact. (Where G is
-- above T it is `rounded_rest` of SmallProducts.)
sum-up : (T T1 G : ℕ) → G ≤ T1 → T1 ≤ T → T - G ≡ T1 - G + dist T1 T
sum-up T T1 G h k = omega arith

sum-down : (T T1 G : ℕ) → G ≤ T → T ≤ T1 → T - G ≡ T1 - G - dist T1 T
sum-down T T1 G h k = omega arith

no-sum : (Z T1 G : ℕ) → T1 ≡ G → dist Z (T1 - G) ≡ Z
no-sum Z T1 G e = omega arith

rounded-over : {p T T1 G Z : ℕ} (k : ℕ) → Near (suc p) 0 T T1 → Rep (suc p) 0 G → Mult k G → T < 2 ^ suc p * 2 ^ k → dist T G * 2 ≤ G → Rep (suc p) 0 (dist T1 T) → G ≤ T
    → Near (suc p) 0 (T - G) Z → (G ≤ T1) × Rep (suc p) 0 (dist Z (T1 - G))
rounded-over {p} {T} {T1} {G} {Z} k h g gk top near t2 over n =
    let ge : G ≤ T1 = near-ge h g over in (
      ge,
      elim (apart k h g gk top) [
        | inl b ↦ rw (no-sum Z T1 G b) n.rep
        | inr b ↦
            let X = T1 - G in
            let x : Rep (suc p) 0 X = rw (dist-ge ge) at (difference-rep k h g gk top near) in
            let le : dist T1 T ≤ X = le_trans b (le_of_eq (dist-ge ge)) in
            elim (dec_le T1 T) [
              | yes c ↦
                  let n' = rw (sum-up T T1 G ge c) at n in
                  rw (dist-ge (add-ge x t2 le n')) (add-v x t2 le n')
              | no c ↦
                  let n' = rw (sum-down T T1 G over (let z : T ≤ T1 = omega arith in z)) at n in
                  rw (dist-le (sub-le x t2 le n')) (sub-v x t2 le n')
            ]
      ],
    )

-- ---- what is not below zero counts as plus
not-below : (r s : Bool) (d Q G Z : ℕ) → Rel r s d Q G → G ≤ Q → (d ≡ 0 → Z ≡ 0) → Rel r s Z Z 0
not-below false false d Q G Z h le z = omega arith
not-below true true d Q G Z h le z = omega arith
not-below false true d Q G Z h le z = omega (arith, z (omega arith))
not-below true false d Q G Z h le z = omega (arith, z (omega arith))

-- ---- T1 is nearest to Q and t2 is what is left; G, on a coarser grid, is near Q; t3 is T1 - G, and Z the magnitude of z
module _ (F : Format) (r : Bool) (T1 Q G H k : ℕ) (t2 : Value) (h : Scaled F r T1 Q G H k t2) where
  abbrev t3 : Value
  t3 = test.t3 F r T1 Q G H k t2 h

  abbrev Z : ℕ
  Z = test.Z F r T1 Q G H k t2 h

  Z-near : Near (suc F.fraction) 0 (dist Q G) Z
  Z-near = test.Z-near F r T1 Q G H k t2 h

  Z-fine : Z < limit F
  Z-fine = lt_of_le_of_lt (test.Z-le F r T1 Q G H k t2 h) h.H-fine

  -- z as a difference, and w = z - t3 as its exact one; z is zero exactly where Q is G
  pub record Rest : Type 0 where
    pub zp : ℕ
    pub zn : ℕ
    pub z-is : Is r (add_value F t2 t3) zp zn
    pub w-is : Is r (sub_value F (add_value F t2 t3) t3) (zp + G) (zn + T1)
    pub zero_of : zp ≡ zn → Q ≡ G
    pub of_zero : Q ≡ G → zp ≡ zn

  no-Z : Q ≡ G → Z ≡ 0
  no-Z e = let d : dist Q G ≡ 0 = none Q G e in near-exact Z-near (rw d rep_zero) ∙ d
    where
      none : (i j : ℕ) → i ≡ j → dist i j ≡ 0
      none i j e = omega arith

  Z-no : Z ≡ 0 → Q ≡ G
  Z-no e = elim (dec_le 1 (dist Q G)) [ yes g ↦ absurd (above Z (near-ge Z-near one-rep g) e) | no g ↦ none Q G g ]
    where
      above : (z : ℕ) → 1 ≤ z → z ≡ 0 → ⊥
      above z h e = omega arith

      none : (i j : ℕ) → ¬ (1 ≤ dist i j) → i ≡ j
      none i j h = omega arith

      one-rep : Rep (suc F.fraction) 0 1
      one-rep = record { e = 0; m = 1; low = omega arith; small = omega (arith, pow_pos F.fraction); is = refl }

  below : Q < G → Rest
  below less =
      let zi = test.z-below F r T1 Q G H k t2 h less in
      record { zp = 0; zn = Z; z-is = rw zi (rel-other r Z); w-is = rw zi (test.w-is F r T1 Q G H k t2 h less); zero_of = λ e. Z-no (sym e); of_zero = λ e. sym (no-Z e) }

  above : G ≤ Q → Rest
  above over =
      let near : Near (suc F.fraction) 0 (Q - G) Z = rw (dist-ge over) at Z-near in
      let o = rounded-over k h.near h.G-rep h.G-grid h.top h.close h.error over near in
      let z = test.z-is F r T1 Q G H k t2 h in
      let own : Rel r z.0 Z Z 0 = not-below r z.0 (dist Q G) Q G Z z.2 over (λ e. near-exact Z-near (rw e rep_zero) ∙ e) in
      let e : dist (Z + G) (0 + T1) ≡ dist Z (T1 - G) = part Z G T1 o.0 in
      record {
        zp = Z;
        zn = 0;
        z-is = rw z.1 own;
        w-is = rw z.1 (is-sub F r (finite z.0 Z) t3 Z 0 T1 G own (test.t3-is F r T1 Q G H k t2 h) (rw e o.1) (rw e (bound Z T1 G (limit F) Z-fine h.fine)));
        zero_of = Z-no;
        of_zero = no-Z;
      }
    where
      part : (z g o : ℕ) → g ≤ o → dist (z + g) (0 + o) ≡ dist z (o - g)
      part z g o h = omega arith

      bound : (z o g W : ℕ) → z < W → o < W → dist z (o - g) < W
      bound z o g W a b = omega arith

  pub w-rest : Rest
  w-rest = elim (dec_le G Q) [ yes g ↦ above g | no g ↦ below (omega arith) ]
