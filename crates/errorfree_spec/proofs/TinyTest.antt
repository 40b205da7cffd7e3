-- The test for a tie that went up, on the scaled product Q and the scaled rounded product G: true exactly where Q is H below G.
use mathlib.Core.Path.{◌≡◌, ap, ◌∙◌, subst}
use mathlib.Core.Bool.{Bool, true, false, not, ◌&&◌}
use Prim.Native.Nat.{ℕ, suc, ◌+◌, ◌-◌, ◌*◌, ◌^◌, ◌≤◌, ◌<◌}
use native.Mathlib.Nat.{le_of_eq}
use native.Mathlib.Decide.{dec_le}
use native.Mathlib.Omega.{arith}
use lib.Dec.{T}
use Rattle.rounding_spec.specs.declared.Ties.TheVariants.{ToEven}
use Rattle.rounding_spec.specs.Format.{Format, low, limit}
use Rattle.rounding_spec.specs.Nearest.{dist, Rep, Near}
use Rattle.rounding_spec.specs.Value.{Value, nan, infinite, finite, round_finite, round, RNe}
use Rattle.rounding_spec.proofs.Multiple.{Mult}
use Rattle.rounding_spec.proofs.NearLaws.{near-exact, near_le}
use Rattle.rounding_spec.proofs.Representable.{rep_zero}
use Rattle.rounding_spec.proofs.RoundValue.{round-below}
use Rattle.rounding_spec.proofs.SmallProducts.{difference-rep, difference-none, rounded_rest}
use Rattle.rounding_spec.proofs.Sterbenz.{dist-le}
use Rattle.pattern_spec.specs.Exact.{plus, finer}
use Rattle.binary32_spec.specs.Steps.{add_value, sub_value}
use Rattle.pattern_spec.specs.Comparisons.{same}
use Rattle.errorfree_spec.proofs.Signed.{and_both, and-make, Rel, Is, rel-own, rel-dist, is-plus, is-shift, same-eq, eq-same, dist-shift, rel-other, other-side}
use Rattle.errorfree_spec.proofs.Steps.{to_even, even-at, is-sub}

-- ---- a sum that may be rounded
rounded-is : (F : Format) (r : Bool) (v : Value) (p n : ℕ) → Is r v p n → to_even F (dist p n * 2 ^ low F) < limit F
    → (s : Bool) × (RNe F (finer F v) ≡ finite s (to_even F (dist p n * 2 ^ low F))) × Rel r s (dist p n) p n
unfolding finer round
rounded-is F r nan p n h b = absurd h
rounded-is F r (infinite s) p n h b = absurd h
rounded-is F r (finite s m) p n h b =
    let d = rel-dist r s m p n h in
    (s, ap (λ (z : ℕ). round_finite ToEven F s (z * 2 ^ low F)) d ∙ round-below ToEven F s (dist p n * 2 ^ low F) b, subst (λ (z : ℕ). Rel r s z p n) d h)

add-rounded : (F : Format) (r : Bool) (x y : Value) (p n p' n' : ℕ) → Is r x p n → Is r y p' n' → to_even F (dist (p + p') (n + n') * 2 ^ low F) < limit F
    → (s : Bool) × (add_value F x y ≡ finite s (to_even F (dist (p + p') (n + n') * 2 ^ low F))) × Rel r s (dist (p + p') (n + n')) (p + p') (n + n')
unfolding add_value
add-rounded F r x y p n p' n' h k b = rounded-is F r (plus x y) (p + p') (n + n') (is-plus r x y p n p' n' h k) b

-- ---- signs
-- a difference that is not negative does not round to -H
not-minus : (s u : Bool) (d Q G Z H : ℕ) → Rel s u d Q G → G ≤ Q → (d ≡ 0 → Z ≡ 0) → 0 < H → T (same (finite u Z) (finite (not s) H)) → ⊥
not-minus false false d Q G Z H r le z h t = omega (arith, same-eq false (finite false Z) (finite true H) Z 0 0 H (rel-own false Z) (rel-other false H) t)
not-minus false true d Q G Z H r le z h t = omega (arith, same-eq false (finite true Z) (finite true H) 0 Z 0 H (rel-other false Z) (rel-other false H) t, z (omega arith))
not-minus true false d Q G Z H r le z h t = omega (arith, same-eq true (finite false Z) (finite false H) 0 Z 0 H (rel-other true Z) (rel-other true H) t, z (omega arith))
not-minus true true d Q G Z H r le z h t = omega (arith, same-eq true (finite true Z) (finite false H) Z 0 0 H (rel-own true Z) (rel-other true H) t)

-- ---- the test: T1 is nearest to Q and t2 is what is left, t3 is T1 - G, z is t2 + t3 rounded, and w is z - t3
pub record Scaled (F : Format) (r : Bool) (T1 Q G H k : ℕ) (t2 : Value) : Type 0 where
  pub near : Near (suc F.fraction) 0 Q T1
  pub fine : T1 < limit F
  pub error : Rep (suc F.fraction) 0 (dist T1 Q)
  pub rest : Is r t2 Q T1
  pub top : Q < 2 ^ suc F.fraction * 2 ^ k
  pub G-rep : Rep (suc F.fraction) 0 G
  pub G-grid : Mult k G
  pub G-fine : G < limit F
  pub close : dist Q G * 2 ≤ G
  pub H-rep : Rep (suc F.fraction) 0 H
  pub H-pos : 0 < H
  pub H-fine : H < limit F
  pub within : dist Q G ≤ H

module _ (F : Format) (r : Bool) (T1 Q G H k : ℕ) (t2 : Value) (h : Scaled F r T1 Q G H k t2) where
  abbrev pub t3 : Value
  t3 = sub_value F (finite r T1) (finite r G)

  abbrev minusH : Value
  minusH = finite (not r) H

  -- what the code computes from t1, t2, g and H
  abbrev pub tie_up : Bool
  tie_up = same (add_value F t2 t3) minusH && same (sub_value F (add_value F t2 t3) t3) t2

  pub t3-is : Is r t3 T1 G
  t3-is =
      let e = dist-shift (T1 + 0) (0 + G) T1 G (omega arith) in
      is-shift r t3 (T1 + 0) (0 + G) T1 G
      (is-sub F r (finite r T1) (finite r G) T1 0 G 0 (rel-own r T1) (rel-own r G) (rw e (difference-rep k h.near h.G-rep h.G-grid h.top h.close))
      (rw e (omega (arith, h.fine, h.G-fine))))
      (omega arith)

  pub Z : ℕ
  Z = to_even F (dist Q G * 2 ^ low F)

  pub Z-near : Near (suc F.fraction) 0 (dist Q G) Z
  unfolding Z
  Z-near = even-at F (dist Q G)

  pub Z-le : Z ≤ H
  Z-le = near_le Z-near h.H-rep h.within

  sum-dist : dist (Q + T1) (T1 + G) ≡ dist Q G
  sum-dist = dist-shift (Q + T1) (T1 + G) Q G (omega arith)

  pub z-is : (s : Bool) × (add_value F t2 t3 ≡ finite s Z) × Rel r s (dist Q G) Q G
  unfolding Z
  z-is =
      let c = add-rounded F r t2 t3 Q T1 T1 G h.rest t3-is (rw sum-dist (omega (arith, Z-le, h.H-fine))) in (
        c.0,
        c.1 ∙ ap (λ (z : ℕ). finite c.0 (to_even F (z * 2 ^ low F))) sum-dist,
        is-shift r (finite c.0 (dist Q G)) (Q + T1) (T1 + G) Q G (subst (λ (z : ℕ). Rel r c.0 z (Q + T1) (T1 + G)) sum-dist c.2) (omega arith),
      )

  module _ (less : Q < G) where
    T1-le : T1 ≤ G
    T1-le = elim (dec_le G T1) [ yes b ↦ le_of_eq (difference-none k h.near h.G-rep h.G-grid h.top h.close less b) | no b ↦ omega arith ]

    Z-below : Near (suc F.fraction) 0 (G - Q) Z
    Z-below = rw (dist-le (let z : Q ≤ G = omega arith in z)) at Z-near

    w-dist : (Z G T1 : ℕ) → T1 ≤ G → dist (0 + G) (Z + T1) ≡ dist Z (G - T1)
    w-dist Z G T1 h = omega arith

    w-bound : (Z G T1 H W : ℕ) → T1 ≤ G → Z ≤ H → H < W → G < W → dist Z (G - T1) < W
    w-bound Z G T1 H W a b c d = omega arith

    pub w-is : Is r (sub_value F (finite (not r) Z) t3) (0 + G) (Z + T1)
    w-is =
        let e = w-dist Z G T1 T1-le in
        is-sub F r (finite (not r) Z) t3 0 Z T1 G (rel-other r Z) t3-is (rw e (rounded_rest k h.near h.G-rep h.G-grid h.top h.close h.error less Z-below))
        (rw e (w-bound Z G T1 H (limit F) T1-le Z-le h.H-fine h.G-fine))

    pub z-below : add_value F t2 t3 ≡ finite (not r) Z
    z-below = z-is.1 ∙ ap (λ (s : Bool). finite s Z) (other-side r z-is.0 (dist Q G) Q G z-is.2 less)

    below_true : T tie_up → Q + H ≡ G
    below_true t =
        let c = and_both (same (finite (not r) Z) minusH) (same (sub_value F (finite (not r) Z) t3) t2) (rw z-below at t) in
        let x : 0 + H ≡ 0 + Z = same-eq r (finite (not r) Z) minusH 0 Z 0 H (rel-other r Z) (rel-other r H) c.0 in
        let y : 0 + G + T1 ≡ Q + (Z + T1) = same-eq r (sub_value F (finite (not r) Z) t3) t2 (0 + G) (Z + T1) Q T1 w-is h.rest c.1 in
        omega arith

    below-make : Q + H ≡ G → T tie_up
    below-make e =
        let z : Z ≡ G - Q = near-exact Z-below (let q : G - Q ≡ H = omega arith in rw q h.H-rep) in
        rw z-below
        (and-make (same (finite (not r) Z) minusH) (same (sub_value F (finite (not r) Z) t3) t2)
        (eq-same r (finite (not r) Z) minusH 0 Z 0 H (rel-other r Z) (rel-other r H) (omega arith))
        (eq-same r (sub_value F (finite (not r) Z) t3) t2 (0 + G) (Z + T1) Q T1 w-is h.rest (omega arith)))

  pub test-true : T tie_up → Q + H ≡ G
  test-true t =
      elim (dec_le G Q) [
        | yes g ↦ absurd
            (let c = and_both (same (add_value F t2 t3) minusH) (same (sub_value F (add_value F t2 t3) t3) t2) t in
            not-minus r z-is.0 (dist Q G) Q G Z H z-is.2 g (λ e. near-exact Z-near (rw e rep_zero) ∙ e) h.H-pos (subst (λ (v : Value). T (same v minusH)) z-is.1 c.0))
        | no g ↦ below_true (omega arith) t
      ]

  pub test-make : Q + H ≡ G → T tie_up
  test-make e = below-make (omega (arith, h.H-pos)) e
