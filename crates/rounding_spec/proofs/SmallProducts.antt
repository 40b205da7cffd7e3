-- A second rounding to a coarser unit, and differences from a number near by: what corrections of small products rest on.
use mathlib.Core.Path.{◌≡◌, sym, ap, ◌∙◌, subst}
use mathlib.Core.Logic.{◌⊎◌, inl, inr}
use Prim.Native.Nat.{ℕ, zero, suc, ◌+◌, ◌-◌, ◌*◌, ◌^◌, ◌≤◌, ◌<◌}
use native.Mathlib.Nat.{le_refl, le_trans, le_of_eq, lt_of_lt_of_le, lt_of_le_of_lt, mul-le-mul_left, mul-lt-mul_of_pos_right, suc-mul, mul-one, zero-mul}
use native.Mathlib.Decide.{dec_le}
use native.Mathlib.Omega.{arith}
use lib.Pow.{pow-add, pow_pos, pow_mono}
use Rattle.rounding_spec.specs.Nearest.{dist, Rep, Near, Near0}
use Rattle.rounding_spec.specs.Round.{last_place}
use Rattle.rounding_spec.proofs.Multiple.{Mult, mult-down, mult-dist}
use Rattle.rounding_spec.proofs.Representable.{rep-low, rep-le, rep-raise}
use Rattle.rounding_spec.proofs.NearLaws.{near-exact, near-ge, near_le}
use Rattle.rounding_spec.proofs.LastPlace.{place-ge, place-le, place-above, place-below}
use Rattle.rounding_spec.proofs.Rescaled.{near-raise}
use Rattle.rounding_spec.proofs.ProductError.{near-half}
use Rattle.rounding_spec.proofs.Predecessor.{Upper, upper}
use Rattle.rounding_spec.proofs.TieDown.{keep-above, keep-below, go-down}
use Rattle.rounding_spec.proofs.Sterbenz.{dist-ge, dist-le, rep-dist, rep-double, half-ge, add-ge, add-v, sub-le, sub-v}

-- ---- B, a number of the format, is rounded again, to a multiple of 2 ^ l; where that was a tie that went up, ties go down by 2 ^ l
module _ {p l B A : ℕ} (b : Rep (suc p) 0 B) (h : Near (suc p) l B A) where
  lowest : (u : Upper p l A) → B < A → u.f ≡ l
  lowest u less =
      elim (dec_le u.f l) [
        | yes g ↦ omega (arith, u.low)
        | no g ↦ absurd
            (let f = u.above (omega arith) in
            let big : 2 ^ p * 2 ^ l < A = lt_of_lt_of_le (lt_of_le_of_lt (mul-le-mul_left (2 ^ p) (pow_mono u.low)) (mul-lt-mul_of_pos_right f (pow_pos u.f))) (le_of_eq (sym u.is)) in
            elim (dec_le (2 ^ p * 2 ^ l) B) [
              | yes k ↦ omega (arith, near-exact h (rep-raise k b))
              | no k ↦ omega (arith, near_le h (rep-le p l (2 ^ p) l (le_refl l) (omega (arith, pow_pos p))) (omega arith))
            ])
      ]

  pub rest-down : 0 < A → B < A → 2 * (A - B) ≡ 2 ^ l → Near0 (suc p) l B (A - 2 ^ l)
  rest-down pos less eq =
      let u = upper p l A h.rep pos in
      let e = lowest u less in
      subst (λ (z : ℕ). Near0 (suc p) l B (A - 2 ^ z)) e (go-down h u less (eq ∙ ap (λ (z : ℕ). 2 ^ z) (sym e)))

  pub rest-keep : ¬ ((B < A) × (2 * (A - B) ≡ 2 ^ l)) → Near0 (suc p) l B A
  rest-keep no_tie =
      elim (dec_le A B) [
        | yes g ↦ keep-above h g
        | no g ↦
            let less : B < A = omega arith in
            let u = upper p l A h.rep (omega arith) in
            keep-below h u less (λ t. no_tie (less, t ∙ ap (λ (z : ℕ). 2 ^ z) (lowest u less)))
      ]

-- ---- a nearest number is a multiple of n's last place, and at most half of it away
pub near-place : {p l n a : ℕ} → Near (suc p) l n a → Mult (last_place p l n) a
near-place {p} {l} {n} {a} h =
    let k = last_place p l n in
    elim (dec_le (suc l) k) [
      | yes g ↦ rep-low (near-raise k (place-ge p l n) (le_trans (le_of_eq (sym (pow-add 2 p k))) (place-below p l n g)) h).rep
      | no g ↦ let b = place-ge p l n in let e : k ≡ l = omega arith in rw e (rep-low h.rep)
    ]

pub near-error : {p l n a : ℕ} → Near (suc p) l n a → 2 * dist a n ≤ 2 ^ last_place p l n
near-error {p} {l} {n} {a} h = near-half (last_place p l n) h (place-ge p l n) (lt_of_lt_of_le (place-above p l n) (le_of_eq (pow-add 2 (suc p) (last_place p l n))))

far : (d e K q : ℕ) → 2 * d ≤ K → e ≡ q + K → d ≤ e
far d e K q a b = omega arith

-- ---- T is rounded to T1; G, a coarser number of the format, is near T. T1 - G is a number of the format, and so is what rounding leaves of T - G.
module _ {p T T1 G : ℕ} (k : ℕ) (h : Near (suc p) 0 T T1) (g : Rep (suc p) 0 G) (gk : Mult k G) (top : T < 2 ^ suc p * 2 ^ k) where
  -- T1 and G are equal, or further apart than T and T1
  pub apart : (T1 ≡ G) ⊎ (dist T1 T ≤ dist T1 G)
  apart =
      let c = last_place p 0 T in
      let m = mult-dist c T1 G (near-place h) (mult-down G (place-le p 0 k T (omega arith) (lt_of_lt_of_le top (le_of_eq (sym (pow-add 2 (suc p) k))))) gk) in
      go m.0 m.1 (near-error h)
    where
      go : (q : ℕ) → dist T1 G ≡ q * 2 ^ last_place p 0 T → 2 * dist T1 T ≤ 2 ^ last_place p 0 T → (T1 ≡ G) ⊎ (dist T1 T ≤ dist T1 G)
      go zero e b = inl (omega (arith, zero-mul (2 ^ last_place p 0 T)))
      go (suc q) e b = inr (far (dist T1 T) (dist T1 G) (2 ^ last_place p 0 T) (q * 2 ^ last_place p 0 T) b (e ∙ suc-mul q (2 ^ last_place p 0 T)))

  module _ (near : dist T G * 2 ≤ G) where
    pub difference-rep : Rep (suc p) 0 (dist T1 G)
    difference-rep =
        rep-dist h.rep g
        (elim (dec_le G T) [ yes b ↦ omega (arith, near-ge h g b) | no b ↦ half-ge g (T, sym (mul-one T)) (omega arith) (omega arith) h ])
        (near_le h (rep-double g) (omega arith))

    pub difference-none : T < G → G ≤ T1 → T1 ≡ G
    difference-none less le = elim apart [ inl e ↦ e | inr b ↦ absurd (omega arith) ]

    -- with Z the rounding of G - T, Z - (G - T1) is exact
    pub rounded_rest : {Z : ℕ} → Rep (suc p) 0 (dist T1 T) → T < G → Near (suc p) 0 (G - T) Z → Rep (suc p) 0 (dist Z (G - T1))
    rounded_rest {Z} t2 less n =
        elim (dec_le G T1) [
          | yes b ↦ let e : dist Z (G - T1) ≡ Z = omega (arith, difference-none less b) in rw e n.rep
          | no b ↦
              let X = G - T1 in
              let x : Rep (suc p) 0 X = rw (dist-le (let z : T1 ≤ G = omega arith in z)) at difference-rep in
              let le : dist T1 T ≤ X = elim apart [ inl e ↦ absurd (omega arith) | inr c ↦ omega arith ] in
              elim (dec_le T T1) [
                | yes c ↦
                    let e : G - T ≡ X + dist T1 T = omega arith in
                    let n' = rw e at n in
                    rw (dist-ge (add-ge x t2 le n')) (add-v x t2 le n')
                | no c ↦
                    let e : G - T ≡ X - dist T1 T = omega arith in
                    let n' = rw e at n in
                    rw (dist-le (sub-le x t2 le n')) (sub-v x t2 le n')
              ]
        ]
