-- From a nearest number A to the one that ties go down to: A itself, or the number below it where A came from a tie.
use mathlib.Core.Path.{sym, ◌≡◌, ap, ◌∙◌}
use mathlib.Core.Logic.{◌≢◌}
use Prim.Native.Nat.{ℕ, suc, ◌+◌, ◌-◌, ◌*◌, ◌^◌, ◌≤◌, ◌<◌}
use native.Mathlib.Nat.{mul-one, le_refl, le_trans, le_of_eq, mul-pos, pow-succ', mul_assoc}
use native.Mathlib.Decide.{dec_le}
use native.Mathlib.Omega.{arith}
use lib.Pow.{pow_pos}
use Rattle.rounding_spec.specs.Nearest.{dist, Near, Near0}
use Rattle.rounding_spec.proofs.Multiple.{Mult}
use Rattle.rounding_spec.proofs.Representable.{rep-lt, rep-pow}
use Rattle.rounding_spec.proofs.NearLaws.{near-exact, near-ge}
use Rattle.rounding_spec.proofs.Predecessor.{Upper, upper, below-add, below-rep, below-best}
use Rattle.rounding_spec.proofs.Sterbenz.{rep-double}

pub dbl : (p l : ℕ) → 2 ^ suc p * 2 ^ l ≡ 2 * (2 ^ p * 2 ^ l)
dbl p l = ap (λ (z : ℕ). z * 2 ^ l) (pow-succ' 2 p) ∙ mul_assoc 2 (2 ^ p) (2 ^ l)

is-tie : (A P F t m : ℕ) → P + F ≡ A → 0 < F → t < A → dist A t ≤ dist P t → m ≤ P → dist m t ≡ dist A t → 2 * (A - t) ≡ F
is-tie A P F t m e f h b c d = omega arith

same-dist : (A P F t : ℕ) → P + F ≡ A → t < A → 2 * (A - t) ≡ F → dist P t ≡ dist A t
same-dist A P F t e h d = omega arith

under : (P F A t m : ℕ) → P + F ≡ A → t < A → 2 * (A - t) ≡ F → dist m t ≡ dist A t → P ≤ m
under P F A t m e h d k = omega arith

-- ---- A is nearest to t: it is kept, unless t lies below it by half of the step down to the next smaller number, which was a tie that went up
module _ {p l t A : ℕ} (h : Near (suc p) l t A) where
  pub keep-above : A ≤ t → Near0 (suc p) l t A
  keep-above g = record { near = h; tie = λ m r e. omega arith }

  -- up to 2 ^ p units of the lowest exponent nothing is rounded
  pub small-exact : Mult l t → A ≤ 2 ^ p * 2 ^ l → A ≡ t
  small-exact c g =
      near-exact h (rep-lt l t (le_refl l) c
      (elim (dec_le (2 ^ suc p * 2 ^ l) t) [ yes b ↦ absurd (let q = near-ge h (rep-pow p l l (le_refl l)) b in omega (arith, dbl p l, mul-pos (pow_pos p) (pow_pos l))) | no b ↦ omega arith ]))

  module _ (u : Upper p l A) (less : t < A) where
    pub keep-below : 2 * (A - t) ≢ 2 ^ u.f → Near0 (suc p) l t A
    keep-below ne = record {
      near = h;
      tie = λ m r e. elim (dec_le A m) [
        | yes g ↦ g
        | no g ↦
            absurd (ne (is-tie A (A - 2 ^ u.f) (2 ^ u.f) t m (below-add u) (pow_pos u.f) less (h.best (A - 2 ^ u.f) (below-rep u)) (below-best u m r (omega arith)) e))
      ];
    }

    pub go-down : 2 * (A - t) ≡ 2 ^ u.f → Near0 (suc p) l t (A - 2 ^ u.f)
    go-down eq =
        let d : dist (A - 2 ^ u.f) t ≡ dist A t = same-dist A (A - 2 ^ u.f) (2 ^ u.f) t (below-add u) less eq in
        record { near = record { rep = below-rep u; best = λ m r. le_trans (le_of_eq d) (h.best m r) }; tie = λ m r e. under (A - 2 ^ u.f) (2 ^ u.f) A t m (below-add u) less eq (e ∙ d) }

-- ---- at most half of a nearest number is left over
pub error-le : {p n A : ℕ} → Near (suc p) 0 n A → 2 * dist n A ≤ A
error-le {p} {n} {A} h =
    elim (dec_le A (2 ^ p)) [
      | yes g ↦ omega (arith, small-exact h (n, sym (mul-one n)) (omega arith))
      | no g ↦ elim (dec_le A n) [
        | yes k ↦ elim (dec_le n (2 * A)) [ yes j ↦ omega (arith, h.best (2 * A) (rep-double h.rep)) | no j ↦ absurd (omega (arith, near-ge h (rep-double h.rep) (omega arith), pow_pos p)) ]
        | no k ↦
            let u = upper p 0 A h.rep (omega arith) in
            above A (A - 2 ^ u.f) (2 ^ u.f) n (pow_pos u.f) (below-add u) (omega arith) (h.best (A - 2 ^ u.f) (below-rep u))
      ]
    ]
  where
    above : (A P F n : ℕ) → 0 < F → P + F ≡ A → n ≤ A → dist A n ≤ dist P n → 2 * dist n A ≤ A
    above A P F n z e k b = omega arith
