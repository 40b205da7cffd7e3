-- Being nearest in finer and coarser units, and with another lowest exponent.
use mathlib.Core.Path.{◌≡◌, sym, ap, ◌∙◌}
use Prim.Native.Nat.{ℕ, suc, ◌+◌, ◌*◌, ◌^◌, ◌≤◌}
use native.Mathlib.Nat.{zero-add, le_refl, le_trans, le_of_eq, mul-le-mul_right, le_of_mul-le-mul_right, eq_of_mul-eq-mul_right, add-mul}
use native.Mathlib.Omega.{arith}
use lib.Pow.{pow_pos}
use Rattle.rounding_spec.specs.declared.Ties.{Ties}
use Rattle.rounding_spec.specs.declared.Ties.TheVariants.{ToZero}
use Rattle.rounding_spec.specs.Round.{rounded}
use Rattle.rounding_spec.specs.Nearest.{dist, Rep, Near, Near0}
use Rattle.rounding_spec.proofs.Multiple.{mult-down, sub-mul}
use Rattle.rounding_spec.proofs.Representable.{rep-mult, rep-le, rep-lower, rep-raise}
use Rattle.rounding_spec.proofs.NearLaws.{near-ge}
use Rattle.rounding_spec.proofs.Rounded.{rounded-near, rounded-near0}
use Rattle.rounding_spec.proofs.Scaled.{rep-up, rep_down}

pub dist-mul : (a b S : ℕ) → dist (a * S) (b * S) ≡ dist a b * S
dist-mul a b S = simp (add-mul, sub-mul)

pub near_up : {p l n a : ℕ} (s : ℕ) → Near p l n a → Near p (l + s) (n * 2 ^ s) (a * 2 ^ s)
near_up {p} {l} {n} {a} s h = record { rep = rep-up s h.rep; best = go }
  where
    go : (m : ℕ) → Rep p (l + s) m → dist (a * 2 ^ s) (n * 2 ^ s) ≤ dist m (n * 2 ^ s)
    go m r =
        let c = mult-down m (let z : s ≤ r.e = omega (arith, r.low) in z) (rep-mult r) in
        rw c.1 (rw (dist-mul, dist-mul) (mul-le-mul_right (2 ^ s) (h.best c.0 (rep_down c.0 s (rw c.1 at r)))))

pub near_down : {p l : ℕ} (n a s : ℕ) → Near p (l + s) (n * 2 ^ s) (a * 2 ^ s) → Near p l n a
near_down {p} {l} n a s h =
    record { rep = rep_down a s h.rep; best = λ m r. le_of_mul-le-mul_right {k = 2 ^ s} (rw (← dist-mul a n (2 ^ s), ← dist-mul m n (2 ^ s)) (h.best (m * 2 ^ s) (rep-up s r))) (pow_pos s) }

pub near0-up : {p l n a : ℕ} (s : ℕ) → Near0 p l n a → Near0 p (l + s) (n * 2 ^ s) (a * 2 ^ s)
near0-up {p} {l} {n} {a} s h = record { near = near_up s h.near; tie = go }
  where
    go : (m : ℕ) → Rep p (l + s) m → dist m (n * 2 ^ s) ≡ dist (a * 2 ^ s) (n * 2 ^ s) → a * 2 ^ s ≤ m
    go m r e =
        let c = mult-down m (let z : s ≤ r.e = omega (arith, r.low) in z) (rep-mult r) in
        let d : dist c.0 n ≡ dist a n = eq_of_mul-eq-mul_right (2 ^ s) (pow_pos s) (dist c.0 n) (dist a n)
        (sym (dist-mul c.0 n (2 ^ s)) ∙ ap (λ (z : ℕ). dist z (n * 2 ^ s)) (sym c.1) ∙ e ∙ dist-mul a n (2 ^ s)) in
        le_trans (mul-le-mul_right (2 ^ s) (h.tie c.0 (rep_down c.0 s (rw c.1 at r)) d)) (le_of_eq (sym c.1))

pub near0-down : {p l : ℕ} (n a s : ℕ) → Near0 p (l + s) (n * 2 ^ s) (a * 2 ^ s) → Near0 p l n a
near0-down n a s h =
    record {
      near = near_down n a s h.near;
      tie = λ m r e. le_of_mul-le-mul_right (h.tie (m * 2 ^ s) (rep-up s r) (dist-mul m n (2 ^ s) ∙ ap (λ (z : ℕ). z * 2 ^ s) e ∙ sym (dist-mul a n (2 ^ s))))
          (pow_pos s);
    }

-- ---- another lowest exponent, where the number is large enough
pub near-raise : {p l n a : ℕ} (l' : ℕ) → l ≤ l' → 2 ^ p * 2 ^ l' ≤ n → Near (suc p) l n a → Near (suc p) l' n a
near-raise {p} {l} l' b h near =
    record { rep = rep-raise (near-ge near (rep-lower b (rep-le p l' (2 ^ p) l' (le_refl l') (omega (arith, pow_pos p)))) h) near.rep; best = λ m r. near.best m (rep-lower b r) }

pub near0-raise : {p l n a : ℕ} (l' : ℕ) → l ≤ l' → 2 ^ p * 2 ^ l' ≤ n → Near0 (suc p) l n a → Near0 (suc p) l' n a
near0-raise l' b h k = record { near = near-raise l' b h k.near; tie = λ m r e. k.tie m (rep-lower b r) e }

-- ---- a whole number n of u, rounded
pub whole-near : (t : Ties) (f L n : ℕ) → Near (suc f) 0 n (rounded t f L (n * 2 ^ L))
whole-near t f L n = near_down n (rounded t f L (n * 2 ^ L)) L (rw zero-add (rounded-near t f L (n * 2 ^ L)))

pub whole-near0 : (f L n : ℕ) → Near0 (suc f) 0 n (rounded ToZero f L (n * 2 ^ L))
whole-near0 f L n = near0-down n (rounded ToZero f L (n * 2 ^ L)) L (rw zero-add (rounded-near0 f L (n * 2 ^ L)))
