-- Representable numbers in finer and coarser units, and the rounded number in units of u.
use mathlib.Core.Path.{sym, ap, ◌∙◌, subst}
use Prim.Native.Nat.{ℕ, suc, ◌+◌, ◌-◌, ◌*◌, ◌^◌, ◌≤◌}
use native.Mathlib.Nat.{mul_assoc, zero-add, eq_of_mul-eq-mul_right}
use native.Mathlib.Omega.{arith}
use lib.Pow.{pow-add, pow_pos}
use Rattle.rounding_spec.specs.declared.Ties.{Ties}
use Rattle.rounding_spec.specs.Round.{rounded}
use Rattle.rounding_spec.specs.Nearest.{Rep}
use Rattle.rounding_spec.proofs.Multiple.{split-unit}
use Rattle.rounding_spec.proofs.Representable.{rep-lower}
use Rattle.rounding_spec.proofs.Rounded.{rounded-near}

pub rep-up : {p l n : ℕ} (s : ℕ) → Rep p l n → Rep p (l + s) (n * 2 ^ s)
rep-up {n = n} s r =
    let b = r.low in
    record {
      e = r.e + s;
      m = r.m;
      low = omega arith;
      small = r.small;
      is = ap (λ (x : ℕ). x * 2 ^ s) r.is ∙ mul_assoc r.m (2 ^ r.e) (2 ^ s)
          ∙ ap (λ (x : ℕ). r.m * x) (sym (pow-add 2 r.e s));
    }

pub rep_down : {p l : ℕ} (n s : ℕ) → Rep p (l + s) (n * 2 ^ s) → Rep p l n
rep_down {l = l} n s r =
    let b = r.low in
    let h : s ≤ r.e = omega arith in
    record {
      e = r.e - s;
      m = r.m;
      low = omega arith;
      small = r.small;
      is = eq_of_mul-eq-mul_right (2 ^ s) (pow_pos s) n (r.m * 2 ^ (r.e - s)) (r.is ∙ split-unit r.m h);
    }

-- any power of two of them is one
pub rep-shift : {p m : ℕ} (k : ℕ) → Rep p 0 m → Rep p 0 (m * 2 ^ k)
rep-shift k r = rep-lower (let z : 0 ≤ 0 + k = omega arith in z) (rep-up k r)

-- the result is a number of the format, in units of u
pub rounded-rep : (t : Ties) (f L N : ℕ) → Rep (suc f) 0 (rounded t f L N)
rounded-rep t f L N =
    rep_down (rounded t f L N) L (subst (λ (x : ℕ). Rep (suc f) x (rounded t f L N * 2 ^ L)) (sym (zero-add L)) (rounded-near t f L N).rep)
