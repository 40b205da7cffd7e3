-- A number in two parts, l below b and q times b, against p times b: the upper part tells, but where q is p.
use mathlib.Core.Path.{◌≡◌, sym, ◌∙◌}
use mathlib.Core.Bool.{true, false}
use Prim.Native.Nat.{ℕ, zero, suc, ◌+◌, ◌*◌, ◌≤◌, ◌<◌}
use native.Mathlib.Nat.{mul-le-mul_left, mul-suc, mul_comm}
use native.Mathlib.Omega.{arith}
use borrow.Author.Tests.{le-leb, lt-leb, ne_eqb}
use lib.Dec.{leb, eqb}

module _ (l b q p : ℕ) (small : l < b) where
  -- and one more, for the magnitude of a complement
  pub strictly-under : q < p → leb (suc (l + b * q)) (p * b) ≡ true
  strictly-under h =
      let m : b * suc q ≤ b * p = mul-le-mul_left b h in
      let e = mul-suc b q in
      let f = mul_comm p b in
      le-leb (suc (l + b * q)) (p * b) (omega arith)

  pub strictly-over : p ≤ q → leb (suc (l + b * q)) (p * b) ≡ false
  strictly-over h =
      let m : b * p ≤ b * q = mul-le-mul_left b h in
      let f = mul_comm p b in
      lt-leb (suc (l + b * q)) (p * b) (omega arith)

  pub under : q < p → leb (l + b * q) (p * b) ≡ true
  under h =
      let m : b * suc q ≤ b * p = mul-le-mul_left b h in
      let e = mul-suc b q in
      let f = mul_comm p b in
      le-leb (l + b * q) (p * b) (omega arith)

  pub over : p < q → leb (l + b * q) (p * b) ≡ false
  over h =
      let m : b * suc p ≤ b * q = mul-le-mul_left b h in
      let e = mul-suc b p in
      let f = mul_comm p b in
      lt-leb (l + b * q) (p * b) (omega arith)

pub level : (l b p : ℕ) → leb (l + b * p) (p * b) ≡ eqb l 0
level zero b p = let f = mul_comm p b in le-leb (0 + b * p) (p * b) (omega arith)
level (suc l) b p = let f = mul_comm p b in lt-leb (suc l + b * p) (p * b) (omega arith) ∙ sym (ne_eqb (suc l) 0 (λ z. omega arith))
