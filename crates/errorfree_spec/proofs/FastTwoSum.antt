-- Fast2Sum: of a rounded sum a = x + y with |y| at most |x|, v = a - x and b = y - v are exact, and b is what the rounding left over.
use mathlib.Core.Path.{◌≡◌, refl, sym, ◌∙◌}
use mathlib.Core.Logic.{inl, inr}
use mathlib.Core.Bool.{Bool, true, false, not}
use Prim.Native.Nat.{ℕ, suc, ◌+◌, ◌-◌, ◌*◌, ◌^◌, ◌≤◌, ◌<◌}
use native.Mathlib.Nat.{lt_of_le_of_lt}
use native.Mathlib.Decide.{dec_le}
use native.Mathlib.Omega.{arith}
use Rattle.rounding_spec.specs.declared.Ties.TheVariants.{ToEven}
use Rattle.rounding_spec.specs.Format.{Format, low, limit}
use Rattle.rounding_spec.specs.Nearest.{dist, Rep, Near}
use Rattle.rounding_spec.specs.Value.{Value, finite, round_finite, round}
use Rattle.rounding_spec.proofs.NearLaws.{near-exact}
use Rattle.rounding_spec.proofs.Representable.{rep_zero}
use Rattle.rounding_spec.proofs.SumError.{sum-error, difference-error}
use Rattle.rounding_spec.proofs.Sterbenz.{dist-ge, add-ge, add-v, sub-le, sub-v}
use Rattle.rounding_spec.proofs.TieDown.{error-le}
use Rattle.pattern_spec.specs.Exact.{plus, finer}
use Rattle.binary32_spec.specs.Steps.{add_value, sub_value}
use Rattle.pattern_spec.proofs.Sums.{like?, like-eq, unlike-eq, sum_same, sum_left, sum-none}
use Rattle.errorfree_spec.proofs.Signed.{Is, rel-own, is-shift, dist-shift, rel-other}
use Rattle.errorfree_spec.proofs.Steps.{to_even, even-at, is-sub}
use Rattle.errorfree_spec.proofs.Split.{Split}

-- a finite exact sum, rounded
pub add-finite : (F : Format) (x y : Value) (r : Bool) (n : ℕ) → plus x y ≡ finite r n → add_value F x y ≡ round_finite ToEven F r (n * 2 ^ low F)
unfolding add_value finer round
add-finite F x y r n e = rw e refl

dist-comm : (a b : ℕ) → dist a b ≡ dist b a
dist-comm a b = omega arith

-- x and y as differences, seen from the sign of their sum n: v = A - x is exact, and b = y - v is what is left over
pub record Fast (F : Format) (s : Bool) (n A : ℕ) (x y : Value) : Type 0 where
  pub xp : ℕ
  pub xn : ℕ
  pub yp : ℕ
  pub yn : ℕ
  pub x-is : Is s x xp xn
  pub y-is : Is s y yp yn
  pub sum_is : n + (xn + yn) ≡ xp + yp
  pub v-is : Is s (sub_value F (finite s A) x) (A + xn) (0 + xp)
  pub split : Split F s n A (sub_value F y (sub_value F (finite s A) x))

-- ---- it is so where v is a number of the format
module _ (F : Format) (s : Bool) (n A : ℕ) (h : Near (suc F.fraction) 0 n A) (fine : A < limit F) (error : Rep (suc F.fraction) 0 (dist n A)) where
  fast-by : (x y : Value) (xp xn yp yn : ℕ) → Is s x xp xn → Is s y yp yn → n + (xn + yn) ≡ xp + yp → Rep (suc F.fraction) 0 (dist (A + xn) xp) → dist (A + xn) xp < limit F
      → Fast F s n A x y
  fast-by x y xp xn yp yn xi yi e vr vb =
      let v = sub_value F (finite s A) x in
      let d = dist-shift (A + xn) (0 + xp) (A + xn) xp (omega arith) in
      let vi : Is s v (A + xn) (0 + xp) = is-sub F s (finite s A) x A 0 xp xn (rel-own s A) xi (rw d vr) (rw d vb) in
      let c = dist-shift (yp + (0 + xp)) (yn + (A + xn)) n A (omega arith) in
      let bound : dist n A < limit F = omega (arith, error-le h) in
      let bi = is-sub F s y v yp yn (A + xn) (0 + xp) yi vi (rw c error) (rw c bound) in
      record {
        xp = xp;
        xn = xn;
        yp = yp;
        yn = yn;
        x-is = xi;
        y-is = yi;
        sum_is = e;
        v-is = vi;
        split = record { near = h; fine = fine; error = error; rest = is-shift s (sub_value F y v) (yp + (0 + xp)) (yn + (A + xn)) n A bi (omega arith) };
      }

module _ (F : Format) (X Y : ℕ) (xr : Rep (suc F.fraction) 0 X) (yr : Rep (suc F.fraction) 0 Y) (xb : X < limit F) (le : Y ≤ X) where
  -- like signs
  pub fast-same : (s : Bool) → to_even F ((X + Y) * 2 ^ low F) < limit F → Fast F s (X + Y) (to_even F ((X + Y) * 2 ^ low F)) (finite s X) (finite s Y)
  fast-same s fine =
      let A = to_even F ((X + Y) * 2 ^ low F) in
      let h = even-at F (X + Y) in
      let ge = add-ge xr yr le h in
      let d : dist (A + 0) X ≡ A - X = omega arith in
      fast-by F s (X + Y) A h fine (rw (dist-comm (X + Y) A) (sum-error xr yr h)) (finite s X) (finite s Y) X 0 Y 0 (rel-own s X) (rel-own s Y) (omega arith) (rw d (add-v xr yr le h))
      (rw d (omega arith))

  -- unlike signs
  fast-unlike : (s : Bool) → Y < X → Fast F s (X - Y) (to_even F ((X - Y) * 2 ^ low F)) (finite s X) (finite (not s) Y)
  fast-unlike s less =
      let n = X - Y in
      let A = to_even F (n * 2 ^ low F) in
      let h = even-at F n in
      let ge = sub-le xr yr le h in
      let d : dist (A + 0) X ≡ X - A = omega arith in
      let g : dist X Y ≡ n = dist-ge le in
      fast-by F s n A h (lt_of_le_of_lt ge xb) (rw (dist-comm n A, ← g) (difference-error xr yr (rw g h))) (finite s X) (finite (not s) Y) X 0 0 Y (rel-own s X) (rel-other s Y) (omega arith)
      (rw d (sub-v xr yr le h)) (rw d (omega arith))

  -- nothing is left of opposite numbers
  fast-zero : (s t : Bool) (xp xn yp yn : ℕ) → Is false (finite s X) xp xn → Is false (finite t X) yp yn → xn + yn ≡ xp + yp → dist xn xp ≡ X
      → Fast F false 0 (to_even F (0 * 2 ^ low F)) (finite s X) (finite t X)
  fast-zero s t xp xn yp yn xi yi e d =
      let A = to_even F (0 * 2 ^ low F) in
      let h = even-at F 0 in
      let z : A ≡ 0 = near-exact h rep_zero in
      let q : dist 0 A ≡ 0 = omega arith in
      let c : dist (A + xn) xp ≡ X = dist-shift (A + xn) xp xn xp (omega arith) ∙ d in
      fast-by F false 0 A h (omega arith) (rw q rep_zero) (finite s X) (finite t X) xp xn yp yn xi yi (omega arith) (rw c xr) (rw c xb)

  opposite : (s : Bool) → Fast F false 0 (to_even F (0 * 2 ^ low F)) (finite s X) (finite (not s) X)
  opposite false = fast-zero false true X 0 0 X (omega arith) (omega arith) (omega arith) (omega arith)
  opposite true = fast-zero true false 0 X X 0 (omega arith) (omega arith) (omega arith) (omega arith)

  pub fast-two-sum : (s t r : Bool) (n : ℕ) → plus (finite s X) (finite t Y) ≡ finite r n → to_even F (n * 2 ^ low F) < limit F
      → Fast F r n (to_even F (n * 2 ^ low F)) (finite s X) (finite t Y)
  unfolding plus
  fast-two-sum s t r n e fine =
      elim (like? s t) [
        | inl q ↦ let i = sym (sum_same s X t Y q) ∙ e in rw (← like-eq s t q, ← sign i, ← size i) (fast-same s (rw (size i) fine))
        | inr q ↦ elim (dec_le X Y) [
          | yes g ↦
              let w : Y ≡ X = omega arith in
              let i = sym (sum-none s X t Y q (sym w)) ∙ e in
              rw (unlike-eq s t q, ← sign i, ← size i, w) (opposite s)
          | no g ↦
              let less : Y < X = omega arith in
              let i = sym (sum_left s X t Y q less) ∙ e in
              rw (unlike-eq s t q, ← sign i, ← size i) (fast-unlike s less)
        ]
      ]
    where
      sign : {a b : Bool} {n m : ℕ} → finite a n ≡ finite b m → a ≡ b
      sign e = cc

      size : {a b : Bool} {n m : ℕ} → finite a n ≡ finite b m → n ≡ m
      size e = cc
