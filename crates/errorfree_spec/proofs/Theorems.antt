-- The theorems of `specs/Theorems.antt`.
use mathlib.Core.Path.{◌≡◌, refl, sym, ap, ap₂, ◌∙◌, subst}
use mathlib.Core.Logic.{inr}
use mathlib.Core.Bool.{Bool, true, false, cond, ◌&&◌}
use Prim.Native.Nat.{ℕ, suc, ◌+◌, ◌-◌, ◌*◌, ◌^◌, ◌≤◌, ◌<◌}
use native.Mathlib.Nat.{zero-add}
use native.Mathlib.Omega.{arith}
use borrow.Author.Tests.{ltb-false}
use lib.Ieee.{unlike}
use lib.Pow.{pow_pos}
use Rattle.rounding_spec.specs.declared.Ties.TheVariants.{ToEven, ToZero}
use Rattle.rounding_spec.specs.Format.{Format, low}
use Rattle.rounding_spec.specs.Round.{rounded}
use Rattle.rounding_spec.specs.Nearest.{dist, Rep, Near}
use Rattle.rounding_spec.specs.Value.{Value, finite, Fits, is_finite, round}
use Rattle.rounding_spec.proofs.Rounded.{rounded-near}
use Rattle.rounding_spec.proofs.RoundValue.{round-below}
use Rattle.rounding_spec.proofs.Scaled.{rep-up}
use Rattle.rounding_spec.proofs.Rescaled.{dist-mul, whole-near}
use Rattle.rounding_spec.proofs.SumError as error
use Rattle.rounding_spec.proofs.Predecessor.{upper, below-add, below-rep, below-best}
use Rattle.rounding_spec.proofs.Predecessor as predecessor
use Rattle.pattern_spec.specs.Exact.{negate, plus, times, finer}
use Rattle.binary32_spec.specs.Steps.{add_value, sub_value, mul_value, fma_value}
use Rattle.pattern_spec.proofs.Integers.{plus-exact}
use Rattle.augmented_spec.specs.Pairs.{rest, adds_up}
use Rattle.pattern_spec.specs.Comparisons.{same, less_magnitude}
use Rattle.errorfree_spec.specs.Constants.{psi_value}
use Rattle.errorfree_spec.specs.Theorems.{SumError, ProductError, Fast2Sum, FusedRest, PsiPredecessor, Recomposition, Binary32Roomy, All}
use Rattle.errorfree_spec.proofs.NoNumber.{not-both, none-zero, number-of, some-false, both_of, sum-none, finer-none, negate-none, add_none}
use Rattle.errorfree_spec.proofs.Signed.{Is, rel-dist}
use Rattle.errorfree_spec.proofs.Steps.{to_even, to_zero, even-at, fine_of, mul-finite, mul-positive}
use Rattle.errorfree_spec.proofs.ProductSplit.{whole, whole-error, product-split}
use Rattle.errorfree_spec.proofs.FastTwoSum.{add-finite, fast-two-sum}
use Rattle.errorfree_spec.proofs.AddsUp.{adds-up, up-adds}
use Rattle.errorfree_spec.proofs.Recomposed as split

-- ---- errors
pub sum-error : SumError
sum-error t f L x y xr yr = (error.sum-error xr yr (rounded-near t f L (x + y)), error.difference-error xr yr (rounded-near t f L (dist x y)))

pub product-error : ProductError
product-error t F a b ar br big =
    let n = whole F a b ar br big in
    let U = 2 ^ low F in
    let A = rounded t F.fraction (low F) (a * b) in
    let near : Near (suc F.fraction) 0 n.0 A = subst (λ (z : ℕ). Near (suc F.fraction) 0 n.0 (rounded t F.fraction (low F) z)) (sym n.1)
    (whole-near t F.fraction (low F) n.0) in
    let e : dist n.0 A * U ≡ dist (A * U) (a * b) = ap (λ (z : ℕ). z * U) (let z : dist n.0 A ≡ dist A n.0 = omega arith in z) ∙ sym (dist-mul A n.0 U) ∙ ap (dist (A * U)) (sym n.1) in
    rw (← e) (rw zero-add at (rep-up (low F) (whole-error F a b ar br big A near)))

-- ---- Fast2Sum and the fused step
fast-finite : (F : Format) (s : Bool) (X : ℕ) (t : Bool) (Y : ℕ) → Fits F (finite s X) → Fits F (finite t Y) → Y ≤ X → is_finite (add_value F (finite s X) (finite t Y)) ≡ true
    → let a = add_value F (finite s X) (finite t Y) in adds_up F (finer F (plus (finite s X) (finite t Y))) (record { first = a; second = sub_value F (finite t Y) (sub_value F a (finite s X)) })
    ≡ true
unfolding Fits plus finer
fast-finite F s X t Y xf yf le f =
    let e = plus-exact s X t Y in
    let r = e.0 in
    let n = e.1 in
    let ai = add-finite F (finite s X) (finite t Y) r n e.2 in
    let fine = fine_of F r (n * 2 ^ low F) (sym (ap is_finite ai) ∙ f) in
    let a-is : add_value F (finite s X) (finite t Y) ≡ finite r (to_even F (n * 2 ^ low F)) = ai ∙ round-below ToEven F r (n * 2 ^ low F) fine in
    let split = (fast-two-sum F X Y xf.0 yf.0 xf.1 le s t r n e.2 fine).split in
    rw (a-is, e.2) (adds-up F r n (to_even F (n * 2 ^ low F)) (sub_value F (finite t Y) (sub_value F (finite r (to_even F (n * 2 ^ low F))) (finite s X))) split.rest)

pub fast2sum : Fast2Sum
unfolding less_magnitude
fast2sum F x y a v b xf yf l ai vi bi f = by (is_finite x && is_finite y) refl
  where
    by : (c : Bool) → is_finite x && is_finite y ≡ c → adds_up F (finer F (plus x y)) (record { first = a; second = b }) ≡ true
    by false n = not-both (sym f ∙ ap is_finite ai ∙ add_none F x y n)
    by true n =
        let h = both_of (is_finite x) (is_finite y) n in
        let p = number-of x h.0 in
        let q = number-of y h.1 in
        let le = ltb-false p.1 q.1 (sym (ap₂ less_magnitude p.2 q.2) ∙ l) in
        let k = fast-finite F p.0 p.1 q.0 q.1 (subst (Fits F) p.2 xf) (subst (Fits F) q.2 yf) le
        (sym (ap₂ (λ (u w : Value). is_finite (add_value F u w)) p.2 q.2) ∙ sym (ap is_finite ai) ∙ f) in
        rw (bi, vi, ai) (subst (λ (w : Value). adds_up F (finer F (plus x w)) (record { first = add_value F x w; second = sub_value F w (sub_value F (add_value F x w) x) }) ≡ true) (sym q.2)
        (subst (λ (u : Value). adds_up F (finer F (plus u (finite q.0 q.1)))
        (record { first = add_value F u (finite q.0 q.1); second = sub_value F (finite q.0 q.1) (sub_value F (add_value F u (finite q.0 q.1)) u) }) ≡ true) (sym p.2) k))

pub fused-rest : FusedRest
unfolding Fits times
fused-rest F s c t d a b xf yf big ai bi f =
    let r = unlike s t in
    let n = whole F c d xf.0 yf.0 big in
    let step = ai ∙ mul-finite F s c t d in
    let fine = fine_of F r (c * d) (sym (ap is_finite step) ∙ f) in
    let a-is : a ≡ finite r (to_even F (c * d)) = step ∙ round-below ToEven F r (c * d) fine in
    let b-is : b ≡ fma_value F (finite s c) (finite t d) (negate (finite r (to_even F (c * d)))) = bi ∙ ap (λ (v : Value). fma_value F (finite s c) (finite t d) (negate v)) a-is in
    let split = product-split F c d xf.0 yf.0 big s t fine in
    rw (a-is, b-is) (subst (λ (N : ℕ). adds_up F (finite r N) (record {
      first = finite r (to_even F (c * d));
      second = fma_value F (finite s c) (finite t d) (negate (finite r (to_even F (c * d))));
    }) ≡ true) (sym n.1)
    (adds-up F r n.0 (to_even F (c * d)) (fma_value F (finite s c) (finite t d) (negate (finite r (to_even F (c * d))))) split.rest))

-- ---- the predecessor
pub psi-predecessor : PsiPredecessor
unfolding Fits
psi-predecessor F room s a f over =
    let u = upper F.fraction 0 a f.0 (omega arith) in
    let c = (2 ^ suc F.fraction - 1) * 2 ^ (low F - suc F.fraction) in
    let Z = to_even F (c * a) in
    let e : Z ≡ a - 2 ^ u.f = predecessor.psi u (omega arith) Z (rw zero-add (split.psi-near F room a)) in
    let b = below-add u in
    let less : Z < a = omega (arith, pow_pos u.f) in
    (Z, mul-positive F c s a ∙ round-below ToEven F s (c * a) (omega (arith, f.1)), record { rep = rw e (below-rep u); below = less; best = λ m r h. rw e (below-best u m r h) })

-- ---- recomposition
-- what adds up to a number is finite
addend-finite : (F : Format) (v w b : Value) → adds_up F v (record { first = w; second = b }) ≡ true → is_finite b ≡ true
unfolding adds_up rest
addend-finite F v w b e = by (is_finite b) refl
  where
    by : (c : Bool) → is_finite b ≡ c → is_finite b ≡ true
    by true f = f
    by false f =
        let u = plus v (negate (finer F w)) in
        let n = negate (finer F b) in
        let z = none-zero (plus u n) (sum-none u n (some-false (is_finite u) (is_finite n) (inr (negate-none (finer F b) (finer-none F b f))))) in
        not-both (sym e ∙ z)

pub recomposition : Recomposition
unfolding Fits round
recomposition F room s n a b z d e ai f bf add zi di ei =
    let N = n * 2 ^ low F in
    let A = to_even F N in
    let fine = fine_of F s N (sym (ap is_finite ai) ∙ f) in
    let a-is : a ≡ finite s A = ai ∙ round-below ToEven F s N fine in
    let q = number-of b (addend-finite F (finite s N) a b add) in
    let left : Is s b n A = up-adds F s n A b (addend-finite F (finite s N) a b add) (subst (λ (v : Value). adds_up F (finite s N) (record { first = v; second = b }) ≡ true) a-is add) in
    let size : q.1 ≡ dist n A = rel-dist s q.0 q.1 n A (subst (λ (v : Value). Is s v n A) q.2 left) in
    let error : Rep (suc F.fraction) 0 (dist n A) = rw (← size) (subst (Fits F) q.2 bf).0 in
    let h = split.recomposed F room s n A b (record { near = even-at F n; fine = fine; error = error; rest = left }) z d e (zi ∙ ap (mul_value F (psi_value F)) a-is) (di ∙ ap (sub_value F z) a-is)
    ei in
    rw a-is (h.is ∙ sym (round-below ToZero F s N h.fine), rw h.is (adds-up F s n (to_zero F N) (cond (same e d) (negate b) b) h.rest))

pub binary32-roomy : Binary32Roomy
binary32-roomy = omega arith

pub all : All
all = (sum-error, product-error, fast2sum, fused-rest, psi-predecessor, recomposition, binary32-roomy)
