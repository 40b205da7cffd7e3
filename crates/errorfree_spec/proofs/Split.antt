-- An exact number and the two values that it is split into: what Fast2Sum leaves of a sum, and a fused step of a product.
use mathlib.Core.Path.{◌≡◌, refl, sym, ap, ap₂, ◌∙◌}
use mathlib.Core.Logic.{◌≢◌}
use mathlib.Core.Bool.{Bool, true, false, cond}
use Prim.Native.Nat.{ℕ, suc, ◌*◌, ◌^◌, ◌≤◌, ◌<◌}
use native.Mathlib.Nat.{mul-le-mul_right, mul-lt-mul_of_pos_right}
use native.Mathlib.Decide.{dec_le}
use native.Mathlib.Omega.{arith}
use borrow.Author.Tests.{lt-ltb, le-ltb, ne_eqb}
use lib.Dec.{ltb, eqb}
use lib.Ieee.{unlike}
use lib.Pow.{pow_pos}
use Rattle.rounding_spec.specs.declared.Ties.TheVariants.{ToZero}
use Rattle.rounding_spec.specs.Format.{Format, low, limit}
use Rattle.rounding_spec.specs.Nearest.{dist, Rep, Near, Near0}
use Rattle.rounding_spec.specs.Value.{Value, nan, infinite, finite, is_zero}
use Rattle.rounding_spec.proofs.NearLaws.{near-exact, near0-one}
use Rattle.rounding_spec.proofs.Rescaled.{dist-mul, whole-near}
use Rattle.binary32_spec.specs.Steps.{mul_value}
use Rattle.augmented_spec.specs.Pairs.{pair_of}
use Rattle.augmented_spec.proofs.Second.{head, tail, up, unlike-true, unlike-false, first-finite, pair-second}
use Rattle.errorfree_spec.proofs.Factors.{zero}
use Rattle.errorfree_spec.proofs.Signed.{Rel, Is, rel-dist, other-side}
use Rattle.errorfree_spec.proofs.Steps.{to_zero, zero-at, zero-times}

-- n units of u with the sign s: A is nearest to n, and b is all of what is left
pub record Split (F : Format) (s : Bool) (n A : ℕ) (b : Value) : Type 0 where
  pub near : Near (suc F.fraction) 0 n A
  pub fine : A < limit F
  pub error : Rep (suc F.fraction) 0 (dist n A)
  pub rest : Is s b n A

-- the same with ties to zero
pub record Split0 (F : Format) (s : Bool) (n f : ℕ) (first second : Value) : Type 0 where
  pub is : first ≡ finite s f
  pub near : Near0 (suc F.fraction) 0 n f
  pub fine : f < limit F
  pub error : Rep (suc F.fraction) 0 (dist n f)
  pub rest : Is s second n f

-- ---- zero finish: a second that has the magnitude of the pair's, and its sign where it is not zero, becomes the pair's
pub zero-finish : (F : Format) (s : Bool) (N : ℕ) → head F s N < limit F → (t : Bool) (m : ℕ) → m ≡ tail F s N → (m ≢ 0 → t ≡ unlike s (up F s N))
    → cond (eqb m 0) (mul_value F zero (finite s (head F s N))) (finite t m) ≡ (pair_of F (finite s N)).second
zero-finish F s N h t m e sign =
    elim (dec_le m 0) [
      | yes z ↦
          let q : m ≡ 0 = omega arith in
          rw q (zero-times F s (head F s N)) ∙ sym (pair-second F s N h ∙ ap₂ (λ (c : Bool) (k : ℕ). finite c k) (ap (λ (k : ℕ). cond (eqb k 0) s (unlike s (up F s N))) (sym e ∙ q)) (sym e ∙ q))
      | no z ↦
          let q : m ≢ 0 = λ (k : m ≡ 0). omega arith in
          rw (ne_eqb m 0 q) (ap₂ (λ (c : Bool) (k : ℕ). finite c k) (sign q ∙ sym (ap (λ (b : Bool). cond b s (unlike s (up F s N))) (ap (λ (k : ℕ). eqb k 0) (sym e) ∙ ne_eqb m 0 q))) e
          ∙ sym (pair-second F s N h))
    ]

-- ---- the side on which the rest lies
pub side-of : (s t : Bool) (m n f : ℕ) → Rel s t m n f → m ≢ 0 → t ≡ unlike s (ltb n f)
side-of s t m n f h z =
    elim (dec_le f n) [
      | yes g ↦ same s t h g ∙ sym (unlike-false s) ∙ sym (ap (unlike s) (le-ltb n f g))
      | no g ↦ let k : n < f = omega arith in other-side s t m n f h k ∙ sym (unlike-true s) ∙ sym (ap (unlike s) (lt-ltb n f k))
    ]
  where
    same : (s t : Bool) → Rel s t m n f → f ≤ n → t ≡ s
    same false false h k = refl
    same true true h k = refl
    same false true h k = absurd (z (omega arith))
    same true false h k = absurd (z (omega arith))

pub ltb-scale : (n f U : ℕ) → 0 < U → ltb (n * U) (f * U) ≡ ltb n f
ltb-scale n f U pos =
    elim (dec_le f n) [
      | yes g ↦ le-ltb (n * U) (f * U) (mul-le-mul_right U g) ∙ sym (le-ltb n f g)
      | no g ↦ let k : n < f = omega arith in lt-ltb (n * U) (f * U) (mul-lt-mul_of_pos_right k pos) ∙ sym (lt-ltb n f k)
    ]

-- ---- what is split with ties to zero and finished is the pair
module _ (F : Format) (s : Bool) (n f : ℕ) (first second : Value) (h : Split0 F s n f first second) where
  head-is : head F s (n * 2 ^ low F) ≡ f
  head-is = near0-one (zero-at F n) h.near

  head-fine : head F s (n * 2 ^ low F) < limit F
  head-fine = rw head-is h.fine

  tail-is : tail F s (n * 2 ^ low F) ≡ dist n f
  tail-is =
      ap (λ (a : ℕ). to_zero F (dist (a * 2 ^ low F) (n * 2 ^ low F))) head-is
      ∙ ap (to_zero F) (dist-mul f n (2 ^ low F) ∙ ap (λ (a : ℕ). a * 2 ^ low F) (let z : dist f n ≡ dist n f = omega arith in z))
      ∙ near-exact (whole-near ToZero F.fraction (low F) (dist n f)) h.error

  up_is : up F s (n * 2 ^ low F) ≡ ltb n f
  up_is = ap (λ (a : ℕ). ltb (n * 2 ^ low F) (a * 2 ^ low F)) head-is ∙ ltb-scale n f (2 ^ low F) (pow_pos (low F))

  pub finished-first : first ≡ (pair_of F (finite s (n * 2 ^ low F))).first
  finished-first = h.is ∙ ap (finite s) (sym head-is) ∙ sym (first-finite F s (n * 2 ^ low F) head-fine)

  pub finished-second : cond (is_zero second) (mul_value F zero first) second ≡ (pair_of F (finite s (n * 2 ^ low F))).second
  finished-second = rw (h.is, ← head-is) (go second h.rest)
    where
      go : (v : Value) → Is s v n f → cond (is_zero v) (mul_value F zero (finite s (head F s (n * 2 ^ low F)))) v ≡ (pair_of F (finite s (n * 2 ^ low F))).second
      go nan i = absurd i
      go (infinite t) i = absurd i
      go (finite t m) i =
          zero-finish F s (n * 2 ^ low F) head-fine t m (rel-dist s t m n f i ∙ sym tail-is) (λ z. side-of s t m n f i z ∙ ap (unlike s) (sym up_is))
