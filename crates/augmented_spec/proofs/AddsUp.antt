-- What a finite pair adds up to: the exact number, where nothing is left over of the left-over. Of a sum nothing ever is.
use mathlib.Core.Path.{◌≡◌, refl, sym, ap, ◌∙◌}
use mathlib.Core.Logic.{◌⊎◌, ◌≢◌, inl, inr}
use mathlib.Core.Bool.{Bool, not}
use Prim.Native.Nat.{ℕ, suc, ◌+◌, ◌*◌, ◌^◌}
use native.Mathlib.Nat.{add-mul}
use native.Mathlib.Omega.{arith}
use lib.Dec.{eqb}
use lib.IntN.{ℤ, pos, nat_abs, ◌+ℤ◌, ◌-ℤ◌, ◌*ℤ◌, +ℤ_comm, +ℤ-neg_ℤ_cancel, -ℤ-+ℤ_cancel}
use Rattle.rounding_spec.specs.declared.Ties.TheVariants.{ToZero}
use Rattle.rounding_spec.specs.Format.{Format, low}
use Rattle.rounding_spec.specs.Round.{left_over}
use Rattle.rounding_spec.specs.Nearest.{dist, Rep}
use Rattle.rounding_spec.specs.Value.{Value, finite}
use Rattle.rounding_spec.proofs.Codec.{pattern-rep}
use Rattle.rounding_spec.proofs.LeftOver.{dist-scale}
use Rattle.rounding_spec.proofs.Rounded.{rounded-near, rounded-exact}
use Rattle.rounding_spec.proofs.SumError.{sum-error, difference-error}
use Rattle.pattern_spec.specs.Exact.{int}
use Rattle.pattern_spec.proofs.Integers.{int-scale}
use Rattle.augmented_spec.specs.declared.Pair.{Pair}
use Rattle.augmented_spec.specs.Pairs.{pair_of, overflowed, underflowed, answer, exact_product, product_pair}
use Rattle.augmented_spec.specs.declared.Operation.{Operation}
use Rattle.augmented_spec.specs.declared.Operation.TheVariants.{Sum as sum, Difference as difference, Product as product}
use Rattle.augmented_spec.specs.Direct.{direct_pair, exact_result}
use Rattle.augmented_spec.specs.Theorems.{finer_int, FiniteOperands}
use Rattle.augmented_spec.proofs.Second.{head, first-finite, underflowed-is}
use Rattle.augmented_spec.proofs.Distance.{int-one, int-zero, scaled-size, sum-size, difference-size, left_is}
use Rattle.augmented_spec.proofs.FiniteOperands.{number, rest, side, second_size, second_sign, lost, Halved}

-- ---- the rest, and the sum of the halves, as whole numbers
module _ {F : Format} {E : ℤ} {p : Pair} {q : Bool} {c : ℕ} (h : Halved F E p q c) where
  abbrev first : ℤ
  first = finer_int F q c

  abbrev second : ℤ
  second = finer_int F (second_sign F E q) (second_size F E q)

  pub rest-exact : int (side F E q) (rest F E q) ≡ E -ℤ first
  rest-exact =
      let A = head F q (nat_abs E) * 2 ^ low F in
      let f : int q A ≡ first = int-scale q (head F q (nat_abs E)) (2 ^ low F) ∙ ap (finer_int F q) (sym h.first) in
      left_is q (nat_abs E) A ∙ ap (λ (k : ℤ). k -ℤ int q A) h.exact ∙ ap (λ (k : ℤ). E -ℤ k) f

  second-exact : second ≡ int (side F E q) (second_size F E q * 2 ^ low F)
  second-exact = ap (λ (k : ℤ). k *ℤ pos (2 ^ low F)) (int-zero q (side F E q) (second_size F E q)) ∙ sym (int-scale (side F E q) (second_size F E q) (2 ^ low F))

  pub adds-up : lost F E q ≡ 0 → first +ℤ second ≡ E
  adds-up z =
      let e : second ≡ E -ℤ first = second-exact ∙ ap (int (side F E q)) (omega arith) ∙ rest-exact in
      +ℤ_comm first second ∙ ap (λ (k : ℤ). k +ℤ first) e ∙ -ℤ-+ℤ_cancel E first

  pub added-up : first +ℤ second ≡ E → lost F E q ≡ 0
  added-up e =
      let s : second ≡ E -ℤ first = sym (+ℤ-neg_ℤ_cancel second first) ∙ ap (λ (k : ℤ). k -ℤ first) (+ℤ_comm second first ∙ e) in
      let n : second_size F E q * 2 ^ low F ≡ rest F E q = int-one (side F E q) _ _ (sym second-exact ∙ s ∙ sym rest-exact) in
      omega arith

-- ---- what the first of a sum leaves over is a number of the format
finer-size : (k : ℤ) (a b G : ℕ) → (nat_abs k ≡ a + b) ⊎ (nat_abs k ≡ dist a b) → (nat_abs (k *ℤ pos G) ≡ a * G + b * G) ⊎ (nat_abs (k *ℤ pos G) ≡ dist (a * G) (b * G))
finer-size k a b G (inl e) = inl (scaled-size k G ∙ ap (λ (x : ℕ). x * G) e ∙ add-mul a b G)
finer-size k a b G (inr e) = inr (scaled-size k G ∙ ap (λ (x : ℕ). x * G) e ∙ sym (dist-scale a b G))

exact-size : (o : Operation) → o ≢ product → (F : Format) (s : Bool) (a : ℕ) (t : Bool) (b : ℕ)
    → (nat_abs (exact_result o F (int s a) (int t b)) ≡ a * 2 ^ low F + b * 2 ^ low F) ⊎ (nat_abs (exact_result o F (int s a) (int t b)) ≡ dist (a * 2 ^ low F) (b * 2 ^ low F))
exact-size sum n F s a t b = finer-size (int s a +ℤ int t b) a b (2 ^ low F) (sum-size s a t b)
exact-size difference n F s a t b = finer-size (int s a -ℤ int t b) a b (2 ^ low F) (difference-size s a t b)
exact-size product n F s a t b = absurd (n refl)

left-rep : {o : Operation} {F : Format} {E : ℤ} {z : Bool} {p : Pair} → o ≢ product → FiniteOperands o F E z p
    → Rep (suc F.fraction) (low F) (left_over ToZero F.fraction (low F) (nat_abs E))
left-rep {o} {F} n h =
    let x = pattern-rep F h.proper.0 h.x h.s h.a h.left in
    let y = pattern-rep F h.proper.0 h.y h.t h.b h.right in
    rw h.exact (elim (exact-size o n F h.s h.a h.t h.b) [
      | inl e ↦ rw e (sum-error x y (rounded-near ToZero F.fraction (low F) (h.a * 2 ^ low F + h.b * 2 ^ low F)))
      | inr e ↦ rw e (difference-error x y (rounded-near ToZero F.fraction (low F) (dist (h.a * 2 ^ low F) (h.b * 2 ^ low F))))
    ])

-- so second is the whole of it
pub sum-lost : {o : Operation} {F : Format} {E : ℤ} {z : Bool} {p : Pair} → o ≢ product → FiniteOperands o F E z p → (q : Bool) → lost F E q ≡ 0
sum-lost {F = F} {E = E} n h q = let e = rounded-exact ToZero F.fraction (low F) (rest F E q) (left-rep n h) in omega arith

-- ---- U and X of a finite product pair: something is left over
module _ {F : Format} {E : ℤ} {z : Bool} {p : Pair} {q : Bool} {c : ℕ} (h : FiniteOperands product F E z p) (k : Halved F E p q c) where
  pub product-underflow : p.flags.underflow ≡ not (eqb (lost F E q) 0)
  unfolding direct_pair product_pair answer
  product-underflow =
      ap (λ (r : Pair). r.flags.underflow) h.pair ∙ ap (λ (v : Value). underflowed F v (pair_of F v)) (number h).value
      ∙ underflowed-is F (number h).sign (nat_abs E) k.below

  pub product-inexact : p.flags.underflow ≡ p.flags.inexact
  unfolding direct_pair product_pair answer overflowed
  product-inexact =
      let f : (pair_of F (exact_product F h.x h.y)).first ≡ finite (number h).sign (head F q (nat_abs E)) =
      ap (λ (v : Value). (pair_of F v).first) (number h).value ∙ first-finite F (number h).sign (nat_abs E) k.below in
      rw (h.pair, f)
