-- Which mark a step has, by what is known of its operands and its result: values as differences of whole numbers, seen from one sign.
use mathlib.Core.Path.{◌≡◌, refl, sym, ap, ap₂, ◌∙◌, subst}
use mathlib.Core.Logic.{◌⊎◌, inl, inr}
use mathlib.Core.Bool.{Bool, true, false, not, cond, ◌&&◌}
use Prim.Native.Nat.{ℕ, ◌+◌, ◌*◌, ◌^◌}
use native.Mathlib.Nat.{add-zero, add-mul, zero-mul, eq_of_mul-eq-mul_right}
use native.Mathlib.Omega.{arith}
use lib.Dec.{T}
use lib.Ieee.{unlike}
use lib.Pow.{pow_pos}
use Rattle.rounding_spec.specs.Format.{binary32}
use Rattle.rounding_spec.specs.Value.{Value, nan, infinite, finite, is_finite, is_infinite, is_zero}
use Rattle.pattern_spec.specs.Comparisons.{same}
use Rattle.pattern_spec.specs.Exact.{negate, plus, times, finer}
use Rattle.binary32_spec.specs.Steps.{add_step, sub_step, mul_step, fma_step}
use Rattle.binary32_spec.specs.Marks.{mark_by, all_finite, add_mark, sub_mark, mul_mark, fma_mark}
use Rattle.pattern_spec.specs.Classes.{both_finite}
use Rattle.pattern_spec.proofs.Truth.{alike}
use Rattle.binary32_spec.specs.MarkTheorems.{Special}
use Rattle.binary32_spec.proofs.Theorems.{add-mark-means, sub-mark-means, mul-mark-means, fma-mark-means, zero-and-overflow}
use Rattle.errorfree_spec.proofs.AddsUp.{is-finer, is-zero, zero_is}
use Rattle.errorfree_spec.proofs.NoNumber.{not-both, one_of, both_of}
use Rattle.errorfree_spec.proofs.Signed.{Is, rel-own, rel-other, is-negate, is-plus, is-shift, same-eq, eq-same}
use Rattle.worksheet_spec.specs.Lines.{value}

-- ---- tests
pub told : (b : Bool) → T b → b ≡ true
told true h = refl
told false h = absurd h

-- ---- values as differences
pub is_number : (r : Bool) (v : Value) (p n : ℕ) → Is r v p n → is_finite v ≡ true
is_number r nan p n h = absurd h
is_number r (infinite s) p n h = absurd h
is_number r (finite s m) p n h = refl

pub is-of : (r : Bool) (v w : Value) (p n : ℕ) → v ≡ w → Is r w p n → Is r v p n
is-of r v w p n e h = subst (λ (u : Value). Is r u p n) (sym e) h

pub is-own : (r : Bool) (v : Value) (m : ℕ) → v ≡ finite r m → Is r v m 0
is-own r v m e = is-of r v (finite r m) m 0 e (rel-own r m)

-- ---- the definitions of marks
add_is : (x y : ℕ) → add_mark x y ≡ mark_by (both_finite x y) (finer binary32 (plus (value x) (value y))) (add_step x y)
unfolding add_mark
add_is x y = refl

sub_is : (x y : ℕ) → sub_mark x y ≡ mark_by (both_finite x y) (finer binary32 (plus (value x) (negate (value y)))) (sub_step x y)
unfolding sub_mark
sub_is x y = refl

mul_is : (x y : ℕ) → mul_mark x y ≡ mark_by (both_finite x y) (times (value x) (value y)) (mul_step x y)
unfolding mul_mark
mul_is x y = refl

fma-is : (x y z : ℕ) → fma_mark x y z ≡ mark_by (all_finite x y z) (plus (times (value x) (value y)) (finer binary32 (value z))) (fma_step x y z)
unfolding fma_mark
fma-is x y z = refl

by-test : (f : Bool) (w : Value) (p : ℕ) (c : Bool) → f ≡ true → same (finer binary32 (value p)) w ≡ c → mark_by f w p ≡ cond c 0 1
unfolding mark_by
by-test f w p c h k = ap₂ (λ (i j : Bool). cond i (cond j 0 1) 2) h k

-- ---- 2: an operand is infinite or NaN
pub add-special : (x y : ℕ) → both_finite x y ≡ false → add_mark x y ≡ 2
add-special x y h = (add-mark-means x y).two.1 (one_of (is_finite (value x)) (is_finite (value y)) h)

pub sub-special : (x y : ℕ) → both_finite x y ≡ false → sub_mark x y ≡ 2
sub-special x y h = (sub-mark-means x y).two.1 (one_of (is_finite (value x)) (is_finite (value y)) h)

pub mul-special : (x y : ℕ) → both_finite x y ≡ false → mul_mark x y ≡ 2
mul-special x y h = (mul-mark-means x y).two.1 (one_of (is_finite (value x)) (is_finite (value y)) h)

pub fma-special : (x y z : ℕ) → all_finite x y z ≡ false → fma_mark x y z ≡ 2
fma-special x y z h =
    (fma-mark-means x y z).two.1
    (elim (one_of (is_finite (value x)) (both_finite y z) h) [ inl k ↦ inl k | inr k ↦ inr (one_of (is_finite (value y)) (is_finite (value z)) k) ])

-- ---- 1: finite operands, and an infinite result
none-special : (x y : ℕ) → both_finite x y ≡ true → ¬ (Special x ⊎ Special y)
none-special x y h n =
    let f = both_of (is_finite (value x)) (is_finite (value y)) h in
    elim n [ inl k ↦ not-both (sym f.0 ∙ k) | inr k ↦ not-both (sym f.1 ∙ k) ]

pub add-overflowed : (x y : ℕ) → both_finite x y ≡ true → is_infinite (value (add_step x y)) ≡ true → add_mark x y ≡ 1
add-overflowed x y h i = (zero-and-overflow.0 x y).2 (none-special x y h) i

pub mul-overflowed : (x y : ℕ) → both_finite x y ≡ true → is_infinite (value (mul_step x y)) ≡ true → mul_mark x y ≡ 1
mul-overflowed x y h i = (zero-and-overflow.2 x y).2 (none-special x y h) i

-- ---- 0 or 1: the exact value, of u * u, and the result, of u, as differences; the test c tells whether they are equal
abbrev U : ℕ
U = 2 ^ 149

tested : (f : Bool) (w : Value) (x : ℕ) → f ≡ true → (r : Bool) (p n P N : ℕ) → Is r w p n → Is r (value x) P N
    → (c : Bool) → (c ≡ true → P * U + n ≡ p + N * U) → (P * U + n ≡ p + N * U → c ≡ true) → mark_by f w x ≡ cond c 0 1
tested f w x h r p n P N wi xi c k l =
    let z = finer binary32 (value x) in
    let zi : Is r z (P * U) (N * U) = is-finer binary32 r (value x) P N xi in
    by-test f w x c h
    (alike (same z w) c (λ t. l (same-eq r z w (P * U) (N * U) p n zi wi (subst T (sym t) tt))) (λ t. told (same z w) (eq-same r z w (P * U) (N * U) p n zi wi (k t))))

-- the exact value is a whole number of u
whole : (f : Bool) (w : Value) (x : ℕ) → f ≡ true → (r : Bool) (p n P N : ℕ) → Is r w (p * U) (n * U) → Is r (value x) P N
    → (c : Bool) → (c ≡ true → P + n ≡ p + N) → (P + n ≡ p + N → c ≡ true) → mark_by f w x ≡ cond c 0 1
whole f w x h r p n P N wi xi c k l =
    tested f w x h r (p * U) (n * U) P N wi xi c (λ t. sym (add-mul P n U) ∙ ap (λ (i : ℕ). i * U) (k t) ∙ add-mul p N U)
    (λ e. l (eq_of_mul-eq-mul_right U (pow_pos 149) (P + n) (p + N) (add-mul P n U ∙ e ∙ sym (add-mul p N U))))

-- it is n units with the sign r, the result is A, and b is what is left
left : (f : Bool) (w : Value) (x : ℕ) → f ≡ true → (r : Bool) (n A : ℕ) → w ≡ finite r (n * U) → value x ≡ finite r A → (b : Value) → Is r b n A → mark_by f w x ≡ cond (is_zero b) 0 1
left f w x h r n A wi xi b i =
    let e : Is r w (n * U) (0 * U) = is-shift r w (n * U) 0 (n * U) (0 * U) (is-own r w (n * U) wi) (ap (λ (k : ℕ). n * U + k) (zero-mul U)) in
    whole f w x h r n 0 A 0 e (is-own r (value x) A xi) (is_zero b) (λ t. ap (λ (k : ℕ). k + 0) (sym (zero_is r b n A i t))) (λ e. is-zero r b n A i (sym (sym (add-zero A) ∙ e ∙ add-zero n)))

-- ---- sums and differences
module _ (r : Bool) (x y p n p' n' P N : ℕ) (xi : Is r (value x) p n) (yi : Is r (value y) p' n') where
  finite-both : both_finite x y ≡ true
  finite-both = ap₂ ◌&&◌ (is_number r (value x) p n xi) (is_number r (value y) p' n' yi)

  pub add-where : Is r (value (add_step x y)) P N → (c : Bool) → (c ≡ true → P + (n + n') ≡ p + p' + N) → (P + (n + n') ≡ p + p' + N → c ≡ true) → add_mark x y ≡ cond c 0 1
  add-where q c k l =
      let w = plus (value x) (value y) in
      add_is x y
      ∙ whole (both_finite x y) (finer binary32 w) (add_step x y) finite-both r (p + p') (n + n') P N
      (is-finer binary32 r w (p + p') (n + n') (is-plus r (value x) (value y) p n p' n' xi yi)) q c k l

  pub sub-exact : Is r (value (sub_step x y)) P N → P + (n + p') ≡ p + n' + N → sub_mark x y ≡ 0
  sub-exact q e =
      let w = plus (value x) (negate (value y)) in
      sub_is x y
      ∙ whole (both_finite x y) (finer binary32 w) (sub_step x y) finite-both r (p + n') (n + p') P N
      (is-finer binary32 r w (p + n') (n + p') (is-plus r (value x) (negate (value y)) p n n' p' xi (is-negate r (value y) p' n' yi))) q true (λ t. e) (λ t. refl)

pub add_left : (x y : ℕ) → both_finite x y ≡ true → (r : Bool) (n A : ℕ) → plus (value x) (value y) ≡ finite r n → value (add_step x y) ≡ finite r A → (b : Value) → Is r b n A
    → add_mark x y ≡ cond (is_zero b) 0 1
unfolding finer
add_left x y h r n A e ai b i = add_is x y ∙ left (both_finite x y) (finer binary32 (plus (value x) (value y))) (add_step x y) h r n A (ap (finer binary32) e) ai b i

-- ---- products
module _ (x y : ℕ) (s : Bool) (a : ℕ) (t : Bool) (b : ℕ) (xi : value x ≡ finite s a) (yi : value y ≡ finite t b) where
  product_is : times (value x) (value y) ≡ finite (unlike s t) (a * b)
  unfolding times
  product_is = ap₂ times xi yi

  finite-factors : both_finite x y ≡ true
  finite-factors = ap₂ (λ (v w : Value). is_finite v && is_finite w) xi yi

  pub mul-where : (c : ℕ) → value (mul_step x y) ≡ finite (unlike s t) c → (d : Bool) → (d ≡ true → c * 2 ^ 149 ≡ a * b) → (c * 2 ^ 149 ≡ a * b → d ≡ true) → mul_mark x y ≡ cond d 0 1
  mul-where c ri d h k =
      let w = times (value x) (value y) in
      let r = unlike s t in
      mul_is x y
      ∙ tested (both_finite x y) w (mul_step x y) finite-factors r (a * b) 0 c 0 (is-own r w (a * b) product_is) (is-own r (value (mul_step x y)) c ri) d
      (λ t. ap (λ (i : ℕ). i + 0) (h t) ∙ ap (λ (i : ℕ). a * b + i) (sym (zero-mul U)))
      (λ e. k (sym (add-zero (c * U)) ∙ e ∙ ap (λ (i : ℕ). a * b + i) (zero-mul U) ∙ add-zero (a * b)))

  pub mul-exact : (c : ℕ) → value (mul_step x y) ≡ finite (unlike s t) c → c * 2 ^ 149 ≡ a * b → mul_mark x y ≡ 0
  mul-exact c ri e = mul-where c ri true (λ t. e) (λ t. refl)

  pub mul_left : (n A : ℕ) → a * b ≡ n * 2 ^ 149 → value (mul_step x y) ≡ finite (unlike s t) A → (v : Value) → Is (unlike s t) v n A → mul_mark x y ≡ cond (is_zero v) 0 1
  mul_left n A e ai v i =
      mul_is x y ∙ left (both_finite x y) (times (value x) (value y)) (mul_step x y) finite-factors (unlike s t) n A (product_is ∙ ap (finite (unlike s t)) e) ai v i

-- by a positive factor
own_sign : (s : Bool) (v : Value) (m : ℕ) → v ≡ finite s m → v ≡ finite (unlike false s) m
own_sign false v m e = e
own_sign true v m e = e

module _ (c x C : ℕ) (s : Bool) (a m : ℕ) (ci : value c ≡ finite false C) (xi : value x ≡ finite s a) (ri : value (mul_step c x) ≡ finite s m) where
  pub factor-where : (d : Bool) → (d ≡ true → m * 2 ^ 149 ≡ C * a) → (m * 2 ^ 149 ≡ C * a → d ≡ true) → mul_mark c x ≡ cond d 0 1
  factor-where = mul-where c x false C s a ci xi m (own_sign s (value (mul_step c x)) m ri)

  pub factor-exact : m * 2 ^ 149 ≡ C * a → mul_mark c x ≡ 0
  factor-exact = mul-exact c x false C s a ci xi m (own_sign s (value (mul_step c x)) m ri)

-- ---- fused steps: what is left of a product
pub fma-exact : (x y z : ℕ) (s : Bool) (a : ℕ) (t : Bool) (b n A : ℕ) → value x ≡ finite s a → value y ≡ finite t b → value z ≡ finite (not (unlike s t)) A → a * b ≡ n * 2 ^ 149
    → Is (unlike s t) (value (fma_step x y z)) n A → fma_mark x y z ≡ 0
unfolding finer times
fma-exact x y z s a t b n A xi yi zi e q =
    let r = unlike s t in
    let v = times (value x) (value y) in
    let w = plus v (finer binary32 (value z)) in
    let product : Is r v (n * U) 0 = is-own r v (n * U) (ap₂ times xi yi ∙ ap (finite r) e) in
    let third : Is r (finer binary32 (value z)) 0 (A * U) = is-of r (finer binary32 (value z)) (finite (not r) (A * U)) 0 (A * U) (ap (finer binary32) zi) (rel-other r (A * U)) in
    let exact : Is r w (n * U) (A * U) = is-shift r w (n * U + 0) (0 + A * U) (n * U) (A * U) (is-plus r v (finer binary32 (value z)) (n * U) 0 0 (A * U) product third) (apart (n * U) (A * U)) in
    fma-is x y z
    ∙ whole (all_finite x y z) w (fma_step x y z)
    (ap₂ ◌&&◌ (ap is_finite xi) (ap₂ ◌&&◌ (ap is_finite yi) (ap is_finite zi)))
    r n A n A exact q true (λ t. refl) (λ t. refl)
  where
    apart : (p n : ℕ) → p + 0 + n ≡ p + (0 + n)
    apart p n = omega arith
