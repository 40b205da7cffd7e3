-- Sums that need no rounding: two operands that are far apart are their own pair, and infinite or NaN sums are the step's.
use mathlib.Core.Path.{◌≡◌, refl, sym, ap, ap₂, ◌∙◌}
use mathlib.Core.Logic.{inl, inr}
use mathlib.Core.Bool.{Bool, true, false, not, beq, cond, ◌&&◌}
use mathlib.Core.List.{List, [], ◌∷◌}
use Prim.Native.Nat.{ℕ, suc, ◌+◌, ◌-◌, ◌*◌, ◌%◌, ◌^◌, ◌≤◌, ◌<◌}
use native.Mathlib.Nat.{le_trans, le_of_eq, zero-mul, mul-lt-mul_of_pos_right, eq_of_mul-eq-mul_right, mod-eq_of_lt}
use native.Mathlib.Decide.{dec_le}
use native.Mathlib.Omega.{arith}
use lib.Dec.{ltb, leb}
use lib.Ieee.{unlike}
use lib.Pow.{pow_pos}
use borrow.Author.Tests.{lt-ltb, le-ltb}
use Rattle.rounding_spec.specs.declared.Ties.TheVariants.{ToEven, ToZero}
use Rattle.rounding_spec.specs.Format.{Format, binary32, low, limit, infinity}
use Rattle.rounding_spec.specs.Round.{rounded}
use Rattle.rounding_spec.specs.Nearest.{Rep, dist}
use Rattle.rounding_spec.specs.Value.{Value, nan, infinite, finite, Fits, decode, encode, round, round_finite, is_finite}
use Rattle.rounding_spec.proofs.Compare.{tri}
use Rattle.rounding_spec.proofs.Rounded.{rounded-exact}
use Rattle.rounding_spec.proofs.Codec.{unsigned-finite, unsigned-infinite, unsigned-nan, encode-decode, decode-fits, pattern-rep}
use Rattle.rounding_spec.proofs.RoundValue.{round-below}
use Rattle.rounding_spec.specs.declared.Number.{Number}
use Rattle.rounding_spec.specs.Numbers.{number_value}
use Rattle.pattern_spec.specs.Exact.{plus_finite, plus, finer}
use Rattle.pattern_spec.specs.declared.Class.{Class}
use Rattle.pattern_spec.specs.declared.Class.TheVariants.{Finite}
use Rattle.pattern_spec.specs.Classes.{class_of, value_of, zero_pattern}
use Rattle.pattern_spec.specs.Inner.{Operand, Below}
use Rattle.pattern_spec.proofs.Classified.{class-value, class-operand}
use Rattle.pattern_spec.proofs.Exacts.{Sum, near-exact}
use Rattle.pattern_spec.proofs.Far.{far-below, far-sum}
use Rattle.pattern_spec.proofs.Finiteness.{finer-finite, plus-finite}
use Rattle.pattern_spec.proofs.Sums.{like?, like-eq, sum_same, sum_left, finer-sum}
use Rattle.binary32_spec.specs.Steps.{result}
use Rattle.augmented_spec.specs.Pairs.{zero_takes, second_of, pair_of, exact_sum}
use Rattle.augmented_spec.specs.Inner.{both, patterns_of, Apart}
use Rattle.augmented_spec.proofs.Patterns.{zero_pattern_lem}
use Rattle.augmented_spec.proofs.Second.{second_is, side, unlike-true, unlike-false}

-- a number of the format is its own rounding
own-rounding : (F : Format) (q : Bool) (b : ℕ) → Rep (suc F.fraction) (low F) (b * 2 ^ low F) → b < limit F → round_finite ToZero F q (b * 2 ^ low F) ≡ finite q b
own-rounding F q b r h =
    let e : rounded ToZero F.fraction (low F) (b * 2 ^ low F) ≡ b =
    eq_of_mul-eq-mul_right (2 ^ low F) (pow_pos (low F)) (rounded ToZero F.fraction (low F) (b * 2 ^ low F)) b (rounded-exact ToZero F.fraction (low F) (b * 2 ^ low F) r) in
    round-below ToZero F q (b * 2 ^ low F) (le_trans (le_of_eq (ap suc e)) h) ∙ ap (finite q) e

zero-takes-any : (s q t : Bool) (b : ℕ) → b ≡ 0 → zero_takes s (finite q b) ≡ zero_takes s (finite t b)
unfolding zero_takes
zero-takes-any s q t b e = rw e

opposite-sign : (s t : Bool) → beq s t ≡ false → not s ≡ t
opposite-sign true true e = sym e
opposite-sign true false e = refl
opposite-sign false true e = refl
opposite-sign false false e = e

module _ (F : Format) (s : Bool) (a : ℕ) (t : Bool) (b : ℕ) (below : b < a) (rep : Rep (suc F.fraction) (low F) (b * 2 ^ low F)) (fits : b < limit F) where
  abbrev A : ℕ
  A = a * 2 ^ low F

  abbrev B : ℕ
  B = b * 2 ^ low F

  -- of a sum whose magnitude N is B away from A, on the side of t
  taken : (N : ℕ) → dist A N ≡ B → (0 < B → unlike s (ltb N A) ≡ t) → second_of F (finite s N) (finite s a) ≡ zero_takes s (finite t b)
  taken N d q =
      second_is F s N a
      ∙ ap (λ (x : ℕ). zero_takes s (round_finite ToZero F (side F s N a) x)) d
      ∙ ap (zero_takes s) (own-rounding F (side F s N a) b rep fits)
      ∙ elim (dec_le b 0) [
        | yes h ↦ zero-takes-any s (side F s N a) t b (omega arith)
        | no h ↦ ap (λ (r : Bool). zero_takes s (finite r b)) (q (le_trans (le_of_eq (ap suc (sym (zero-mul (2 ^ low F)))))
            (mul-lt-mul_of_pos_right (let z : 0 < b = omega arith in z) (pow_pos (low F)))))
      ]

  pub apart-second : second_of F (finer F (plus (finite s a) (finite t b))) (finite s a) ≡ zero_takes s (finite t b)
  unfolding plus
  apart-second =
      let l : B < A = mul-lt-mul_of_pos_right below (pow_pos (low F)) in
      ap (λ (v : Value). second_of F v (finite s a)) (finer-sum F s a t b)
      ∙ elim (like? s t) [
        | inl e ↦ ap (λ (v : Value). second_of F v (finite s a)) (sum_same s A t B e)
            ∙ taken (A + B) (omega arith) (λ p. ap (unlike s) (le-ltb (A + B) A (omega arith)) ∙ unlike-false s ∙ like-eq s t e)
        | inr e ↦ ap (λ (v : Value). second_of F v (finite s a)) (sum_left s A t B e l)
            ∙ taken (A - B) (omega arith) (λ p. ap (unlike s) (lt-ltb (A - B) A (omega arith)) ∙ unlike-true s ∙ opposite-sign s t e)
      ]

-- ---- of patterns
sign-shows : (x : ℕ) (s : Bool) (a : ℕ) → decode binary32 x ≡ finite s a → s ≡ leb (2 ^ 31) x
unfolding decode
sign-shows x s a e =
    let c = x % 2 ^ 31 in
    elim (tri c (infinity binary32)) [
      | inl h ↦ let u = unsigned-finite binary32 (leb (2 ^ 31) x) c h in cc
      | inr o ↦ elim o [
        | inl h ↦ let u = unsigned-infinite binary32 (leb (2 ^ 31) x) c h in absurd (let k : ◌≡◌ {A = ℕ} 0 1 = cc in omega arith)
        | inr h ↦ let u = unsigned-nan binary32 (leb (2 ^ 31) x) c h in absurd (let k : ◌≡◌ {A = ℕ} 0 1 = cc in omega arith)
      ]
    ]

finite-encodes : (x : ℕ) (s : Bool) (a : ℕ) → x < 2 ^ 32 → decode binary32 x ≡ finite s a → encode binary32 (finite s a) ≡ x
finite-encodes x s a h e = ap (encode binary32) (sym e) ∙ encode-decode binary32 x h (λ n. let k : ◌≡◌ {A = ℕ} 0 1 = cc in omega arith)

pub apart-patterns : (p q : ℕ) → p < 2 ^ 32 → q < 2 ^ 32 → Apart p q → both p (zero_pattern (leb (2 ^ 31) p) q) ≡ patterns_of (p ∷ q ∷ []) (pair_of binary32 (exact_sum binary32 p q))
unfolding pair_of Fits result zero_takes
apart-patterns p q hp hq k =
    let a = k.m * 2 ^ k.e in
    let b = k.n * 2 ^ k.d in
    let exact = exact_sum binary32 p q in
    let same : exact ≡ finer binary32 (plus (finite k.s a) (finite k.t b)) = ap (finer binary32) (ap₂ plus k.left k.right) in
    let first : (pair_of binary32 exact).first ≡ finite k.s a = ap (round ToZero binary32) same
    ∙ far-sum ToZero k.s k.m k.e k.t k.n k.d k.operands.0 k.operands.1 k.far in
    let fits : Rep 24 0 b × (b < limit binary32) = rw k.right at (decode-fits binary32 (omega arith) q) in
    let second : (pair_of binary32 exact).second ≡ zero_takes k.s (finite k.t b) =
    ap₂ (second_of binary32) same first
    ∙ apart-second binary32 k.s a k.t b (far-below k.m k.e k.n k.d k.operands.0 k.operands.1 k.far) (pattern-rep binary32 (omega arith) q k.t b k.right) fits.1
    in
    sym (ap₂ both (ap (result binary32 (p ∷ q ∷ [])) first ∙ finite-encodes p k.s a hp k.left)
    (ap (result binary32 (p ∷ q ∷ [])) second ∙ sym (zero_pattern_lem k.s k.t b fits.0 fits.1)
    ∙ ap₂ zero_pattern (sign-shows p k.s a k.left) (finite-encodes q k.t b hq k.right)))

-- ---- an infinite or NaN sum is that of the step
pub special-patterns : (operands : List ℕ) (v : Value) → is_finite v ≡ false → (r : ℕ) → r ≡ result binary32 operands (round ToEven binary32 v)
    → both r r ≡ patterns_of operands (pair_of binary32 v)
unfolding pair_of second_of round
special-patterns operands nan h r e = rw e
special-patterns operands (infinite s) h r e = rw e
special-patterns operands (finite s N) h r e = absurd (let k : ◌≡◌ {A = ℕ} 0 1 = ap (λ (b : Bool). cond b 0 1) h in omega arith)

pub infinite-sum : (v w : Value) → is_finite v && is_finite w ≡ false → is_finite (finer binary32 (plus v w)) ≡ false
infinite-sum v w h = finer-finite binary32 (plus v w) ∙ plus-finite v w ∙ h

-- ---- operands by their class
pub finite-class : (q : ℕ) (c : Class) (n : Number) → c ≡ class_of q → c ≡ Finite n → Operand n.sig n.exp × (decode binary32 q ≡ number_value n)
unfolding value_of
finite-class q c n e g = (class-operand q (Finite n) (sym g ∙ e), sym (class-value q (Finite n) (sym g ∙ e)))

pub special-class : (q : ℕ) (c : Class) → c ≡ class_of q → is_finite (value_of c) ≡ false → is_finite (decode binary32 q) ≡ false
special-class q c e h = ap is_finite (sym (class-value q c e)) ∙ h

-- the first operand is finite, and the second is not; or the first is not
pub second-special : (p q : ℕ) (s : Bool) (a : ℕ) → decode binary32 p ≡ finite s a → is_finite (decode binary32 q) ≡ false → is_finite (exact_sum binary32 p q) ≡ false
second-special p q s a e h = infinite-sum (decode binary32 p) (decode binary32 q) (rw e h)

pub first-special : (p q : ℕ) → is_finite (decode binary32 p) ≡ false → is_finite (exact_sum binary32 p q) ≡ false
first-special p q h = infinite-sum (decode binary32 p) (decode binary32 q) (rw h refl)

pub below-class : (q : ℕ) (c : Class) (e : ℕ) (n : Number) → c ≡ class_of q → c ≡ Finite n → Below e (class_of q) → n.exp ≤ e
below-class q c e n i g b = rw (sym i ∙ g) at b

-- ---- two operands at one exponent
pub near-short : (s : Bool) (m e : ℕ) (t : Bool) (n d : ℕ) → Operand m e → Operand n d → d ≤ e → e - d ≤ 31 → (r : Bool) (c : ℕ)
    → plus_finite s (m * 2 ^ ((e - d) % 32)) t n ≡ finite r c → Sum (finer binary32 (plus (finite s (m * 2 ^ e)) (finite t (n * 2 ^ d)))) r c (d + 149)
near-short s m e t n d o p l g r c q =
    near-exact s m e t n d o.sig p.sig l r c (ap (λ (k : ℕ). plus_finite s (m * 2 ^ k) t n) (sym (mod-eq_of_lt (let z : e - d < 32 = omega arith in z))) ∙ q)
