-- The pair of finite operands, by sign and magnitude of the exact number.
use mathlib.Core.Path.{◌≡◌, refl, sym, ap, ap₂, ◌∙◌, subst}
use mathlib.Core.Bool.{Bool, not, cond, ◌&&◌}
use Prim.Native.Nat.{ℕ, ◌*◌, ◌^◌, ◌<◌}
use native.Mathlib.Nat.{eq_of_mul-eq-mul_right, zero-mul}
use native.Mathlib.Decide.{dec_le}
use native.Mathlib.Omega.{arith}
use lib.Dec.{eqb}
use lib.Ieee.{unlike}
use lib.IntN.{ℤ, pos, nat_abs, ◌+ℤ◌, ◌*ℤ◌}
use lib.Pow.{pow_pos}
use Rattle.rounding_spec.specs.declared.Ties.TheVariants.{ToZero}
use Rattle.rounding_spec.specs.Format.{Format, low, limit, sign_bit}
use Rattle.rounding_spec.specs.Round.{left_over}
use Rattle.rounding_spec.specs.Value.{Value, finite, decode}
use Rattle.pattern_spec.specs.Exact.{negate, plus, times, finer, int}
use Rattle.pattern_spec.proofs.Classified.{decode-flip}
use Rattle.pattern_spec.proofs.Integers.{plus-exact, times-exact, int-not, int-scale}
use Rattle.augmented_spec.specs.declared.Pair.{Pair}
use Rattle.augmented_spec.specs.Pairs.{pair_of, exact_product}
use Rattle.augmented_spec.specs.declared.Operation.{Operation}
use Rattle.augmented_spec.specs.declared.Operation.TheVariants.{Sum as sum, Difference as difference, Product as product}
use Rattle.augmented_spec.specs.Direct.{exact_result}
use Rattle.augmented_spec.specs.Theorems.{zero_sign, FiniteOperands}
use Rattle.pattern_spec.proofs.Integers.{int-size}
use Rattle.augmented_spec.proofs.Read.{exact_for, first_read_lem, second-read}
use Rattle.augmented_spec.proofs.Second.{head, left, up, tail, first-finite, pair-second, first-infinite}

-- ---- the exact result of finite operands
-- v is the whole number E of u * u; as zero it has the sign z
pub record Number (v : Value) (E : ℤ) (z : Bool) : Type 0 where
  pub sign : Bool
  pub value : v ≡ finite sign (nat_abs E)
  pub exact : int sign (nat_abs E) ≡ E
  pub zero : nat_abs E ≡ 0 → sign ≡ z

number-of : (v : Value) (E : ℤ) (z r : Bool) (N : ℕ) → v ≡ finite r N → int r N ≡ E → (N ≡ 0 → r ≡ z) → Number v E z
number-of v E z r N p e n =
    let g : nat_abs E ≡ N = sym (ap nat_abs e) ∙ int-size r N in
    record { sign = r; value = p ∙ ap (finite r) (sym g); exact = ap (int r) g ∙ e; zero = λ (q : nat_abs E ≡ 0). n (sym g ∙ q) }

module _ (F : Format) (s : Bool) (a : ℕ) (t : Bool) (b : ℕ) where
  sum_number : Number (finer F (plus (finite s a) (finite t b))) ((int s a +ℤ int t b) *ℤ pos (2 ^ low F)) (s && t)
  unfolding plus finer
  sum_number =
      let e = plus-exact s a t b in
      number-of _ _ (s && t) e.0 (e.1 * 2 ^ low F) (ap (finer F) e.2)
      (int-scale e.0 e.1 (2 ^ low F) ∙ ap (λ (k : ℤ). k *ℤ pos (2 ^ low F)) e.3)
      (λ z. e.4 (eq_of_mul-eq-mul_right (2 ^ low F) (pow_pos (low F)) e.1 0 (z ∙ sym (zero-mul (2 ^ low F)))))

exact-number : (o : Operation) (F : Format) (x y : ℕ) → y < 2 * sign_bit F → (s : Bool) (a : ℕ) (t : Bool) (b : ℕ)
    → decode F x ≡ finite s a → decode F y ≡ finite t b → Number (exact_for o F x y) (exact_result o F (int s a) (int t b)) (zero_sign o s t)
unfolding times negate
exact-number sum F x y w s a t b p q = rw (p, q) (sum_number F s a t b)
exact-number difference F x y w s a t b p q = rw (p, decode-flip F y w, q, ← int-not t b) (sum_number F s a (not t) b)
exact-number product F x y w s a t b p q = number-of (exact_product F x y) _ (unlike s t) (unlike s t) (a * b) (ap₂ times p q) (times-exact s a t b) (λ e. refl)

-- ---- the pair of finite operands is that of their exact number
module _ {o : Operation} {F : Format} {E : ℤ} {z : Bool} {p : Pair} (h : FiniteOperands o F E z p) where
  pub number : Number (exact_for o F h.x h.y) E z
  number = rw (h.exact, h.zero) (exact-number o F h.x h.y h.width h.s h.a h.t h.b h.left h.right)

  pub first-is : decode F p.first ≡ (pair_of F (finite number.sign (nat_abs E))).first
  first-is = ap (λ (k : Pair). decode F k.first) h.pair ∙ first_read_lem o F h.proper h.x h.y ∙ ap (λ (v : Value). (pair_of F v).first) number.value

  second_is : decode F p.second ≡ (pair_of F (finite number.sign (nat_abs E))).second
  second_is = ap (λ (k : Pair). decode F k.second) h.pair ∙ second-read o F h.proper h.x h.y ∙ ap (λ (v : Value). (pair_of F v).second) number.value

-- ---- with a finite first: it has the sign q of the exact number, and second is finite too
module _ (F : Format) (E : ℤ) (q : Bool) where
  -- what first leaves over, with its sign
  abbrev pub rest : ℕ
  rest = left F q (nat_abs E)

  abbrev pub side : Bool
  side = unlike q (up F q (nat_abs E))

  -- second, which rounds it, with its sign
  abbrev pub second_size : ℕ
  second_size = tail F q (nat_abs E)

  abbrev pub second_sign : Bool
  second_sign = cond (eqb second_size 0) q side

  -- what second leaves over in turn
  abbrev pub lost : ℕ
  lost = left_over ToZero F.fraction (low F) rest

pub record Halved (F : Format) (E : ℤ) (p : Pair) (q : Bool) (c : ℕ) : Type 0 where
  pub exact : int q (nat_abs E) ≡ E
  pub below : head F q (nat_abs E) < limit F
  pub first : c ≡ head F q (nat_abs E)
  pub second : decode F p.second ≡ finite (second_sign F E q) (second_size F E q)

module _ {o : Operation} {F : Format} {E : ℤ} {z : Bool} {p : Pair} (h : FiniteOperands o F E z p) (q : Bool) (c : ℕ) (e : decode F p.first ≡ finite q c) where
  pub halved : Halved F E p q c
  halved =
      let r = (number h).sign in
      let N = nat_abs E in
      let f : (pair_of F (finite r N)).first ≡ finite q c = sym (first-is h) ∙ e in
      elim (dec_le (limit F) (head F r N)) [
        | yes g ↦ absurd (let x = first-infinite F r N g in let k : ◌≡◌ {A = ℕ} 0 1 = cc in omega arith)
        | no g ↦
            let l : head F r N < limit F = omega arith in
            let x = first-finite F r N l in
            let same : r ≡ q = cc in
            let is : c ≡ head F r N = cc in
            subst (λ (s : Bool). Halved F E p s c) same (record { exact = (number h).exact; below = l; first = is; second = second_is h ∙ pair-second F r N l })
      ]
