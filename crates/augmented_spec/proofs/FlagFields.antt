-- Each flag by itself: where I, O, U and X are raised.
use mathlib.Core.Path.{◌≡◌, refl, sym, ap, ap₂, ◌∙◌}
use mathlib.Core.Logic.{◌⊎◌, ◌≢◌, ◌↔◌, inl, inr}
use mathlib.Core.Bool.{Bool, true, false, not, ◌&&◌, ◌||◌, true≢false, false≢true}
use Prim.Native.Nat.{ℕ, ◌*◌, ◌<◌}
use borrow.Author.Tests.{eqb-true, eq-eqb, not-false}
use native.Mathlib.Omega.{arith}
use lib.Ieee.{unlike}
use lib.IntN.{ℤ, ◌+ℤ◌, ◌*ℤ◌}
use Rattle.rounding_spec.specs.Format.{Format, Proper, sign_bit}
use Rattle.rounding_spec.specs.Value.{Value, nan, infinite, finite, decode, is_nan, is_infinite, is_finite, signalling, round}
use Rattle.rounding_spec.proofs.NaN.{differs, number}
use Rattle.pattern_spec.specs.Exact.{int}
use Rattle.pattern_spec.proofs.Classified.{decode-flip, nan-negated}
use Rattle.pattern_spec.proofs.Finiteness.{number-of}
use Rattle.augmented_spec.specs.declared.Pair.{Pair}
use Rattle.augmented_spec.specs.Pairs.{pair_of, invalid, overflowed, underflowed, answer, exact_product}
use Rattle.augmented_spec.specs.declared.Operation.{Operation}
use Rattle.augmented_spec.specs.declared.Operation.TheVariants.{Sum as sum, Difference as difference, Product as product}
use Rattle.augmented_spec.specs.Direct.{direct_pair}
use Rattle.augmented_spec.specs.Theorems.{finer_int, FiniteOperands, FinitePattern, FlagSetFields, InvalidRaised, OverflowRaised, UnderflowRaised, InexactRaised, second_operand}
use Rattle.augmented_spec.proofs.FlagSets.{underflow-none}
use Rattle.augmented_spec.proofs.Answered.{Operands, product-operands}
use Rattle.augmented_spec.proofs.Read.{underflow, direct-answer, first_read_lem}
use Rattle.augmented_spec.proofs.FiniteOperands.{second_size, second_sign, halved}
use Rattle.augmented_spec.proofs.AddsUp.{adds-up, added-up, product-underflow}
use Rattle.augmented_spec.proofs.FiniteFlags.{taken-finite}
use Rattle.augmented_spec.proofs.SpecialOperands.{taken-signalling}

pub flag-set-fields : FlagSetFields
flag-set-fields = ((refl, refl, refl, refl), (refl, refl, refl, refl), (refl, refl, refl, refl), (refl, refl, refl, refl))

-- ---- kinds of values
taken-number : (o : Operation) (F : Format) (y : ℕ) → y < 2 * sign_bit F → is_nan (decode F (second_operand o F y)) ≡ is_nan (decode F y)
taken-number sum F y w = refl
taken-number difference F y w = ap is_nan (decode-flip F y w) ∙ nan-negated (decode F y)
taken-number product F y w = refl

-- ---- I
abbrev invalid_by : Bool → Bool → Bool → Bool → Bool → Bool
invalid_by i j first left right = i || j || (first && not left && not right)

invalid-means : (i j : Bool) (f v w : Value)
    → (invalid_by i j (is_nan f) (is_nan v) (is_nan w) ≡ true) ↔ ((i ≡ true) ⊎ ((j ≡ true) ⊎ ((f ≡ nan) × (v ≢ nan) × (w ≢ nan))))
invalid-means i j f v w = (to i j f v w, from i j f v w)
  where
    new : (v w : Value) (a b : Bool) → is_nan v ≡ a → is_nan w ≡ b → not a && not b ≡ true → (v ≢ nan) × (w ≢ nan)
    new v w true b p q e = absurd (false≢true e)
    new v w false true p q e = absurd (false≢true e)
    new v w false false p q e = (differs v p, differs w q)

    to : (i j : Bool) (f v w : Value) → invalid_by i j (is_nan f) (is_nan v) (is_nan w) ≡ true → (i ≡ true) ⊎ ((j ≡ true) ⊎ ((f ≡ nan) × (v ≢ nan) × (w ≢ nan)))
    to true j f v w e = inl refl
    to false true f v w e = inr (inl refl)
    to false false nan v w e = let n = new v w (is_nan v) (is_nan w) refl refl e in inr (inr (refl, n.0, n.1))
    to false false (infinite s) v w e = absurd (false≢true e)
    to false false (finite s a) v w e = absurd (false≢true e)

    from : (i j : Bool) (f v w : Value) → (i ≡ true) ⊎ ((j ≡ true) ⊎ ((f ≡ nan) × (v ≢ nan) × (w ≢ nan))) → invalid_by i j (is_nan f) (is_nan v) (is_nan w) ≡ true
    from i j f v w (inl e) = rw e
    from true j f v w (inr (inl e)) = refl
    from false j f v w (inr (inl e)) = rw e
    from true j f v w (inr (inr k)) = refl
    from false true f v w (inr (inr k)) = refl
    from false false f v w (inr (inr k)) = rw (k.0, number v k.1, number w k.2)

module _ (o : Operation) (F : Format) (ok : Proper F) (x y : ℕ) (w : y < 2 * sign_bit F) where
  abbrev p : Pair
  p = direct_pair o F x y

  invalid-is : p.flags.invalid ≡ invalid_by (signalling F x) (signalling F y) (is_nan (decode F p.first)) (is_nan (decode F x)) (is_nan (decode F y))
  unfolding answer invalid
  invalid-is =
      ap (λ (k : Pair). k.flags.invalid) (direct-answer o F x y)
      ∙ ap (λ (v : Value). invalid F x (second_operand o F y) v) (sym (first_read_lem o F ok x y))
      ∙ ap₂ (λ (j n : Bool). invalid_by (signalling F x) j (is_nan (decode F p.first)) (is_nan (decode F x)) n) (taken-signalling o F ok.0 y w) (taken-number o F y w)

  overflow-is : p.flags.overflow ≡ is_infinite (decode F p.first) && is_finite (decode F x) && is_finite (decode F y)
  unfolding answer overflowed
  overflow-is =
      ap (λ (k : Pair). k.flags.overflow) (direct-answer o F x y)
      ∙ ap (λ (v : Value). overflowed F x (second_operand o F y) v) (sym (first_read_lem o F ok x y))
      ∙ ap (λ (n : Bool). is_infinite (decode F p.first) && is_finite (decode F x) && n) (taken-finite o F y w)

pub invalid-raised : InvalidRaised
invalid-raised o F ok x y w =
    let e = invalid-is o F ok x y w in
    let k = invalid-means (signalling F x) (signalling F y) (decode F (direct_pair o F x y).first) (decode F x) (decode F y) in
    (λ i. k.0 (sym e ∙ i), λ c. e ∙ k.1 c)

-- ---- O
overflow-means : (f v w : Value)
    → (is_infinite f && is_finite v && is_finite w ≡ true)
    ↔ (((r : Bool) × (f ≡ infinite r)) × ((s : Bool) × (a : ℕ) × (v ≡ finite s a)) × ((t : Bool) × (b : ℕ) × (w ≡ finite t b)))
overflow-means f v w = (to f v w, λ k. rw (k.0.1, k.1.2, k.2.2))
  where
    to : (f v w : Value) → is_infinite f && is_finite v && is_finite w ≡ true
        → ((r : Bool) × (f ≡ infinite r)) × ((s : Bool) × (a : ℕ) × (v ≡ finite s a)) × ((t : Bool) × (b : ℕ) × (w ≡ finite t b))
    to nan v w e = absurd (false≢true e)
    to (finite r c) v w e = absurd (false≢true e)
    to (infinite r) nan w e = absurd (false≢true e)
    to (infinite r) (infinite s) w e = absurd (false≢true e)
    to (infinite r) (finite s a) w e = ((r, refl), (s, a, refl), number-of w e)

pub overflow-raised : OverflowRaised
overflow-raised o F ok x y w =
    let e = overflow-is o F ok x y w in
    let k = overflow-means (decode F (direct_pair o F x y).first) (decode F x) (decode F y) in
    (λ i. k.0 (sym e ∙ i), λ c. e ∙ k.1 c)

-- ---- U
underflow-is : (o : Operation) (F : Format) (x y : ℕ) → (direct_pair o F x y).flags.underflow ≡ underflow o F x y
unfolding answer
underflow-is o F x y = ap (λ (k : Pair). k.flags.underflow) (direct-answer o F x y)

-- U is raised by numbers alone
finite-first : (v : Value) (F : Format) → underflowed F v (pair_of F v) ≡ true → (is_finite v ≡ true) × (is_finite (pair_of F v).first ≡ true)
unfolding pair_of round
finite-first nan F u = absurd (false≢true (sym (underflow-none F nan (pair_of F nan) refl) ∙ u))
finite-first (infinite s) F u = absurd (false≢true (sym (underflow-none F (infinite s) (pair_of F (infinite s)) refl) ∙ u))
finite-first (finite s N) F u = (refl, by (is_finite (pair_of F (finite s N)).first) refl)
  where
    by : (c : Bool) → is_finite (pair_of F (finite s N)).first ≡ c → c ≡ true
    by true e = refl
    by false e = absurd (false≢true (sym (underflow-none F (finite s N) (pair_of F (finite s N)) e) ∙ u))

finite-factors : (v w e : Value) → Operands v w e → is_finite e ≡ true → (is_finite v ≡ true) × (is_finite w ≡ true)
finite-factors v w nan k h = absurd (false≢true h)
finite-factors v w (infinite s) k h = absurd (false≢true h)
finite-factors v w (finite s N) k h = k

module _ (F : Format) (ok : Proper F) (x y : ℕ) (w : y < 2 * sign_bit F) where
  abbrev q : Pair
  q = direct_pair product F x y

  module _ (left : FinitePattern F x) (right : FinitePattern F y) where
    abbrev E : ℤ
    E = int left.0 left.1 *ℤ int right.0 right.1

    factors : FiniteOperands product F E (unlike left.0 right.0) q
    factors =
        record {
          proper = ok;
          x = x;
          y = y;
          width = w;
          s = left.0;
          a = left.1;
          t = right.0;
          b = right.1;
          left = left.2;
          right = right.2;
          exact = refl;
          zero = refl;
          pair = refl;
        }

  abbrev Differs : Type 0
  Differs =
      (first : FinitePattern F q.first) × (second : FinitePattern F q.second) × (left : FinitePattern F x) × (right : FinitePattern F y)
      × (finer_int F first.0 first.1 +ℤ finer_int F second.0 second.1 ≢ E left right)

  unequal : q.flags.underflow ≡ true → Differs
  unequal u =
      let n = finite-first (exact_product F x y) F (sym (underflow-is product F x y) ∙ u) in
      let f = finite-factors (decode F x) (decode F y) (exact_product F x y) (product-operands (decode F x) (decode F y)) n.0 in
      let left : FinitePattern F x = number-of (decode F x) f.0 in
      let right : FinitePattern F y = number-of (decode F y) f.1 in
      let first : FinitePattern F q.first = number-of (decode F q.first) (ap is_finite (first_read_lem product F ok x y) ∙ n.1) in
      let h = factors left right in
      let k = halved h first.0 first.1 first.2 in
      (first, (_, _, k.second), left, right, λ s. true≢false (sym u ∙ product-underflow h k ∙ ap not (eq-eqb _ 0 (added-up k s))))

  raised : Differs → q.flags.underflow ≡ true
  raised (first, second, left, right, n) =
      let h = factors left right in
      let k = halved h first.0 first.1 first.2 in
      let same : finite second.0 second.1 ≡ finite (second_sign F (E left right) first.0) (second_size F (E left right) first.0) = sym second.2 ∙ k.second in
      let s : second.0 ≡ second_sign F (E left right) first.0 = cc in
      let d : second.1 ≡ second_size F (E left right) first.0 = cc in
      by q.flags.underflow (λ e.
      n (ap (λ (j : ℤ). finer_int F first.0 first.1 +ℤ j) (ap₂ (finer_int F) s d)
      ∙ adds-up k (eqb-true _ 0 (not-false _ (sym (product-underflow h k) ∙ e)))))
    where
      by : (c : Bool) → (c ≡ false → ⊥) → c ≡ true
      by true f = refl
      by false f = absurd (f refl)

sum-alone : sum ≢ product
sum-alone e = let n : ◌≡◌ {A = ℕ} 0 1 = cc in omega arith

difference-alone : difference ≢ product
difference-alone e = let n : ◌≡◌ {A = ℕ} 0 1 = cc in omega arith

pub underflow-raised : UnderflowRaised
underflow-raised sum F ok x y w = (λ u. absurd (false≢true (sym (underflow-is sum F x y) ∙ u)), λ k. absurd (sum-alone k.0))
underflow-raised difference F ok x y w = (λ u. absurd (false≢true (sym (underflow-is difference F x y) ∙ u)), λ k. absurd (difference-alone k.0))
underflow-raised product F ok x y w =
    (λ u. let k = unequal F ok x y w u in (refl, k.0, k.1, k.2, k.3, k.4), λ k. raised F ok x y w (k.1, k.2, k.3, k.4, k.5))

-- ---- X
pub inexact-raised : InexactRaised
unfolding answer
inexact-raised o F x y = rw (direct-answer o F x y) (either _ (underflow o F x y))
  where
    either : (i j : Bool) → (i || j ≡ true) ↔ ((i ≡ true) ⊎ (j ≡ true))
    either true j = (λ e. inl refl, λ k. refl)
    either false j = (λ e. inr e, λ k. elim k [ inl e ↦ absurd (false≢true e) | inr e ↦ e ])
