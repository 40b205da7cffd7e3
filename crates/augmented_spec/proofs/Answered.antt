-- The answer of two patterns by the class of their exact result: what the code hands back in each case.
use mathlib.Core.Path.{◌≡◌, refl, sym, ap, ◌∙◌}
use mathlib.Core.Bool.{Bool, true, false, beq, cond, ◌&&◌}
use mathlib.Core.List.{[], ◌∷◌}
use Prim.Native.Nat.{ℕ, ◌<◌}
use native.Mathlib.Decide.{dec_le}
use native.Mathlib.Omega.{arith}
use lib.Dec.{eqb}
use Rattle.rounding_spec.specs.Format.{Format, binary32, limit}
use Rattle.rounding_spec.specs.declared.Ties.TheVariants.{ToZero}
use Rattle.rounding_spec.specs.Value.{Value, nan, infinite, finite, Fits, decode, nan_of, encode, round_finite, round, is_nan, is_finite, is_infinite}
use Rattle.rounding_spec.proofs.Codec.{decode-encode}
use Rattle.rounding_spec.proofs.NaN.{rounded-number}
use Rattle.rounding_spec.proofs.RoundValue.{round-fits}
use Rattle.pattern_spec.specs.Exact.{plus, times, finer}
use Rattle.pattern_spec.proofs.Sums.{sum-finite}
use Rattle.binary32_spec.specs.Steps.{result}
use Rattle.binary32_spec.proofs.Result.{result-number, decode-result}
use Rattle.augmented_spec.specs.declared.Flags.{Flags}
use Rattle.augmented_spec.specs.declared.Halves.{Halves as Patterns}
use Rattle.augmented_spec.specs.declared.Pair.{Pair}
use Rattle.augmented_spec.specs.Pairs.{Halves, zero_takes, second_of, pair_of, invalid, overflowed, underflowed, flags_of, answer, exact_sum, sum_pair, exact_product, product_pair}
use Rattle.augmented_spec.specs.Direct.{none}
use Rattle.augmented_spec.specs.Inner.{patterns_of, flags_without_u, pair_without_u, finite_answer, product_answer}
use Rattle.augmented_spec.proofs.Second.{head, first-finite, first-infinite, second-infinite, second_is, side, gap}
use Rattle.augmented_spec.proofs.FlagSets.{finite_number, finite-flags, underflow-none}

pub same-pair : {a b : ℕ} {c d : ℕ} {f g : Flags} → a ≡ b → c ≡ d → f ≡ g → ◌≡◌ {A = Pair} record { first = a; second = c; flags = f } record { first = b; second = d; flags = g }
same-pair p q r = rw (p, q, r)

-- ---- classes of operands and results
-- where an exact result is finite, or infinite, so much is known of the operands v and w
abbrev pub Operands : Value → Value → Value → Type 0
Operands v w nan = Unit {0}
Operands v w (infinite s) = (is_nan v ≡ false) × (is_nan w ≡ false) × (is_finite v && is_finite w ≡ false)
Operands v w (finite s N) = (is_finite v ≡ true) × (is_finite w ≡ true)

opposite : (v w : Value) (F : Format) (b s : Bool) → is_nan v ≡ false → is_nan w ≡ false → is_finite v && is_finite w ≡ false → Operands v w (finer F (cond b (infinite s) nan))
unfolding finer
opposite v w F true s p q r = (p, q, r)
opposite v w F false s p q r = tt

pub sum-operands : (F : Format) (v w : Value) → Operands v w (finer F (plus v w))
unfolding plus finer
sum-operands F nan w = tt
sum-operands F (infinite s) nan = tt
sum-operands F (infinite s) (infinite t) = opposite (infinite s) (infinite t) F (beq s t) s refl refl refl
sum-operands F (infinite s) (finite t b) = (refl, refl, refl)
sum-operands F (finite s a) nan = tt
sum-operands F (finite s a) (infinite t) = (refl, refl, refl)
sum-operands F (finite s a) (finite t b) = rw (sum-finite s a t b).2 (refl, refl)

either : (v w : Value) (b s : Bool) → is_nan v ≡ false → is_nan w ≡ false → is_finite v && is_finite w ≡ false → Operands v w (cond b nan (infinite s))
either v w true s p q r = tt
either v w false s p q r = (p, q, r)

pub product-operands : (v w : Value) → Operands v w (times v w)
unfolding times
product-operands nan w = tt
product-operands (infinite s) nan = tt
product-operands (infinite s) (infinite t) = (refl, refl, refl)
product-operands (infinite s) (finite t b) = either (infinite s) (finite t b) (eqb b 0) _ refl refl refl
product-operands (finite s a) nan = tt
product-operands (finite s a) (infinite t) = either (finite s a) (infinite t) (eqb a 0) _ refl refl refl
product-operands (finite s a) (finite t b) = (refl, refl)

-- a number is rounded to a number
pub first-number : (F : Format) (s : Bool) (N : ℕ) → is_nan (pair_of F (finite s N)).first ≡ false
first-number F s N =
    elim (dec_le (limit F) (head F s N)) [
      | yes h ↦ ap is_nan (first-infinite F s N h)
      | no h ↦ let l : head F s N < limit F = omega arith in ap is_nan (first-finite F s N l)
    ]

zero_number : (s : Bool) (v : Value) → is_nan (zero_takes s v) ≡ is_nan v
unfolding zero_takes
zero_number s nan = refl
zero_number s (infinite r) = refl
zero_number s (finite r a) = refl

pub second-number : (F : Format) (s : Bool) (N : ℕ) → is_nan (pair_of F (finite s N)).second ≡ false
unfolding pair_of
second-number F s N =
    elim (dec_le (limit F) (head F s N)) [
      | yes h ↦ ap is_nan (second-infinite F s N h)
      | no h ↦
          let l : head F s N < limit F = omega arith in
          ap (λ (v : Value). is_nan (second_of F (finite s N) v)) (first-finite F s N l)
          ∙ ap is_nan (second_is F s N (head F s N))
          ∙ zero_number s (round_finite ToZero F (side F s N (head F s N)) (gap F s N (head F s N)))
          ∙ rounded-number ToZero F (side F s N (head F s N)) (gap F s N (head F s N))
    ]

finite-not-infinite : (v : Value) → is_finite v ≡ true → is_infinite v ≡ false
finite-not-infinite nan e = refl
finite-not-infinite (infinite s) e = sym e
finite-not-infinite (finite s a) e = refl

-- ---- finite operands
module _ (x y : ℕ) where
  pub answer-finite : (p : Halves) (u : Bool) → is_nan p.first ≡ false → is_nan p.second ≡ false → is_finite (decode binary32 x) ≡ true → is_finite (decode binary32 y) ≡ true
      → answer binary32 x y p u ≡ finite_answer p u
  unfolding answer overflowed
  answer-finite p u n m a b =
      same-pair (result-number binary32 (x ∷ y ∷ []) p.first n) (result-number binary32 (x ∷ y ∷ []) p.second m)
      (finite-flags binary32 x y p.first u a b n)

  pub finite-answer : (v : Value) (s : Bool) (N : ℕ) (u : Bool) → v ≡ finite s N → Operands (decode binary32 x) (decode binary32 y) v
      → answer binary32 x y (pair_of binary32 v) u ≡ finite_answer (pair_of binary32 (finite s N)) u
  finite-answer v s N u e o =
      let k = rw e at o in
      ap (λ (w : Value). answer binary32 x y (pair_of binary32 w) u) e ∙ answer-finite (pair_of binary32 (finite s N)) u (first-number binary32 s N) (second-number binary32 s N) k.0 k.1

-- ---- infinite and NaN results stand twice
module _ (x y : ℕ) where
  abbrev flagged : Value → Flags
  flagged v = flags_of (invalid binary32 x y v) (overflowed binary32 x y v) false

  abbrev shown : Value → ℕ
  shown v = result binary32 (x ∷ y ∷ []) v

  special-answer : (v : Value) → is_finite v ≡ false → answer binary32 x y (pair_of binary32 v) false ≡ record { first = shown v; second = shown v; flags = flagged v }
  unfolding answer pair_of second_of round
  special-answer nan h = refl
  special-answer (infinite s) h = refl
  special-answer (finite s N) h = absurd (let k : ◌≡◌ {A = ℕ} 0 1 = ap (λ (b : Bool). cond b 0 1) h in omega arith)

-- ---- of a product, whose U is raised by a finite pair alone
module _ (x y : ℕ) where
  abbrev exact : Value
  exact = exact_product binary32 x y

  pub product-finite : (s : Bool) (N : ℕ) → exact ≡ finite s N → product_pair binary32 x y ≡ product_answer s N
  unfolding product_pair
  product-finite s N e =
      finite-answer x y exact s N (underflowed binary32 exact (pair_of binary32 exact)) e (product-operands (decode binary32 x) (decode binary32 y))
      ∙ ap (λ (v : Value). finite_answer (pair_of binary32 (finite s N)) (underflowed binary32 v (pair_of binary32 v))) e

  special-first : (v : Value) → is_finite v ≡ false → is_finite (pair_of binary32 v).first ≡ false
  unfolding pair_of round
  special-first nan h = refl
  special-first (infinite s) h = refl
  special-first (finite s N) h = absurd (let k : ◌≡◌ {A = ℕ} 0 1 = ap (λ (b : Bool). cond b 0 1) h in omega arith)

  product-twice : (v : Value) → exact ≡ v → is_finite v ≡ false → product_pair binary32 x y ≡ record { first = shown x y v; second = shown x y v; flags = flagged x y v }
  unfolding product_pair
  product-twice v e h =
      let u = underflow-none binary32 v (pair_of binary32 v) (special-first v h) in
      ap (λ (w : Value). answer binary32 x y (pair_of binary32 w) (underflowed binary32 w (pair_of binary32 w))) e ∙ ap (answer binary32 x y (pair_of binary32 v)) u ∙ special-answer x y v h

  -- with the pattern c of an infinite or NaN product
  product-special : (v : Value) → exact ≡ v → is_finite v ≡ false → Fits binary32 v → (c : ℕ) → c ≡ shown x y v → (r : Pair) → r ≡ pair_without_u x y c c → r ≡ product_pair binary32 x y
  product-special v e h f c i r q =
      let d : decode binary32 c ≡ v = ap (decode binary32) i ∙ decode-result binary32 (x ∷ y ∷ []) (omega arith) v f in
      q ∙ same-pair i i (ap (flagged x y) d) ∙ sym (product-twice v e h)

  pub product-infinite : (s : Bool) → exact ≡ infinite s → (c : ℕ) → c ≡ encode binary32 (infinite s) → (r : Pair) → r ≡ pair_without_u x y c c → r ≡ product_pair binary32 x y
  unfolding Fits result
  product-infinite s e = product-special (infinite s) e refl tt

  pub product-nan : exact ≡ nan → (c : ℕ) → c ≡ nan_of binary32 (x ∷ y ∷ []) → (r : Pair) → r ≡ pair_without_u x y c c → r ≡ product_pair binary32 x y
  unfolding Fits result
  product-nan e = product-special nan e refl tt

  -- its flags go by the value alone: any NaN does
  pub special-flags : (v : Value) → exact ≡ v → is_finite v ≡ false → Fits binary32 v → (c : ℕ) → c ≡ encode binary32 v → flags_without_u x y c ≡ (product_pair binary32 x y).flags
  special-flags v e h f c i =
      ap (λ (k : ℕ). flagged x y (decode binary32 k)) i ∙ ap (flagged x y) (decode-encode binary32 (omega arith) v f) ∙ sym (ap (λ (p : Pair). p.flags) (product-twice v e h))

-- ---- of a sum, from both halves
module _ (x y : ℕ) (both : Patterns) (is : both ≡ patterns_of (x ∷ y ∷ []) (pair_of binary32 (exact_sum binary32 x y))) where
  abbrev p : Halves
  p = pair_of binary32 (exact_sum binary32 x y)

  first_fits_lem : Fits binary32 p.first
  unfolding pair_of
  first_fits_lem = round-fits ToZero binary32 (exact_sum binary32 x y)

  first-is : both.first ≡ shown x y p.first
  first-is = ap (λ (h : Patterns). h.first) is

  second-part : both.second ≡ shown x y p.second
  second-part = ap (λ (h : Patterns). h.second) is

  first-decodes : decode binary32 both.first ≡ p.first
  first-decodes = ap (decode binary32) first-is ∙ decode-result binary32 (x ∷ y ∷ []) (omega arith) p.first first_fits_lem

  -- a finite first comes from finite operands
  sum-raises-none : (v : Value) → exact_sum binary32 x y ≡ v → is_finite (pair_of binary32 v).first ≡ true → flagged x y (pair_of binary32 v).first ≡ none
  unfolding overflowed pair_of round
  sum-raises-none nan e h = absurd (let k : ◌≡◌ {A = ℕ} 0 1 = ap (λ (b : Bool). cond b 1 0) h in omega arith)
  sum-raises-none (infinite s) e h = absurd (let k : ◌≡◌ {A = ℕ} 0 1 = ap (λ (b : Bool). cond b 1 0) h in omega arith)
  sum-raises-none (finite s N) e h =
      let k = rw e at (sum-operands binary32 (decode binary32 x) (decode binary32 y)) in
      let first = (pair_of binary32 (finite s N)).first in
      finite-flags binary32 x y first false k.0 k.1 (finite_number first h) ∙ ap (λ (o : Bool). flags_of false o false) (finite-not-infinite first h)

  pub none-raised : is_finite (decode binary32 both.first) ≡ true → flagged x y (decode binary32 both.first) ≡ none
  none-raised = rw first-decodes (sum-raises-none (exact_sum binary32 x y) refl)

  pub sum-answer : (r : Pair) → r ≡ record { first = both.first; second = both.second; flags = flagged x y (decode binary32 both.first) } → r ≡ sum_pair binary32 x y
  unfolding sum_pair answer
  sum-answer r e = e ∙ same-pair first-is second-part (ap (flagged x y) first-decodes)
