-- The direct pair where an operand is NaN or infinite.
use mathlib.Core.Path.{◌≡◌, refl, ap, ap₂, ◌∙◌}
use mathlib.Core.Logic.{◌⊎◌, ◌≢◌, inl, inr}
use mathlib.Core.Bool.{Bool, true, false, not, cond, ◌||◌, not-not}
use mathlib.Core.List.{[], ◌∷◌}
use Prim.Native.Nat.{ℕ, ◌*◌, ◌<◌}
use borrow.Author.Tests.{ne_eqb}
use lib.Ieee.{unlike}
use Rattle.rounding_spec.specs.Format.{Format, Proper, sign_bit}
use Rattle.rounding_spec.specs.Value.{Value, nan, infinite, finite, decode, is_nan, signalling, default_nan, nan_of}
use Rattle.rounding_spec.proofs.NaN.{differs, number, nan-first, nan-later, none-nan}
use Rattle.pattern_spec.specs.Exact.{negate, plus, times, finer}
use Rattle.pattern_spec.proofs.Classified.{decode-flip}
use Rattle.pattern_spec.proofs.Exchanged.{plus_comm}
use Rattle.augmented_spec.specs.Pairs.{flags_of}
use Rattle.augmented_spec.specs.declared.Operation.{Operation}
use Rattle.augmented_spec.specs.declared.Operation.TheVariants.{Sum as sum, Difference as difference, Product as product}
use Rattle.augmented_spec.specs.Direct.{direct_pair, none, I}
use Rattle.augmented_spec.specs.Theorems.{Twice, second_operand, NaNOperand, OppositeInfinities, ZeroTimesInfinity, InfiniteOperand}
use Rattle.augmented_spec.proofs.Read.{exact_for}
use Rattle.augmented_spec.proofs.FlagSets.{times-nan}
use Rattle.augmented_spec.proofs.Answered.{same-pair}
use Rattle.augmented_spec.proofs.Flipped.{signalling-flipped}
use Rattle.augmented_spec.proofs.SpecialResults.{on_values, exact-is, nan-pair, infinite-pair, invalid-operand, invalid-new}

-- ---- a NaN operand
nan_left : (o : Operation) (F : Format) (w : Value) → on_values o F nan w ≡ nan
unfolding plus times finer
nan_left sum F w = refl
nan_left difference F w = refl
nan_left product F w = refl

nan_right : (o : Operation) (F : Format) (v : Value) → on_values o F v nan ≡ nan
unfolding plus finer
nan_right sum F v = ap (finer F) (plus_comm nan v)
nan_right difference F v = ap (finer F) (plus_comm nan v)
nan_right product F v = times-nan v

taken-nan : (o : Operation) (F : Format) (y : ℕ) → y < 2 * sign_bit F → decode F y ≡ nan → decode F (second_operand o F y) ≡ nan
unfolding negate
taken-nan sum F y w e = e
taken-nan difference F y w e = decode-flip F y w ∙ ap negate e
taken-nan product F y w e = e

pub taken-signalling : (o : Operation) (F : Format) → 0 < F.fraction → (y : ℕ) → y < 2 * sign_bit F → signalling F (second_operand o F y) ≡ signalling F y
taken-signalling sum F pos y w = refl
taken-signalling difference F pos y w = signalling-flipped F pos y w
taken-signalling product F pos y w = refl

flags-nan : (b : Bool) → flags_of b false false ≡ cond b I none
flags-nan true = refl
flags-nan false = refl

nan-twice : (o : Operation) (F : Format) → Proper F → (x y : ℕ) → y < 2 * sign_bit F → (decode F x ≡ nan) ⊎ (decode F y ≡ nan)
    → Twice (direct_pair o F x y) (nan_of F (x ∷ second_operand o F y ∷ [])) (cond (signalling F x || signalling F y) I none)
nan-twice o F ok x y w c =
    let d : (decode F x ≡ nan) ⊎ (decode F (second_operand o F y) ≡ nan) = elim c [ inl e ↦ inl e | inr e ↦ inr (taken-nan o F y w e) ] in
    let v = decode F (second_operand o F y) in
    let n : on_values o F (decode F x) v ≡ nan =
    elim d [ inl e ↦ ap (λ (k : Value). on_values o F k v) e ∙ nan_left o F v | inr e ↦ ap (on_values o F (decode F x)) e ∙ nan_right o F (decode F x) ] in
    let i = invalid-operand F x (second_operand o F y) d ∙ ap (λ (b : Bool). signalling F x || b) (taken-signalling o F ok.0 y w) in
    nan-pair o F x y _ (exact-is o F x y ∙ n) i ∙ same-pair refl refl (flags-nan (signalling F x || signalling F y))

pub nan-operand : NaNOperand
nan-operand o F ok x y w = (
  λ e. nan-twice o F ok x y w (inl e) ∙ same-pair (nan-first F x (z ∷ []) (ap is_nan e)) (nan-first F x (z ∷ []) (ap is_nan e)) refl,
  λ n e.
      let is = nan-later F x (z ∷ []) (number (decode F x) n) ∙ nan-first F z [] (ap is_nan (taken-nan o F y w e)) in
      nan-twice o F ok x y w (inr e) ∙ same-pair is is refl,
)
  where
    z : ℕ
    z = second_operand o F y

-- ---- NaN from infinities
opposite-sum : (s : Bool) → plus (infinite s) (infinite (not s)) ≡ nan
unfolding plus
opposite-sum true = refl
opposite-sum false = refl

-- of operands x and y that are not NaN
nan-from-others : (o : Operation) (F : Format) (x y : ℕ) → exact_for o F x y ≡ nan → is_nan (decode F x) ≡ false → is_nan (decode F (second_operand o F y)) ≡ false
    → Twice (direct_pair o F x y) (default_nan F) I
nan-from-others o F x y e m n =
    let is = none-nan F (x ∷ second_operand o F y ∷ []) (differs (decode F x) m, (differs (decode F (second_operand o F y)) n, tt)) in
    nan-pair o F x y true e (invalid-new F x (second_operand o F y) m n) ∙ same-pair is is refl

pub opposite-infinities : OppositeInfinities
unfolding finer negate
opposite-infinities F x y w s e = (
  λ f. nan-from-others sum F x y (ap (finer F) (ap₂ plus e f ∙ opposite-sum s)) (ap is_nan e) (ap is_nan f),
  λ f.
      let g = decode-flip F y w ∙ ap negate f in
      nan-from-others difference F x y (ap (finer F) (ap₂ plus e g ∙ opposite-sum s)) (ap is_nan e) (ap is_nan g),
)

pub zero-times-infinity : ZeroTimesInfinity
unfolding times
zero-times-infinity F x y s t e f = (
  nan-from-others product F x y (ap₂ times e f) (ap is_nan e) (ap is_nan f),
  nan-from-others product F y x (ap₂ times f e) (ap is_nan f) (ap is_nan e),
)

-- ---- an infinity
infinite-sum : (s : Bool) (w : Value) → w ≢ nan → w ≢ infinite (not s) → plus (infinite s) w ≡ infinite s
unfolding plus
infinite-sum s nan n o = absurd (n refl)
infinite-sum true (infinite true) n o = refl
infinite-sum true (infinite false) n o = absurd (o refl)
infinite-sum false (infinite true) n o = absurd (o refl)
infinite-sum false (infinite false) n o = refl
infinite-sum s (finite t b) n o = refl

infinite-difference : (s : Bool) (w : Value) → w ≢ nan → w ≢ infinite s → plus (infinite s) (negate w) ≡ infinite s
unfolding plus negate
infinite-difference s nan n o = absurd (n refl)
infinite-difference true (infinite true) n o = absurd (o refl)
infinite-difference true (infinite false) n o = refl
infinite-difference false (infinite true) n o = refl
infinite-difference false (infinite false) n o = absurd (o refl)
infinite-difference s (finite t b) n o = refl

unlike-comm : (s t : Bool) → unlike t s ≡ unlike s t
unlike-comm true true = refl
unlike-comm true false = refl
unlike-comm false true = refl
unlike-comm false false = refl

infinite-product : (s : Bool) (w : Value) (t : Bool) (b : ℕ) → (w ≡ infinite t) ⊎ ((w ≡ finite t b) × (b ≢ 0))
    → (times (infinite s) w ≡ infinite (unlike s t)) × (times w (infinite s) ≡ infinite (unlike s t))
unfolding times
infinite-product s w t b (inl e) = rw e (refl, ap infinite (unlike-comm s t))
infinite-product s w t b (inr e) = rw (e.0, ne_eqb b 0 e.1) (refl, ap infinite (unlike-comm s t))

pub infinite-operand : InfiniteOperand
unfolding finer negate
infinite-operand F x y v w s e n = (
  λ o.
      let g : plus (decode F x) (decode F y) ≡ infinite s = ap (λ (k : Value). plus k (decode F y)) e ∙ infinite-sum s (decode F y) n o in
      (infinite-pair sum F x y s (ap (finer F) g), infinite-pair sum F y x s (ap (finer F) (plus_comm (decode F x) (decode F y) ∙ g))),
  λ o. (
    infinite-pair difference F x y s (ap (finer F) (ap₂ plus e (decode-flip F y w) ∙ infinite-difference s (decode F y) n o)),
    infinite-pair difference F y x (not s) (ap (finer F) (ap (plus (decode F y)) (decode-flip F x v ∙ ap negate e) ∙ plus_comm (infinite (not s)) (decode F y)
        ∙ infinite-sum (not s) (decode F y) n (rw (not-not s) o))),
  ),
  λ t b h.
      let p = infinite-product s (decode F y) t b h in
      (infinite-pair product F x y (unlike s t) (ap (λ (k : Value). times k (decode F y)) e ∙ p.0), infinite-pair product F y x (unlike s t) (ap (times (decode F y)) e ∙ p.1)),
)
