-- The pattern of a NaN result: the first NaN operand with its highest fraction bit set.
use mathlib.Core.Path.{◌≡◌, refl, sym, ap, ◌∙◌}
use mathlib.Core.Logic.{◌≢◌, inl, inr}
use mathlib.Core.Bool.{Bool, true, false, true≢false, cond}
use mathlib.Core.List.{List, [], ◌∷◌, ◌++◌}
use Prim.Native.Nat.{ℕ, suc, ◌+◌, ◌-◌, ◌*◌, ◌/◌, ◌%◌, ◌^◌, ◌≤◌, ◌<◌}
use native.Mathlib.Nat.{mod-lt}
use native.Mathlib.Decide.{dec_le}
use native.Mathlib.Omega.{arith}
use borrow.Author.Tests.{lt-ltb, le-ltb}
use lib.Arith.{digits_mod}
use lib.Dec.{leb, ltb}
use lib.Pow.{pow_pos}
use Rattle.rounding_spec.specs.Format.{Format, Proper, low, limit, infinity, sign_bit}
use Rattle.rounding_spec.specs.declared.Ties.{Ties}
use Rattle.rounding_spec.specs.Round.{rounded}
use Rattle.rounding_spec.specs.Value.{Value, nan, infinite, finite, is_nan, decode, signalling, signed, quiet_nan, default_nan, quieted, nan_of, round_finite}
use Rattle.rounding_spec.specs.Theorems.{NoneNaN, FirstNaN, NaNOfQuiet}
use Rattle.rounding_spec.proofs.Compare.{tri}
use Rattle.rounding_spec.proofs.Codec.{split-sign, decode-quiet, signed-split, unsigned-finite, unsigned-infinite, unsigned-nan}
use Rattle.rounding_spec.proofs.Signalling.{two-halves, c-below, split_at, signalling-range}

-- ---- which patterns are NaN
pub differs : (v : Value) → is_nan v ≡ false → v ≢ nan
differs v n e = true≢false (sym (ap is_nan e) ∙ n)

pub nan_is : (v : Value) → is_nan v ≡ true → v ≡ nan
nan_is nan e = refl
nan_is (infinite s) e = absurd (true≢false (sym e))
nan_is (finite s a) e = absurd (true≢false (sym e))

pub number : (v : Value) → v ≢ nan → is_nan v ≡ false
number nan n = absurd (n refl)
number (infinite s) n = refl
number (finite s a) n = refl

-- a rounded finite number is no NaN
pub rounded-number : (t : Ties) (F : Format) (s : Bool) (N : ℕ) → is_nan (round_finite t F s N) ≡ false
unfolding round_finite
rounded-number t F s N = by (ltb (rounded t F.fraction (low F) N) (limit F))
  where
    by : (b : Bool) → is_nan (cond b (finite s (rounded t F.fraction (low F) N)) (infinite s)) ≡ false
    by true = refl
    by false = refl

-- its bits below the sign are above the infinity's, and no number's are
pub nan-above : (F : Format) (x : ℕ) → decode F x ≡ nan → infinity F < x % sign_bit F
unfolding decode
nan-above F x e =
    let s = leb (sign_bit F) x in
    let c = x % sign_bit F in
    elim (tri c (infinity F)) [
      | inl h ↦ absurd (differs _ (ap is_nan (unsigned-finite F s c h)) e)
      | inr o ↦ elim o [ inl h ↦ absurd (differs _ (ap is_nan (unsigned-infinite F s c h)) e) | inr h ↦ h ]
    ]

pub above-nan : (F : Format) (x : ℕ) → infinity F < x % sign_bit F → decode F x ≡ nan
unfolding decode
above-nan F x h = unsigned-nan F (leb (sign_bit F) x) (x % sign_bit F) h

-- ---- quieting
module _ (F : Format) (ok : Proper F) (x : ℕ) where
  abbrev H : ℕ
  H = 2 ^ (F.fraction - 1)

  abbrev c : ℕ
  c = x % sign_bit F

  pub quieted-is : x < 2 * sign_bit F → decode F x ≡ nan → quieted F x ≡ cond (signalling F x) (x + H) x
  quieted-is w e =
      let h = nan-above F x e in
      let split = split_at F ok.0 x (let z : infinity F ≤ c = omega arith in z) in
      let back : signed F (leb (sign_bit F) x) c ≡ x = signed-split F x w in
      elim (dec_le (infinity F + H) c) [
        | yes g ↦
            let a = (x / sign_bit F * suc (2 * F.emax + 1) + (2 * F.emax + 1)) * 2 in
            let p : x ≡ (a + 1) * H + (c - infinity F - H) = omega (arith, split) in
            let m : x % H ≡ c - infinity F - H = ap (λ (y : ℕ). y % H) p ∙ digits_mod (a + 1) (let z : c - infinity F - H < H = omega (arith, c-below F ok.0 x) in z) in
            let q : signalling F x ≡ false = signalling-range F ok x ∙ rw (lt-ltb (infinity F) c h, le-ltb c (infinity F + H) g) in
            rw q (omega (arith, m, back))
        | no g ↦
            let m : x % H ≡ c - infinity F = ap (λ (y : ℕ). y % H) split ∙ digits_mod _ (let z : c - infinity F < H = omega arith in z) in
            let q : signalling F x ≡ true = signalling-range F ok x ∙ rw (lt-ltb (infinity F) c h, lt-ltb c (infinity F + H) (omega arith)) in
            rw q (omega (arith, m, back))
      ]

-- ---- a quiet NaN of the format
abbrev Quiet : Format → ℕ → Type 0
Quiet F n = (decode F n ≡ nan) × (signalling F n ≡ false) × (n < 2 * sign_bit F)

sign-at-most : (F : Format) (s : Bool) → cond s (sign_bit F) 0 ≤ sign_bit F
sign-at-most F true = omega arith
sign-at-most F false = omega arith

quiet_is : (F : Format) → Proper F → (s : Bool) (p : ℕ) → p < 2 ^ (F.fraction - 1) → Quiet F (quiet_nan F s p)
quiet_is F ok s p h =
    let H = 2 ^ (F.fraction - 1) in
    let c = infinity F + H + p in
    let two = two-halves F ok.0 0 in
    let l : c < sign_bit F = omega arith in
    let m : quiet_nan F s p % sign_bit F ≡ c = (split-sign F c l s).1 in (
      decode-quiet F ok.0 s p h,
      signalling-range F ok (quiet_nan F s p) ∙ rw (m, lt-ltb (infinity F) c (omega (arith, pow_pos (F.fraction - 1))), le-ltb c (infinity F + H) (omega arith)),
      omega (arith, sign-at-most F s),
    )

pub nan-of-quiet : NaNOfQuiet
unfolding nan_of
nan-of-quiet F ok operands = all operands
  where
    chosen : (b : Bool) (m n : ℕ) → Quiet F m → Quiet F n → Quiet F (cond b m n)
    chosen true m n p q = p
    chosen false m n p q = q

    all : (operands : List ℕ) → Quiet F (nan_of F operands)
    all [] = quiet_is F ok false 0 (pow_pos (F.fraction - 1))
    all (x ∷ xs) =
        chosen (is_nan (decode F x)) (quieted F x) (nan_of F xs)
        (quiet_is F ok (leb (sign_bit F) x) (x % 2 ^ (F.fraction - 1)) (mod-lt x (pow_pos (F.fraction - 1)))) (all xs)

-- ---- of which operand it is
pub nan-first : (F : Format) (x : ℕ) (xs : List ℕ) → is_nan (decode F x) ≡ true → nan_of F (x ∷ xs) ≡ quieted F x
unfolding nan_of
nan-first F x xs e = rw e

pub nan-later : (F : Format) (x : ℕ) (xs : List ℕ) → is_nan (decode F x) ≡ false → nan_of F (x ∷ xs) ≡ nan_of F xs
unfolding nan_of
nan-later F x xs n = rw n

-- where the first of two operands is no NaN, their order does not matter
pub nan_swap : (F : Format) (x y : ℕ) → is_nan (decode F x) ≡ false → nan_of F (x ∷ y ∷ []) ≡ nan_of F (y ∷ x ∷ [])
unfolding nan_of
nan_swap F x y n = nan-later F x (y ∷ []) n ∙ ap (λ (d : ℕ). cond (is_nan (decode F y)) (quieted F y) d) (sym (nan-later F x [] n))

pub none-nan : (F : Format) (operands : List ℕ) → NoneNaN F operands → nan_of F operands ≡ default_nan F
unfolding nan_of
none-nan F [] n = refl
none-nan F (x ∷ xs) n = nan-later F x xs (number _ n.0) ∙ none-nan F xs n.1

pub first-nan : FirstNaN
first-nan = (first, λ F operands n. none-nan F operands n ∙ omega arith)
  where
    first : (F : Format) (earlier later : List ℕ) (x : ℕ) → NoneNaN F earlier → decode F x ≡ nan → nan_of F (earlier ++ (x ∷ later)) ≡ quieted F x
    first F [] later x n e = nan-first F x later (ap is_nan e)
    first F (y ∷ ys) later x n e = nan-later F y (ys ++ (x ∷ later)) (number _ n.0) ∙ first F ys later x n.1 e
