-- The steps on finite values: rounded by one rule or the other, and exact where the exact result is a number of the format.
use mathlib.Core.Path.{◌≡◌, refl, sym, ap, ◌∙◌}
use mathlib.Core.Bool.{Bool, true, false}
use Prim.Native.Nat.{ℕ, suc, ◌+◌, ◌-◌, ◌*◌, ◌^◌, ◌≤◌, ◌<◌}
use native.Mathlib.Nat.{le_refl, le_of_eq, lt_of_le_of_lt, zero-mul, mul-one}
use native.Mathlib.Decide.{dec_le}
use native.Mathlib.Omega.{arith}
use lib.Ieee.{unlike}
use lib.Pow.{pow_pos}
use Rattle.rounding_spec.specs.declared.Ties.{Ties}
use Rattle.rounding_spec.specs.declared.Ties.TheVariants.{ToEven, ToZero}
use Rattle.rounding_spec.specs.Format.{Format, low, limit}
use Rattle.rounding_spec.specs.Round.{rounded}
use Rattle.rounding_spec.specs.Nearest.{dist, Rep, Near, Near0}
use Rattle.rounding_spec.specs.Value.{Value, nan, infinite, finite, is_finite, is_infinite, round_finite, round, RNe}
use Rattle.rounding_spec.proofs.NearLaws.{near-exact}
use Rattle.rounding_spec.proofs.Representable.{rep_zero, rep-lt}
use Rattle.rounding_spec.proofs.RoundValue.{round-below, round-above}
use Rattle.rounding_spec.proofs.Rescaled.{whole-near, whole-near0}
use Rattle.pattern_spec.specs.Exact.{negate, plus, times, finer}
use Rattle.binary32_spec.specs.Steps.{add_value, sub_value, mul_value}
use Rattle.errorfree_spec.proofs.NoNumber.{not-both}
use Rattle.errorfree_spec.proofs.Signed.{Is, rel-own, rel-dist, is-negate, is-shift, is-plus}

-- N units of u * u, rounded to the nearest number of the format, in units of u
abbrev pub to_even : Format → ℕ → ℕ
to_even F N = rounded ToEven F.fraction (low F) N

abbrev pub to_zero : Format → ℕ → ℕ
to_zero F N = rounded ToZero F.fraction (low F) N

-- ---- a whole number n of u, rounded
pub even-at : (F : Format) (n : ℕ) → Near (suc F.fraction) 0 n (to_even F (n * 2 ^ low F))
even-at F n = whole-near ToEven F.fraction (low F) n

pub zero-at : (F : Format) (n : ℕ) → Near0 (suc F.fraction) 0 n (to_zero F (n * 2 ^ low F))
zero-at F n = whole-near0 F.fraction (low F) n

-- ---- exact steps
pub round_whole : (t : Ties) (F : Format) (s : Bool) (a : ℕ) → Rep (suc F.fraction) 0 a → a < limit F → round_finite t F s (a * 2 ^ low F) ≡ finite s a
round_whole t F s a r h =
    let e = near-exact (whole-near t F.fraction (low F) a) r in
    round-below t F s (a * 2 ^ low F) (lt_of_le_of_lt (le_of_eq e) h) ∙ ap (finite s) e

is-rounded : (F : Format) (r : Bool) (v : Value) (p n : ℕ) → Is r v p n → Rep (suc F.fraction) 0 (dist p n) → dist p n < limit F → Is r (RNe F (finer F v)) p n
unfolding finer round
is-rounded F r nan p n h rep lt = absurd h
is-rounded F r (infinite s) p n h rep lt = absurd h
is-rounded F r (finite s m) p n h rep lt = let d = rel-dist r s m p n h in rw (round_whole ToEven F s m (rw d rep) (rw d lt)) h

pub is-add : (F : Format) (r : Bool) (x y : Value) (p n p' n' : ℕ) → Is r x p n → Is r y p' n' → Rep (suc F.fraction) 0 (dist (p + p') (n + n')) → dist (p + p') (n + n') < limit F
    → Is r (add_value F x y) (p + p') (n + n')
unfolding add_value
is-add F r x y p n p' n' h k = is-rounded F r (plus x y) (p + p') (n + n') (is-plus r x y p n p' n' h k)

pub is-sub : (F : Format) (r : Bool) (x y : Value) (p n p' n' : ℕ) → Is r x p n → Is r y p' n' → Rep (suc F.fraction) 0 (dist (p + n') (n + p')) → dist (p + n') (n + p') < limit F
    → Is r (sub_value F x y) (p + n') (n + p')
unfolding sub_value
is-sub F r x y p n p' n' h k = is-add F r x (negate y) p n n' p' h (is-negate r y p' n' k)

-- m units of u, and one less
pub is-one-less : (F : Format) (t : Bool) (m : ℕ) → 0 < m → m ≤ 2 ^ suc F.fraction → m < limit F → Is t (sub_value F (finite t m) (finite t 1)) m 1
is-one-less F t m pos le fine =
    let d : dist (m + 0) (0 + 1) ≡ m - 1 = omega arith in
    let v = sub_value F (finite t m) (finite t 1) in
    is-shift t v (m + 0) (0 + 1) m 1
    (is-sub F t (finite t m) (finite t 1) m 0 1 0 (rel-own t m) (rel-own t 1) (rw d (rep-lt 0 (m - 1) (le_refl 0) (m - 1, sym (mul-one (m - 1))) (omega arith))) (rw d (omega arith)))
    (omega arith)

-- ---- what is finite after rounding rounds to less than the limit, and what is infinite does not
pub fine_of : (F : Format) (s : Bool) (N : ℕ) → is_finite (round_finite ToEven F s N) ≡ true → to_even F N < limit F
fine_of F s N f =
    elim (dec_le (limit F) (to_even F N)) [
      | yes g ↦ not-both (sym f ∙ ap is_finite (round-above ToEven F s N g))
      | no g ↦ omega arith
    ]

pub over-of : (F : Format) (s : Bool) (N : ℕ) → is_infinite (round_finite ToEven F s N) ≡ true → limit F ≤ to_even F N
over-of F s N i =
    elim (dec_le (limit F) (to_even F N)) [
      | yes g ↦ g
      | no g ↦ not-both (sym i ∙ ap is_infinite (round-below ToEven F s N (omega arith)))
    ]

-- ---- products of finite values
pub mul-finite : (F : Format) (s : Bool) (a : ℕ) (t : Bool) (b : ℕ) → mul_value F (finite s a) (finite t b) ≡ round_finite ToEven F (unlike s t) (a * b)
unfolding mul_value times round
mul-finite F s a t b = refl

-- by a positive one
pub mul-positive : (F : Format) (c : ℕ) (t : Bool) (m : ℕ) → mul_value F (finite false c) (finite t m) ≡ round_finite ToEven F t (c * m)
unfolding mul_value times round
mul-positive F c false m = refl
mul-positive F c true m = refl

pub zero-times : (F : Format) (s : Bool) (a : ℕ) → mul_value F (finite false 0) (finite s a) ≡ finite s 0
unfolding limit
zero-times F s a =
    mul-positive F 0 s a ∙ ap (round_finite ToEven F s) (zero-mul a ∙ sym (zero-mul (2 ^ low F)))
    ∙ round_whole ToEven F s 0 rep_zero (pow_pos (suc F.emax + low F))
