-- Reading a total: the halves of a fit one, of a column, a zero total, and one that is rounded to zero.
use mathlib.Core.Path.{◌≡◌, refl, sym, ap, ap₂, ◌∙◌, subst}
use mathlib.Core.Logic.{◌⊎◌, ◌≢◌, inl, inr}
use mathlib.Core.Bool.{Bool, true, false, not, cond, ◌&&◌}
use mathlib.Core.List.{List}
use Prim.Native.Nat.{ℕ, zero, suc, ◌*◌, ◌^◌, ◌≤◌, ◌<◌}
use native.Mathlib.Decide.{ℕ_discrete}
use native.Mathlib.Nat.{le_trans, le_of_eq}
use native.Mathlib.Omega.{arith}
use borrow.Author.Tests.{ne_eqb}
use lib.Dec.{eqb}
use lib.Ieee.{size, unlike}
use lib.IntN.{ℤ, pos, ◌+ℤ◌}
use lib.Pow.{pow_pos}
use Rattle.rounding_spec.specs.declared.Ties.TheVariants.{ToZero}
use Rattle.rounding_spec.specs.Format.{binary32, limit}
use Rattle.rounding_spec.specs.Round.{keep, last_place, rounded}
use Rattle.rounding_spec.specs.Value.{Value, finite, bits, encode, round, RN0}
use Rattle.rounding_spec.proofs.Rounded.{rounded-none, rounded-mono}
use Rattle.rounding_spec.proofs.RoundValue.{round-fits}
use Rattle.pattern_spec.specs.Exact.{negate, plus, whole, int, finer}
use Rattle.augmented_spec.specs.Pairs.{rest, zero_takes, second_of, pair_of}
use Rattle.augmented_spec.proofs.Second.{head, tail, up, tail-le, first-finite, pair-second}
use Rattle.accumulator_spec.specs.Totals.{zeros, number, count, sign_word, FitTotal, pair_read, exact_number, exact_total, pair_answer, reading}
use Rattle.accumulator_spec.specs.Columns.{column}
use Rattle.accumulator_spec.specs.Theorems.{ReadFit, ReadColumn, ReadZero, ReadRoundedToZero, ReadFinite}
use Rattle.accumulator_spec.proofs.Answers.{reading-pair}
use Rattle.accumulator_spec.proofs.Adding.{Fits, fit-bounds}
use Rattle.accumulator_spec.proofs.Signs.{is_one}
use Rattle.accumulator_spec.proofs.Columns.{exact-column}
use Rattle.accumulator_spec.proofs.Rest.{exact-int, rest-whole}
use Rattle.accumulator_spec.proofs.TotalPair.{zero-taken}

-- ---- what is rounded
-- the number, where the sign word is not 0 or there is no term
pub exact-number : (z : ℤ) (n w : ℕ) → (w ≡ 1) ⊎ (n ≡ 0) → exact_total z n w ≡ exact_number z
exact-number z n w (inl e) = rw e
exact-number z n w (inr e) = rw e (go (eqb w 0))
  where
    go : (b : Bool) → cond (b && false) (finite true 0) (exact_number z) ≡ exact_number z
    go true = refl
    go false = refl

-- -0, where it is 0 and there is one
pub exact-minus : (z : ℤ) (n w : ℕ) → w ≡ 0 → 0 < n → exact_total z n w ≡ finite true 0
exact-minus z n w e h = rw (e, ne_eqb n 0 (λ (k : n ≡ 0). omega arith))

-- the number, where it is not 0
pub exact-some : (z : ℤ) (n w : ℕ) → Fits z n w → z ≢ pos 0 → exact_total z n w ≡ exact_number z
exact-some z n w f h = rw (ne_eqb w 0 (λ (e : w ≡ 0). h (f.none e)))

read-exact : (t : List ℕ) → FitTotal t → reading t ≡ pair_answer (pair_of binary32 (exact_total (number t) (count t) (sign_word t)))
read-exact t f = reading-pair t f.full f.fits

pub read-fit : ReadFit
read-fit t f = (
  read-exact t f,
  λ h. read-exact t f ∙ ap (λ v. pair_answer (pair_of binary32 v)) (exact-number (number t) (count t) (sign_word t) h),
  λ e h. read-exact t f ∙ ap (λ v. pair_answer (pair_of binary32 v)) (exact-minus (number t) (count t) (sign_word t) e h),
)

-- a number that is not 0
pub read_some : (t : List ℕ) → FitTotal t → number t ≢ pos 0 → reading t ≡ pair_answer (pair_of binary32 (exact_number (number t)))
read_some t f n = read-exact t f ∙ ap (λ v. pair_answer (pair_of binary32 v)) (exact-some (number t) (count t) (sign_word t) (fit-bounds t f.fits) n)

pub read-column : ReadColumn
read-column xs h f =
    let c = exact-column xs h f in
    read-exact (column zeros xs) c.5 ∙ rw (c.2, c.3, c.4)

-- a number whose head is zero reads a zero of its sign twice
module _ (s : Bool) (N : ℕ) (none : head binary32 s N ≡ 0) where
  vanished : pair_answer (pair_of binary32 (finite s N)) ≡ pair_read (encode binary32 (finite s 0)) (encode binary32 (finite s 0))
  unfolding limit
  vanished =
      let below : head binary32 s N < limit binary32 = rw none (pow_pos 277) in
      let empty : tail binary32 s N ≡ 0 = omega (arith, tail-le binary32 s N) in
      ap₂ (λ (v w : Value). pair_read (encode binary32 v) (encode binary32 w))
      (first-finite binary32 s N below ∙ ap (finite s) none)
      (pair-second binary32 s N below ∙ ap (λ (m : ℕ). finite (cond (eqb m 0) s (unlike s (up binary32 s N))) m) empty)

pub minus-read : pair_answer (pair_of binary32 (finite true 0)) ≡ pair_read 0x8000_0000 0x8000_0000
unfolding encode bits size
minus-read = vanished true 0 (rounded-none ToZero 23 149)

pub plus-read : pair_answer (pair_of binary32 (exact_number (pos 0))) ≡ pair_read 0 0
unfolding encode bits size
plus-read = vanished false 0 (rounded-none ToZero 23 149)

pub read-zero : ReadZero
read-zero t f e =
    let plus : (sign_word t ≡ 1) ⊎ (count t ≡ 0) → reading t ≡ pair_read 0 0 = λ (h : (sign_word t ≡ 1) ⊎ (count t ≡ 0)).
    (read-fit t f).1 h ∙ ap (λ z. pair_answer (pair_of binary32 (exact_number z))) e ∙ plus-read in
    let small = (fit-bounds t f.fits).sign in (
      λ h w. (read-fit t f).2 w h ∙ minus-read,
      λ n. plus (inl (is_one (sign_word t) small n)),
      λ n. plus (inr n),
    )

-- a magnitude above 0 is not the number 0
pub int-some : (s : Bool) (N : ℕ) → int s (suc N) ≡ pos 0 → ⊥
int-some false N e = let z : suc N ≡ 0 = cc in omega arith
int-some true N e = let z : ◌≡◌ {A = ℕ} 0 1 = cc in omega arith

-- half of u is a tie, which goes to zero
half : rounded ToZero 23 149 (2 ^ 148) ≡ 0
unfolding rounded keep last_place size
half = refl

pub read-rounded-to-zero : ReadRoundedToZero
read-rounded-to-zero t s N f e h =
    let none : head binary32 s (suc N) ≡ 0 = le-zero (le_trans (rounded-mono ToZero 23 149 (suc N) (2 ^ 148) h) (le_of_eq half)) in
    read_some t f (λ z. int-some s N (sym e ∙ z)) ∙ ap (λ z. pair_answer (pair_of binary32 (exact_number z))) e
    ∙ ap (λ v. pair_answer (pair_of binary32 v)) (exact-int s (suc N) (λ z. absurd (omega arith))) ∙ vanished s (suc N) none
  where
    le-zero : {n : ℕ} → n ≤ 0 → n ≡ 0
    le-zero h = omega arith

-- ---- the halves, where first is finite
-- the rest is that of the number: of -0, which is -0 rounded, +0 is left
rest-minus : (v : Value) → finite true 0 ≡ v → rest binary32 (finite true 0) v ≡ exact_number (pos 0 +ℤ whole (negate (finer binary32 v)))
unfolding rest negate finer plus
rest-minus v e = subst (λ (u : Value). rest binary32 (finite true 0) u ≡ exact_number (pos 0 +ℤ whole (negate (finer binary32 u)))) e refl

rest-total : (z : ℤ) (n w : ℕ) → Fits z n w → (s : Bool) (a : ℕ) → RN0 binary32 (exact_total z n w) ≡ finite s a
    → rest binary32 (exact_total z n w) (finite s a) ≡ exact_number (z +ℤ int (not s) (a * 2 ^ 149))
unfolding negate finer limit pair_of
rest-total z n w f s a e =
    elim (ℕ_discrete n 0) [
      | yes h ↦ ap (λ (v : Value). rest binary32 v (finite s a)) (exact-number z n w (inr h)) ∙ rest-whole z s a
      | no h ↦ elim (ℕ_discrete w 0) [
        | yes k ↦ let m = exact-minus z n w k (above n h) in
            ap (λ (v : Value). rest binary32 v (finite s a)) m ∙ rest-minus (finite s a) (sym minus-rounded ∙ sym (ap (RN0 binary32) m) ∙ e)
            ∙ ap (λ (y : ℤ). exact_number (y +ℤ int (not s) (a * 2 ^ 149))) (sym (f.none k))
        | no k ↦ ap (λ (v : Value). rest binary32 v (finite s a)) (exact-number z n w (inl (is_one w f.sign k))) ∙ rest-whole z s a
      ]
    ]
  where
    minus-rounded : RN0 binary32 (finite true 0) ≡ finite true 0
    minus-rounded = first-finite binary32 true 0 (rw (rounded-none ToZero 23 149) (pow_pos 277)) ∙ ap (finite true) (rounded-none ToZero 23 149)

    above : (n : ℕ) → (n ≡ 0 → ⊥) → 0 < n
    above zero h = absurd (h refl)
    above (suc n) h = omega arith

pub read-finite : ReadFinite
unfolding pair_of second_of
read-finite t s a f e =
    let v = exact_number (number t +ℤ int (not s) (a * 2 ^ 149)) in
    let x = exact_total (number t) (count t) (sign_word t) in
    read-exact t f
    ∙ ap₂ pair_read (ap (encode binary32) e)
    (ap (λ (w : Value). encode binary32 (second_of binary32 x w)) e
    ∙ ap (λ (w : Value). encode binary32 (zero_takes s (round ToZero binary32 w))) (rest-total (number t) (count t) (sign_word t) (fit-bounds t f.fits) s a e)
    ∙ sym (zero-taken s (round ToZero binary32 v) (round-fits ToZero binary32 v)))
