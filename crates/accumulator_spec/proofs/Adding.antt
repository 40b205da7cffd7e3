-- One term: when a total accepts it, that the sum is exact and the total fit again, and that a refused term changes nothing.
use mathlib.Core.Path.{◌≡◌, refl, sym, ap, ap₂, ◌∙◌}
use mathlib.Core.Bool.{true≢false, Bool, true, false, not, cond}
use mathlib.Core.List.{List}
use Prim.Native.Nat.{ℕ, zero, suc, ◌+◌, ◌*◌, ◌^◌, ◌≤◌, ◌<◌}
use native.Mathlib.Decide.{dec_le, ℕ_discrete}
use native.Mathlib.Nat.{le_trans, le_of_eq, lt_of_le_of_lt, lt_irrefl, mul-le-mul_right, add-le-add, add-mul, suc-mul}
use native.Mathlib.Omega.{arith}
use borrow.Author.Tests.{le-leb, leb-true, eqb-true, eqb-false, eq-eqb, ne_eqb}
use lib.Dec.{eqb, leb, lit<}
use lib.IntN.{ℤ, pos, negsuc, nat_abs, sub_ℕ, ◌+ℤ◌}
use lib.ListN.{length}
use Rattle.pattern_spec.proofs.Truth.{both_of, refute}
use Rattle.pattern_spec.specs.Answer.{Answer, refused, done}
use Rattle.accumulator_spec.specs.Words.{Words}
use Rattle.pattern_spec.specs.Exact.{whole}
use Rattle.accumulator_spec.specs.Totals.{total_size, most_terms, number, count, sign_word, total_of, within_limits, sign_fits, fit, FitTotal}
use Rattle.accumulator_spec.specs.Totals.{Term, finite_operands, exact_term, term_sign, sign_of_both, adding}
use Rattle.accumulator_spec.specs.Theorems.{FitIs, LowestUnfit, AcceptedTerm, ExactAdding}
use Rattle.accumulator_spec.specs.SignTheorems.{WithinIs, UnfitSigns}
use Rattle.accumulator_spec.proofs.Answers.{adding-done, after-done}
use Rattle.accumulator_spec.proofs.Held.{total-number, total-count, total-sign, total-full, total-words}
use Rattle.accumulator_spec.proofs.Rest.{abs-sub}
use Rattle.accumulator_spec.proofs.Signs.{sign_le, sign_zero, zero-sign, term-sign-zero, minus-zero-sign, minus-zero-whole}
use Rattle.accumulator_spec.proofs.TermBound.{term-bound}

-- ---- magnitudes
sub-magnitude : (a b : ℕ) → nat_abs (sub_ℕ a b) ≤ a + b
sub-magnitude a b = rw (abs-sub a b) (omega arith)

pub sum-magnitude : (y z : ℤ) → nat_abs (y +ℤ z) ≤ nat_abs y + nat_abs z
sum-magnitude (pos a) (pos b) = le_of_eq refl
sum-magnitude (pos a) (negsuc b) = sub-magnitude a (suc b)
sum-magnitude (negsuc a) (pos b) = le_trans (sub-magnitude b (suc a)) (omega arith)
sum-magnitude (negsuc a) (negsuc b) = omega arith

-- the sum of at most 65,536 terms has room
pub sum_room : (m n : ℕ) → n ≤ most_terms → m ≤ n * 2 ^ 554 → m < 2 ^ 639
sum_room m n h l = lt_of_le_of_lt (le_trans l (mul-le-mul_right (2 ^ 554) h)) (lit< {m = most_terms * 2 ^ 554} {n = 2 ^ 639} tt)

-- and one more adds 2 ^ 554 at most
pub one_more : (z : ℤ) (n : ℕ) (x : Term) → nat_abs z ≤ n * 2 ^ 554 → finite_operands x ≡ true → nat_abs (z +ℤ whole (exact_term x)) ≤ suc n * 2 ^ 554
one_more z n x h e = le_trans (sum-magnitude z (whole (exact_term x))) (le_trans (add-le-add h (term-bound x e)) (le_of_eq (sym (suc-mul n (2 ^ 554)))))

-- ---- fit totals
-- a number, a count and a sign word that a fit total has
pub record Fits (z : ℤ) (n w : ℕ) : Type 0 where
  pub few : n ≤ most_terms
  pub small : nat_abs z ≤ n * 2 ^ 554
  pub sign : w ≤ 1
  pub none : w ≡ 0 → z ≡ pos 0
  pub some : w ≡ 1 → 0 < n

pub limits : (t : List ℕ) → within_limits t ≡ true → (count t ≤ most_terms) × (nat_abs (number t) ≤ count t * 2 ^ 554)
limits t e =
    let p = both_of (leb (count t) most_terms) (leb (nat_abs (number t)) (count t * 2 ^ 554)) e in
    (leb-true (count t) most_terms p.0, leb-true (nat_abs (number t)) (count t * 2 ^ 554) p.1)

pub limits-within : (t : List ℕ) → count t ≤ most_terms → nat_abs (number t) ≤ count t * 2 ^ 554 → within_limits t ≡ true
limits-within t h l = rw (le-leb (count t) most_terms h, le-leb (nat_abs (number t)) (count t * 2 ^ 554) l)

no-magnitude : (z : ℤ) → nat_abs z ≡ 0 → z ≡ pos 0
no-magnitude (pos n) e = ap pos e
no-magnitude (negsuc n) e = absurd (omega (arith, e))

pub fit-bounds : (t : List ℕ) → fit t ≡ true → Fits (number t) (count t) (sign_word t)
unfolding fit
fit-bounds t e =
    let p = both_of (within_limits t) (sign_fits t) e in
    let l = limits t p.0 in
    let q = both_of (leb (sign_word t) 1) (cond (eqb (sign_word t) 0) (eqb (nat_abs (number t)) 0) (not (eqb (count t) 0))) p.1 in
    record {
      few = l.0;
      small = l.1;
      sign = leb-true (sign_word t) 1 q.0;
      none = λ (h : sign_word t ≡ 0). no-magnitude (number t) (eqb-true (nat_abs (number t)) 0 (cond-true _ _ _ (eq-eqb (sign_word t) 0 h) q.1));
      some = λ (h : sign_word t ≡ 1). above (count t) (cond-false _ _ _ (ne_eqb (sign_word t) 0 (λ (e : sign_word t ≡ 0). omega (arith, h, e))) q.1);
    }
  where
    cond-true : (c a b : Bool) → c ≡ true → cond c a b ≡ true → a ≡ true
    cond-true c a b e h = rw e at h

    cond-false : (c a b : Bool) → c ≡ false → cond c a b ≡ true → b ≡ true
    cond-false c a b e h = rw e at h

    above : (n : ℕ) → not (eqb n 0) ≡ true → 0 < n
    above zero h = absurd (true≢false (sym h))
    above (suc n) h = omega arith

pub bounds-fit : (t : List ℕ) → Fits (number t) (count t) (sign_word t) → fit t ≡ true
unfolding fit
bounds-fit t f = rw (limits-within t f.few f.small, le-leb (sign_word t) 1 f.sign) (go (sign_word t) f.sign f.none f.some)
  where
    go : (w : ℕ) → w ≤ 1 → (w ≡ 0 → number t ≡ pos 0) → (w ≡ 1 → 0 < count t) → cond (eqb w 0) (eqb (nat_abs (number t)) 0) (not (eqb (count t) 0)) ≡ true
    go zero l none some = eq-eqb (nat_abs (number t)) 0 (ap nat_abs (none refl))
    go (suc zero) l none some = ap not (ne_eqb (count t) 0 (λ e. let h = some refl in omega (arith, e, h)))
    go (suc (suc w)) l none some = absurd (omega (arith, l))

-- the sign word of a total with terms that were not all -0
pub fit-with-terms : (t : List ℕ) → within_limits t ≡ true → sign_word t ≡ 1 → 0 < count t → fit t ≡ true
fit-with-terms t e w h =
    let l = limits t e in
    bounds-fit t (record { few = l.0; small = l.1; sign = le_of_eq w; none = λ (z : sign_word t ≡ 0). absurd (omega (arith, z, w)); some = λ (z : sign_word t ≡ 1). h })

pub fit_is : FitIs
fit_is t = (
  λ e. let f = fit-bounds t e in (f.few, f.small, f.sign, f.none, f.some),
  λ b. bounds-fit t (record { few = b.0; small = b.1; sign = b.2; none = b.3; some = b.4 }),
)

pub lowest-unfit : LowestUnfit
lowest-unfit t e =
    refute (fit t) (λ f. let b = fit-bounds t f in lt_irrefl _ (lt_of_le_of_lt (le_of_eq (sym (ap nat_abs e))) (sum_room (nat_abs (number t)) (count t) b.few b.small)))

pub within-is : WithinIs
within-is t = (limits t, λ b. limits-within t b.0 b.1)

pub unfit-signs : UnfitSigns
unfit-signs t = (
  λ h. refute (fit t) (λ e. let l = (fit-bounds t e).sign in omega (arith, h, l)),
  λ h n. refute (fit t) (λ e. n ((fit-bounds t e).none h)),
  λ h n. refute (fit t) (λ e. let l = (fit-bounds t e).some h in omega (arith, n, l)),
)

-- a total of a number, a count and a sign word that fit
module _ (z : ℤ) (n w : ℕ) (f : Fits z n w) where
  pub held : nat_abs z < 2 ^ 639
  held = sum_room (nat_abs z) n f.few f.small

  pub total-fits : Fits (number (total_of z n w)) (count (total_of z n w)) (sign_word (total_of z n w))
  total-fits = rw (total-number z n w held, total-count z n w, total-sign z n w) f

  pub total-fit : FitTotal (total_of z n w)
  total-fit =
      let few = f.few in
      let sign = f.sign in
      record { full = total-full z n w; words = total-words z n w (omega (arith, few)) (omega (arith, sign)); fits = bounds-fit (total_of z n w) total-fits }

-- one term more, and two totals together
pub fits_more : (z : ℤ) (n w : ℕ) (x : Term) → Fits z n w → n < most_terms → finite_operands x ≡ true
    → Fits (z +ℤ whole (exact_term x)) (suc n) (sign_of_both w (term_sign x))
fits_more z n w x f h e =
    record {
      few = h;
      small = one_more z n x f.small e;
      sign = sign_le w (term_sign x);
      none = λ (k : sign_of_both w (term_sign x) ≡ 0). let p = sign_zero w (term_sign x) k in ap₂ ◌+ℤ◌ (f.none p.0) (minus-zero-whole x p.1);
      some = λ (k : sign_of_both w (term_sign x) ≡ 1). omega arith;
    }

pub fits_both : (y : ℤ) (m v : ℕ) (z : ℤ) (n w : ℕ) → Fits y m v → Fits z n w → m + n ≤ most_terms → Fits (y +ℤ z) (m + n) (sign_of_both v w)
fits_both y m v z n w f g h =
    record {
      few = h;
      small = le_trans (sum-magnitude y z) (le_trans (add-le-add f.small g.small) (le_of_eq (sym (add-mul m n (2 ^ 554)))));
      sign = sign_le v w;
      none = λ (k : sign_of_both v w ≡ 0). let p = sign_zero v w k in ap₂ ◌+ℤ◌ (f.none p.0) (g.none p.1);
      some = λ (k : sign_of_both v w ≡ 1). either f.sign g.sign f.some g.some k;
    }
  where
    below : (u : ℕ) → u ≤ 1 → (u ≡ 1 → ⊥) → u ≡ 0
    below zero l n = refl
    below (suc zero) l n = absurd (n refl)
    below (suc (suc u)) l n = absurd (omega (arith, l))

    either : v ≤ 1 → w ≤ 1 → (v ≡ 1 → 0 < m) → (w ≡ 1 → 0 < n) → sign_of_both v w ≡ 1 → 0 < m + n
    either a b c d k =
        elim (ℕ_discrete v 1) [
          | yes e ↦ let i = c e in omega (arith, i)
          | no e ↦ elim (ℕ_discrete w 1) [
            | yes g ↦ let i = d g in omega (arith, i)
            | no g ↦ let u : v ≡ 0 = below v a e in let u' : w ≡ 0 = below w b g in absurd (let q = zero-sign v w u u' in omega (arith, k, q))
          ]
        ]

-- ---- the four refusals
module _ (a b c d : Bool) where
  abbrev tried : Answer (Unit {0})
  tried = cond (not a) (refused 5) (cond (not b) (refused 6) (cond (not c) (refused 7) (cond d (refused 8) (done tt))))

pub never : {P : Type 0} {n : ℕ} → ◌≡◌ {A = Answer (Unit {0})} (refused n) (done tt) → P
never e = absurd (let z : ◌≡◌ {A = ℕ} 0 1 = cc in omega arith)

none-met : (a b c d : Bool) → tried a b c d ≡ done tt → (a ≡ true) × (b ≡ true) × (c ≡ true) × (d ≡ false)
none-met false b c d e = never e
none-met true false c d e = never e
none-met true true false d e = never e
none-met true true true true e = never e
none-met true true true false e = (refl, refl, refl, refl)

module _ (t : List ℕ) (x : Term) where
  accepted : Words t → adding t x ≡ done tt → FitTotal t × (finite_operands x ≡ true) × (count t < most_terms)
  unfolding adding
  accepted k e =
      let p = none-met (eqb (length t) total_size) (fit t) (finite_operands x) (eqb (count t) most_terms) e in
      let b = (fit-bounds t p.1).few in
      let n = eqb-false (count t) most_terms p.3 in
      let less : count t < most_terms = elim (dec_le most_terms (count t)) [ yes h ↦ absurd (n (omega arith)) | no h ↦ omega arith ] in
      (record { full = eqb-true (length t) total_size p.0; words = k; fits = p.1 }, p.2, less)

  pub accepts : FitTotal t → finite_operands x ≡ true → count t < most_terms → adding t x ≡ done tt
  accepts f e h = adding-done t x f.full f.fits e (λ (q : count t ≡ most_terms). omega arith)

pub accepted-term : AcceptedTerm
accepted-term t x k = (accepted t x k, accepts t x)

pub exact-adding : ExactAdding
exact-adding t x k e =
    let p = accepted t x k e in
    let f = fits_more (number t) (count t) (sign_word t) x (fit-bounds t p.0.fits) p.2 p.1 in
    let z = number t +ℤ whole (exact_term x) in
    let n = suc (count t) in
    let w = sign_of_both (sign_word t) (term_sign x) in
    rw (after-done t x e) (
      total-fit z n w f,
      total-number z n w (held z n w f),
      total-count z n w,
      (
        λ h. let k = sign_zero (sign_word t) (term_sign x) (sym (total-sign z n w) ∙ h) in (k.0, term-sign-zero x k.1),
        λ h. total-sign z n w ∙ zero-sign (sign_word t) (term_sign x) h.0 (minus-zero-sign x h.1),
      ),
    )
