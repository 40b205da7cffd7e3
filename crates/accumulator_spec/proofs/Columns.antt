-- Columns of finite terms: every one is accepted, the number is the exact sum, and the order does not matter.
use mathlib.Core.Path.{◌≡◌, refl, sym, ap, ap₂, ◌∙◌}
use mathlib.Core.HLevel.{hedberg}
use mathlib.Core.Logic.{∥∥₁_elim}
use mathlib.Core.Bool.{true}
use mathlib.Core.List.{List, [], ◌∷◌, ◌++◌, Permᴰ, is_set}
use Prim.Native.Nat.{ℕ, suc, ◌+◌, ◌≤◌, ◌<◌}
use native.Mathlib.Decide.{ℕ_discrete}
use native.Mathlib.Nat.{le_trans, le_of_eq, le_refl, add-zero, zero-add}
use native.Mathlib.Omega.{arith}
use lib.IntN.{ℤ, pos, ◌+ℤ◌, +ℤ_idl, +ℤ_idr, +ℤ_assoc, +ℤ_comm}
use lib.ListN.{length}
use Rattle.pattern_spec.specs.Answer.{done}
use Rattle.accumulator_spec.specs.Words.{words_of_natural, words_of_integer}
use Rattle.pattern_spec.specs.Exact.{whole}
use Rattle.accumulator_spec.specs.Totals.{zeros, most_terms, FitTotal, number, count, sign_word, total_of}
use Rattle.accumulator_spec.specs.Totals.{Term, finite_operands, exact_term, term_sign, sign_of_both, adding, after_adding}
use Rattle.accumulator_spec.specs.Columns.{column, Accepted, AllFinite, column_sum, column_sign}
use Rattle.accumulator_spec.specs.Theorems.{ColumnNext, AcceptedEach, AllFiniteIs, ExactColumn, AnyOrder}
use Rattle.accumulator_spec.proofs.Held.{total-number, total-count, total-sign, total-same}
use Rattle.accumulator_spec.proofs.Adding.{Fits, held, total-fit, fits_more, accepts}
use Rattle.accumulator_spec.proofs.Answers.{after-done}
use Rattle.accumulator_spec.proofs.Signs.{sign-assoc, sign-idl, sign-idr, column-sign-le, perm-sign}

-- ---- one term on a total whose number, count and sign word are known
module _ (z : ℤ) (n w : ℕ) (x : Term) (few : n < most_terms) (fits : Fits z n w) (finite : finite_operands x ≡ true) where
  accepted-at : adding (total_of z n w) x ≡ done tt
  accepted-at = accepts (total_of z n w) x (total-fit z n w fits) finite (le_trans (le_of_eq (ap suc (total-count z n w))) few)

  after-at : after_adding (total_of z n w) x ≡ total_of (z +ℤ whole (exact_term x)) (suc n) (sign_of_both w (term_sign x))
  after-at = after-done (total_of z n w) x accepted-at ∙ rw (total-number z n w (held z n w fits), total-count z n w, total-sign z n w)

-- ---- all terms, from any total
pub record Exact (z : ℤ) (n w : ℕ) (xs : List Term) : Type 0 where
  pub accepted : Accepted (total_of z n w) xs
  pub is : column (total_of z n w) xs ≡ total_of (z +ℤ column_sum xs) (n + length xs) (sign_of_both w (column_sign xs))
  pub fits : Fits (z +ℤ column_sum xs) (n + length xs) (sign_of_both w (column_sign xs))

pub exact-from : (xs : List Term) (z : ℤ) (n w : ℕ) → n + length xs ≤ most_terms → Fits z n w → AllFinite xs → Exact z n w xs
unfolding column Accepted AllFinite column_sum column_sign
exact-from [] z n w h l f = let i = sign-idr w l.sign in record { accepted = tt; is = rw (+ℤ_idr z, add-zero n, i); fits = rw (+ℤ_idr z, add-zero n, i) l }
exact-from (x ∷ xs) z n w h l f =
    let y = z +ℤ whole (exact_term x) in
    let few : n < most_terms = omega arith in
    let a = after-at z n w x few l f.0 in
    let r = exact-from xs y (suc n) (sign_of_both w (term_sign x)) (omega arith) (fits_more z n w x l few f.0) f.1 in
    let s : y +ℤ column_sum xs ≡ z +ℤ (whole (exact_term x) +ℤ column_sum xs) = +ℤ_assoc z (whole (exact_term x)) (column_sum xs) in
    let c : suc n + length xs ≡ n + suc (length xs) = omega arith in
    let i = sign-assoc w (term_sign x) (column_sign xs) in
    record {
      accepted = (accepted-at z n w x few l f.0, rw a r.accepted);
      is = ap (λ (t : List ℕ). column t xs) a ∙ r.is ∙ total-same s c i;
      fits = rw (← s, ← c, ← i) r.fits;
    }

-- ---- one term more at the end
column-more : (t : List ℕ) (xs : List Term) (x : Term) → column t (xs ++ (x ∷ [])) ≡ after_adding (column t xs) x
unfolding column
column-more t [] x = refl
column-more t (y ∷ xs) x = column-more (after_adding t y) xs x

pub column-next : ColumnNext
unfolding column
column-next t xs x = (refl, column-more t xs x)

pub accepted-each : AcceptedEach
unfolding Accepted column
accepted-each t [] ys x a = a.0
accepted-each t (z ∷ xs) ys x a = accepted-each (after_adding t z) xs ys x a.1

finite-more : (xs : List Term) (x : Term) → AllFinite xs → finite_operands x ≡ true → AllFinite (xs ++ (x ∷ []))
unfolding AllFinite
finite-more [] x f e = (e, tt)
finite-more (y ∷ xs) x f e = (f.0, finite-more xs x f.1 e)

pub all-finite-is : AllFiniteIs
unfolding AllFinite
all-finite-is xs x = (tt, finite-more xs x)

-- ---- from a cleared total
pub cleared-is : zeros ≡ total_of (pos 0) 0 0
unfolding words_of_natural words_of_integer
cleared-is = refl

pub cleared-fits : Fits (pos 0) 0 0
cleared-fits = record { few = omega arith; small = le_refl 0; sign = omega arith; none = λ e. refl; some = λ e. absurd (omega arith) }

pub exact-column : ExactColumn
exact-column xs h f =
    let z = column_sum xs in
    let n = length xs in
    let w = column_sign xs in
    let s : pos 0 +ℤ z ≡ z = +ℤ_idl z in
    let c : 0 + n ≡ n = zero-add n in
    let i : sign_of_both 0 w ≡ w = sign-idl w (column-sign-le xs) in
    let r = exact-from xs (pos 0) 0 0 (le_trans (le_of_eq c) h) cleared-fits f in
    let fits : Fits z n w = rw (s, c, i) at r.fits in
    let is : column zeros xs ≡ total_of z n w = rw cleared-is (r.is ∙ total-same s c i) in
    let fit : FitTotal (column zeros xs) = rw is (total-fit z n w fits) in (
      rw cleared-is r.accepted,
      is,
      ap number is ∙ total-number z n w (held z n w fits),
      ap (λ (t : List ℕ). count t) is ∙ total-count z n w,
      ap (λ (t : List ℕ). sign_word t) is ∙ total-sign z n w,
      fit,
    )

-- ---- in any order
module _ (x y : Term) (z : ℤ) where
  abbrev a : ℤ
  a = whole (exact_term x)

  abbrev b : ℤ
  b = whole (exact_term y)

  exchanged : a +ℤ (b +ℤ z) ≡ b +ℤ (a +ℤ z)
  exchanged = sym (+ℤ_assoc a b z) ∙ ap (λ (w : ℤ). w +ℤ z) (+ℤ_comm a b) ∙ +ℤ_assoc b a z

perm-sum : {xs ys : List Term} → Permᴰ xs ys → column_sum xs ≡ column_sum ys
unfolding column_sum
perm-sum Permᴰ.nil = refl
perm-sum (Permᴰ.cons e d) = ap₂ (λ (x : Term) (z : ℤ). whole (exact_term x) +ℤ z) e (perm-sum d)
perm-sum (Permᴰ.swap {a = x} {b = y} {l = zs} e g) = exchanged x y (column_sum zs) ∙ ap₂ (λ (u v : Term). whole (exact_term u) +ℤ (whole (exact_term v) +ℤ column_sum zs)) g e
perm-sum (Permᴰ.trans d c) = perm-sum d ∙ perm-sum c

pub perm-length : {xs ys : List Term} → Permᴰ xs ys → length xs ≡ length ys
perm-length Permᴰ.nil = refl
perm-length (Permᴰ.cons e d) = ap suc (perm-length d)
perm-length (Permᴰ.swap e g) = refl
perm-length (Permᴰ.trans d c) = perm-length d ∙ perm-length c

pub perm-finite : {xs ys : List Term} → Permᴰ xs ys → AllFinite xs → AllFinite ys
unfolding AllFinite
perm-finite Permᴰ.nil f = f
perm-finite (Permᴰ.cons e d) f = (rw e at f.0, perm-finite d f.1)
perm-finite (Permᴰ.swap e g) f = (rw g at f.1.0, (rw e at f.0, f.1.1))
perm-finite (Permᴰ.trans d c) f = perm-finite c (perm-finite d f)

pub any_order : AnyOrder
any_order xs ys p h f =
    ∥∥₁_elim p (is_set (hedberg ℕ_discrete) (column zeros xs) (column zeros ys)) (λ (d : Permᴰ xs ys).
    (exact-column xs h f).1 ∙ total-same (perm-sum d) (perm-length d) (perm-sign d) ∙ sym (exact-column ys (le_trans (le_of_eq (sym (perm-length d))) h) (perm-finite d f)).1)
