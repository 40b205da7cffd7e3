-- Sign words: of two together, of columns, and what a term of -0 is.
use mathlib.Core.Path.{◌≡◌, refl, sym, ap, ap₂, ◌∙◌}
use mathlib.Core.Bool.{true≢false, Bool, true, false, cond, ◌&&◌}
use mathlib.Core.List.{List, [], ◌∷◌, ◌++◌, Permᴰ}
use Prim.Native.Nat.{ℕ, zero, suc, ◌≤◌}
use native.Mathlib.Omega.{arith}
use borrow.Author.Tests.{eqb-true, eq-eqb, ne_eqb}
use lib.Dec.{eqb}
use lib.IntN.{pos}
use Rattle.pattern_spec.proofs.Truth.{both_of}
use Rattle.rounding_spec.specs.Value.{Value, nan, infinite, finite}
use Rattle.pattern_spec.specs.Exact.{whole}
use Rattle.accumulator_spec.specs.Totals.{Term, exact_term, is_minus_zero, term_sign, sign_of_both}
use Rattle.accumulator_spec.specs.Columns.{AllMinusZero, column_sign}
use Rattle.accumulator_spec.specs.SignTheorems.{SignOfBothIs}

-- ---- of two
-- by whether the words are 0
abbrev signed : Bool → ℕ
signed p = cond p 0 1

shown : (p : Bool) → eqb (signed p) 0 ≡ p
shown true = refl
shown false = refl

signed_le : (p : Bool) → signed p ≤ 1
signed_le true = omega arith
signed_le false = omega arith

pub sign_le : (v w : ℕ) → sign_of_both v w ≤ 1
sign_le v w = signed_le (eqb v 0 && eqb w 0)

pub sign_zero : (v w : ℕ) → sign_of_both v w ≡ 0 → (v ≡ 0) × (w ≡ 0)
sign_zero v w e =
    let p = both_of (eqb v 0) (eqb w 0) (sym (shown (eqb v 0 && eqb w 0)) ∙ eq-eqb (sign_of_both v w) 0 e) in
    (eqb-true v 0 p.0, eqb-true w 0 p.1)

pub zero-sign : (v w : ℕ) → v ≡ 0 → w ≡ 0 → sign_of_both v w ≡ 0
zero-sign v w e f = ap₂ sign_of_both e f

pub sign-of-both-is : SignOfBothIs
sign-of-both-is v w = ((sign_zero v w, λ h. zero-sign v w h.0 h.1), sign_le v w)

pub sign-assoc : (u v w : ℕ) → sign_of_both (sign_of_both u v) w ≡ sign_of_both u (sign_of_both v w)
sign-assoc u v w = rw (shown (eqb u 0 && eqb v 0), shown (eqb v 0 && eqb w 0)) (go (eqb u 0) (eqb v 0) (eqb w 0))
  where
    go : (a b c : Bool) → signed ((a && b) && c) ≡ signed (a && (b && c))
    go true b c = refl
    go false b c = refl

pub sign-comm : (v w : ℕ) → sign_of_both v w ≡ sign_of_both w v
sign-comm v w = go (eqb v 0) (eqb w 0)
  where
    go : (a b : Bool) → signed (a && b) ≡ signed (b && a)
    go true true = refl
    go true false = refl
    go false true = refl
    go false false = refl

pub sign-idl : (w : ℕ) → w ≤ 1 → sign_of_both 0 w ≡ w
sign-idl zero h = refl
sign-idl (suc zero) h = refl
sign-idl (suc (suc w)) h = absurd (omega (arith, h))

pub sign-idr : (w : ℕ) → w ≤ 1 → sign_of_both w 0 ≡ w
sign-idr w h = sign-comm w 0 ∙ sign-idl w h

pub is_one : (w : ℕ) → w ≤ 1 → (w ≡ 0 → ⊥) → w ≡ 1
is_one zero h n = absurd (n refl)
is_one (suc zero) h n = refl
is_one (suc (suc w)) h n = absurd (omega (arith, h))

-- with a word that is not 0
pub sign-one : (v w : ℕ) → (w ≡ 0 → ⊥) → sign_of_both v w ≡ 1
sign-one v w n = ap (λ (b : Bool). signed (eqb v 0 && b)) (ne_eqb w 0 n) ∙ go (eqb v 0)
  where
    go : (a : Bool) → signed (a && false) ≡ 1
    go true = refl
    go false = refl

-- ---- of a term
pub minus-zero-value : (v : Value) → is_minus_zero v ≡ true → v ≡ finite true 0
minus-zero-value nan e = absurd (true≢false (sym e))
minus-zero-value (infinite s) e = absurd (true≢false (sym e))
minus-zero-value (finite s a) e = let p = both_of s (eqb a 0) e in ap₂ finite p.0 (eqb-true a 0 p.1)

pub term-sign-zero : (x : Term) → term_sign x ≡ 0 → is_minus_zero (exact_term x) ≡ true
term-sign-zero x e = go (is_minus_zero (exact_term x)) e
  where
    go : (b : Bool) → signed b ≡ 0 → b ≡ true
    go b e = sym (shown b) ∙ eq-eqb (signed b) 0 e

pub minus-zero-sign : (x : Term) → is_minus_zero (exact_term x) ≡ true → term_sign x ≡ 0
minus-zero-sign x e = rw e

-- a term of -0 leaves the number
pub minus-zero-whole : (x : Term) → term_sign x ≡ 0 → whole (exact_term x) ≡ pos 0
minus-zero-whole x e = ap whole (minus-zero-value (exact_term x) (term-sign-zero x e))

-- ---- of a column
pub column-sign-le : (xs : List Term) → column_sign xs ≤ 1
unfolding column_sign
column-sign-le [] = omega arith
column-sign-le (x ∷ xs) = sign_le (term_sign x) (column_sign xs)

pub column-sign-zero : (xs : List Term) → column_sign xs ≡ 0 → AllMinusZero xs
unfolding column_sign AllMinusZero
column-sign-zero [] e = tt
column-sign-zero (x ∷ xs) e = let p = sign_zero (term_sign x) (column_sign xs) e in (term-sign-zero x p.0, column-sign-zero xs p.1)

pub all-minus-zero-sign : (xs : List Term) → AllMinusZero xs → column_sign xs ≡ 0
unfolding column_sign AllMinusZero
all-minus-zero-sign [] m = refl
all-minus-zero-sign (x ∷ xs) m = zero-sign (term_sign x) (column_sign xs) (minus-zero-sign x m.0) (all-minus-zero-sign xs m.1)

pub both-signs : (xs ys : List Term) → column_sign (xs ++ ys) ≡ sign_of_both (column_sign xs) (column_sign ys)
unfolding column_sign
both-signs [] ys = sym (sign-idl (column_sign ys) (column-sign-le ys))
both-signs (x ∷ xs) ys = ap (sign_of_both (term_sign x)) (both-signs xs ys) ∙ sym (sign-assoc (term_sign x) (column_sign xs) (column_sign ys))

exchanged : (u v w : ℕ) → sign_of_both u (sign_of_both v w) ≡ sign_of_both v (sign_of_both u w)
exchanged u v w = sym (sign-assoc u v w) ∙ ap (λ (k : ℕ). sign_of_both k w) (sign-comm u v) ∙ sign-assoc v u w

pub perm-sign : {xs ys : List Term} → Permᴰ xs ys → column_sign xs ≡ column_sign ys
unfolding column_sign
perm-sign Permᴰ.nil = refl
perm-sign (Permᴰ.cons e d) = ap₂ (λ (x : Term) (w : ℕ). sign_of_both (term_sign x) w) e (perm-sign d)
perm-sign (Permᴰ.swap {a = x} {b = y} {l = zs} e g) =
    exchanged (term_sign x) (term_sign y) (column_sign zs) ∙ ap₂ (λ (u v : Term). sign_of_both (term_sign u) (sign_of_both (term_sign v) (column_sign zs))) g e
perm-sign (Permᴰ.trans d c) = perm-sign d ∙ perm-sign c
