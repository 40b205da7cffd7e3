-- S and its sign word, by one call more.
use mathlib.Core.Path.{◌≡◌, refl, sym, ap, ap₂, ◌∙◌}
use mathlib.Core.Logic.{◌↔◌}
use mathlib.Core.Bool.{true≢false, Bool, true, false, cond, ◌&&◌}
use mathlib.Core.List.{List, [], ◌∷◌, ◌++◌}
use Prim.Native.Nat.{ℕ, zero, suc, ◌≤◌}
use native.Mathlib.Omega.{arith}
use lib.Dec.{eqb}
use lib.IntN.{ℤ, pos, ◌+ℤ◌, +ℤ_idr, +ℤ_idl, +ℤ_assoc}
use Rattle.rounding_spec.specs.Format.{binary32}
use Rattle.rounding_spec.specs.Value.{Value, nan, infinite, finite, decode}
use Rattle.pattern_spec.specs.Exact.{whole}
use Rattle.augmented_spec.specs.declared.Operation.{Operation}
use Rattle.augmented_spec.specs.Direct.{exact_result}
use Rattle.accumulator_spec.specs.Totals.{sign_of_both}
use Rattle.accumulator_spec.proofs.Signs.{sign_zero, zero-sign, sign-assoc, sign-idl, sign-idr, column-sign-zero, all-minus-zero-sign}
use Rattle.conservation_spec.specs.Lists.{Posed, sheet_for, operation_for, enters, foot_terms, set_terms, Event, asks, reads, adds}
use Rattle.conservation_spec.specs.Lists.{book, exact_of_patterns, minus_zeros, sign_of_values, sign_of_patterns, book_sign}
use Rattle.conservation_spec.specs.Theorems.{BookNext, BookSignNext, QuestionSign, BookOfMinusZeros}
use Rattle.conservation_spec.proofs.Signs.{exact_none}
use Rattle.conservation_spec.proofs.Entering.{entering}

pub book-append : (es fs : List Event) → book (es ++ fs) ≡ book es +ℤ book fs
unfolding book
book-append [] fs = sym (+ℤ_idl (book fs))
book-append (asks q ∷ es) fs =
    let z = cond (enters q) (exact_of_patterns (operation_for q) q.x q.y) (pos 0) in ap (λ (k : ℤ). z +ℤ k) (book-append es fs) ∙ sym (+ℤ_assoc z (book es) (book fs))
book-append (reads side ∷ es) fs = book-append es fs
book-append (adds side x ∷ es) fs = book-append es fs

pub book-next : BookNext
unfolding book
book-next = (
  refl,
  λ es q s t a b e left right. book-append es (asks q ∷ []) ∙ ap (λ (k : ℤ). book es +ℤ k) (rw (e, left, right) (+ℤ_idr _)),
  λ es q e. book-append es (asks q ∷ []) ∙ rw e (+ℤ_idr _),
  λ es side. book-append es (reads side ∷ []) ∙ +ℤ_idr _,
  λ es side x. book-append es (adds side x ∷ []) ∙ +ℤ_idr _,
)

-- ---- its sign word
pub book-sign-le : (es : List Event) → book_sign es ≤ 1
unfolding book_sign
book-sign-le [] = omega arith
book-sign-le (asks q ∷ es) = go (enters q && eqb (sign_of_patterns (operation_for q) q.x q.y) 1) (book_sign es) (book-sign-le es)
  where
    go : (b : Bool) (n : ℕ) → n ≤ 1 → cond b 1 n ≤ 1
    go true n h = omega arith
    go false n h = h
book-sign-le (reads side ∷ es) = book-sign-le es
book-sign-le (adds side x ∷ es) = book-sign-le es

-- a question's is 0 or 1
values-sign-le : (o : Operation) (v w : Value) → sign_of_values o v w ≤ 1
values-sign-le o (finite s a) (finite t b) = go (minus_zeros o s a t b)
  where
    go : (p : Bool) → cond p 0 1 ≤ 1
    go true = omega arith
    go false = omega arith
values-sign-le o (finite s a) (infinite t) = omega arith
values-sign-le o (finite s a) nan = omega arith
values-sign-le o (infinite s) w = omega arith
values-sign-le o nan w = omega arith

-- together with those after it, as the sign words of two totals go together
pub sign-asks : (q : Posed) (es : List Event) → book_sign (asks q ∷ es) ≡ sign_of_both (cond (enters q) (sign_of_patterns (operation_for q) q.x q.y) 0) (book_sign es)
unfolding book_sign
sign-asks q es =
    go (enters q) (sign_of_patterns (operation_for q) q.x q.y) (book_sign es) (values-sign-le (operation_for q) (decode binary32 q.x) (decode binary32 q.y)) (book-sign-le es)
  where
    go : (e : Bool) (w b : ℕ) → w ≤ 1 → b ≤ 1 → cond (e && eqb w 1) 1 b ≡ sign_of_both (cond e w 0) b
    go false w b h k = sym (sign-idl b k)
    go true zero b h k = sym (sign-idl b k)
    go true (suc zero) b h k = refl
    go true (suc (suc w)) b h k = absurd (omega (arith, h))

pub sign-append : (es fs : List Event) → book_sign (es ++ fs) ≡ sign_of_both (book_sign es) (book_sign fs)
unfolding book_sign
sign-append [] fs = sym (sign-idl (book_sign fs) (book-sign-le fs))
sign-append (asks q ∷ es) fs =
    let w = cond (enters q) (sign_of_patterns (operation_for q) q.x q.y) 0 in
    sign-asks q (es ++ fs) ∙ ap (sign_of_both w) (sign-append es fs) ∙ sym (sign-assoc w (book_sign es) (book_sign fs)) ∙ ap (λ (v : ℕ). sign_of_both v (book_sign fs)) (sym (sign-asks q es))
sign-append (reads side ∷ es) fs = sign-append es fs
sign-append (adds side x ∷ es) fs = sign-append es fs

-- a call without a word of its own
no_word : (es : List Event) (e : Event) → book_sign (e ∷ []) ≡ 0 → book_sign (es ++ (e ∷ [])) ≡ book_sign es
no_word es e z = sign-append es (e ∷ []) ∙ ap (sign_of_both (book_sign es)) z ∙ sign-idr (book_sign es) (book-sign-le es)

-- an entering question's
own-word : (q : Posed) (s t : Bool) (a b : ℕ) → enters q ≡ true → decode binary32 q.x ≡ finite s a → decode binary32 q.y ≡ finite t b
    → book_sign (asks q ∷ []) ≡ 0 ↔ (minus_zeros (operation_for q) s a t b ≡ true)
unfolding book_sign
own-word q s t a b e left right = rw (e, left, right) (go (minus_zeros (operation_for q) s a t b))
  where
    go : (p : Bool) → ◌≡◌ {A = ℕ} (cond (eqb (cond p 0 1) 1) 1 0) 0 ↔ (p ≡ true)
    go true = (λ z. refl, λ z. refl)
    go false = (λ z. absurd (omega (arith, z)), λ z. absurd (true≢false (sym z)))

pub book-sign-next : BookSignNext
unfolding book_sign
book-sign-next = (
  refl,
  book-sign-le,
  λ es q s t a b e left right.
      let i = own-word q s t a b e left right in
      let k = sign-append es (asks q ∷ []) in (
        λ z. let p = sign_zero (book_sign es) (book_sign (asks q ∷ [])) (sym k ∙ z) in (p.0, i.0 p.1),
        λ z. k ∙ zero-sign (book_sign es) (book_sign (asks q ∷ [])) z.0 (i.1 z.1),
      ),
  λ es q e. no_word es (asks q) (rw e),
  λ es side. no_word es (reads side) refl,
  λ es side x. no_word es (adds side x) refl,
)

-- ---- a question's, by its terms
pub question-sign : QuestionSign
question-sign q width e =
    let k = entering q width e in (
      (λ z. column-sign-zero (set_terms (operation_for q) q.x q.y) (k.set_sign ∙ z), λ m. sym k.set_sign ∙ all-minus-zero-sign (set_terms (operation_for q) q.x q.y) m),
      (λ z. column-sign-zero (foot_terms (sheet_for q)) (k.foot_sign ∙ z), λ m. sym k.foot_sign ∙ all-minus-zero-sign (foot_terms (sheet_for q)) m),
    )

-- ---- S is 0 with it
question-none : (o : Operation) (v w : Value) → sign_of_values o v w ≡ 0 → exact_result o binary32 (whole v) (whole w) ≡ pos 0
question-none o (finite s a) (finite t b) e = exact_none o s a t b (go (minus_zeros o s a t b) e)
  where
    go : (p : Bool) → ◌≡◌ {A = ℕ} (cond p 0 1) 0 → p ≡ true
    go true e = refl
    go false e = absurd (omega (arith, e))
question-none o (finite s a) (infinite t) e = absurd (omega (arith, e))
question-none o (finite s a) nan e = absurd (omega (arith, e))
question-none o (infinite s) w e = absurd (omega (arith, e))
question-none o nan w e = absurd (omega (arith, e))

pub book-of-minus-zeros : BookOfMinusZeros
unfolding book book_sign
book-of-minus-zeros [] e = refl
book-of-minus-zeros (asks q ∷ es) e =
    let p = sign_zero (cond (enters q) (sign_of_patterns (operation_for q) q.x q.y) 0) (book_sign es) (sym (sign-asks q es) ∙ e) in
    ap₂ ◌+ℤ◌ (go (enters q) p.0) (book-of-minus-zeros es p.1)
  where
    go : (b : Bool) → cond b (sign_of_patterns (operation_for q) q.x q.y) 0 ≡ 0 → cond b (exact_of_patterns (operation_for q) q.x q.y) (pos 0) ≡ pos 0
    go true z = question-none (operation_for q) (decode binary32 q.x) (decode binary32 q.y) z
    go false z = refl
book-of-minus-zeros (reads side ∷ es) e = book-of-minus-zeros es e
book-of-minus-zeros (adds side x ∷ es) e = book-of-minus-zeros es e
