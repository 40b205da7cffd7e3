-- The two totals hold S and its sign word after every list.
use mathlib.Core.Path.{◌≡◌, refl, sym, ap, ap₂, ◌∙◌, subst}
use mathlib.Core.Logic.{◌⊎◌, inl, inr}
use mathlib.Core.Bool.{true≢false, Bool, true, false}
use mathlib.Core.List.{List, [], ◌∷◌}
use Prim.Native.Nat.{ℕ, suc, ◌+◌, ◌*◌, ◌^◌, ◌≤◌, ◌<◌}
use native.Mathlib.Nat.{add-zero, le_of_eq}
use native.Mathlib.Omega.{arith}
use lib.IntN.{ℤ, pos, ◌+ℤ◌, +ℤ_idl, +ℤ_idr, +ℤ_assoc}
use Rattle.pattern_spec.specs.Answer.{refused}
use Rattle.augmented_spec.specs.declared.Operation.{Operation}
use Rattle.augmented_spec.specs.declared.Operation.TheVariants.{Sum as sum, Difference as difference, Product as product}
use Rattle.accumulator_spec.specs.Totals.{most_terms, FitTotal, total_of, count, sign_of_both, Term, finite_operands, adding, after_adding}
use Rattle.accumulator_spec.specs.Columns.{column}
use Rattle.accumulator_spec.proofs.Adding.{Fits, total-fit}
use Rattle.accumulator_spec.proofs.Answers.{adding-special, adding-full, after-refused}
use Rattle.accumulator_spec.proofs.Columns.{exact-from}
use Rattle.accumulator_spec.proofs.Held.{total-same}
use Rattle.accumulator_spec.proofs.Signs.{sign-assoc, sign-idl, sign-idr}
use Rattle.conservation_spec.specs.Lists.{most_questions, Posed, sheet_for, operation_for, enters, foot_terms, set_terms, exact_of_patterns, sign_of_patterns}
use Rattle.conservation_spec.specs.Lists.{Totals, Side, on_first, on_other, Event, asks, reads, adds, after_event, after_events}
use Rattle.conservation_spec.specs.Lists.{book, book_sign, questions, one_sum, one_product, entering_sums, entering_products}
use Rattle.conservation_spec.specs.Claim.{MetNow, Met}
use Rattle.conservation_spec.specs.Theorems.{AllowedNow, Allowed}
use Rattle.conservation_spec.proofs.Entering.{entering}
use Rattle.conservation_spec.proofs.Allowed.{asks-only, adds-only}
use Rattle.conservation_spec.proofs.Book.{book-sign-le, sign-asks}

-- two totals that hold z with the sign word w, and m and n terms
abbrev pub holding : ℤ → ℕ → ℕ → ℕ → Totals
holding z w m n = record { first = total_of z m w; other = total_of z n w }

pub holding-same : {y z : ℤ} {v w m m' n n' : ℕ} → y ≡ z → v ≡ w → m ≡ m' → n ≡ n' → holding y v m n ≡ holding z w m' n'
holding-same e f g h = ap₂ {C = Totals} (λ (t u : List ℕ). record { first = t; other = u }) (total-same e g f) (total-same e h f)

-- the terms of a list, on the first total and on the other
abbrev pub first_terms : List Event → ℕ
first_terms es = 2 * (entering_sums es + entering_products es)

abbrev pub other_terms : List Event → ℕ
other_terms es = 2 * entering_sums es + entering_products es

pub record Kept (z : ℤ) (w m n : ℕ) (es : List Event) : Type 0 where
  pub is : after_events (holding z w m n) es ≡ holding (z +ℤ book es) (sign_of_both w (book_sign es)) (m + first_terms es) (n + other_terms es)
  pub met : Met (holding z w m n) es
  pub first_fits : Fits (z +ℤ book es) (m + first_terms es) (sign_of_both w (book_sign es))
  pub other_fits : Fits (z +ℤ book es) (n + other_terms es) (sign_of_both w (book_sign es))

at_most_two : (o : Operation) → 2 * one_sum o + one_product o ≤ 2
at_most_two sum = omega arith
at_most_two difference = omega arith
at_most_two product = omega arith

exactly-two : (o : Operation) → 2 * (one_sum o + one_product o) ≡ 2
exactly-two sum = refl
exactly-two difference = refl
exactly-two product = refl

-- ---- one event, and those after it
record Step (z d : ℤ) (w v m n c c' : ℕ) (e : Event) (es : List Event) : Type 0 where
  pub leaves : after_event (holding z w m n) e ≡ holding (z +ℤ d) (sign_of_both w v) (m + c) (n + c')
  pub met_now : MetNow (holding z w m n) e
  pub booked : book (e ∷ es) ≡ d +ℤ book es
  pub signed : book_sign (e ∷ es) ≡ sign_of_both v (book_sign es)
  pub first_more : first_terms (e ∷ es) ≡ c + first_terms es
  pub other_more : other_terms (e ∷ es) ≡ c' + other_terms es
  pub first_room : Fits (z +ℤ d) (m + c) (sign_of_both w v)
  pub other_room : Fits (z +ℤ d) (n + c') (sign_of_both w v)

record Next (z : ℤ) (w m n : ℕ) (e : Event) (es : List Event) : Type 0 where
  pub amount : ℤ
  pub word : ℕ
  pub more : ℕ
  pub more' : ℕ
  pub most : more ≤ 2
  pub most' : more' ≤ 2
  pub step : Step z amount w word m n more more' e es

joined : (z d : ℤ) (w v m n c c' : ℕ) (e : Event) (es : List Event) → Step z d w v m n c c' e es → Kept (z +ℤ d) (sign_of_both w v) (m + c) (n + c') es → Kept z w m n (e ∷ es)
unfolding after_events Met
joined z d w v m n c c' e es s k =
    let b : z +ℤ d +ℤ book es ≡ z +ℤ book (e ∷ es) = +ℤ_assoc z d (book es) ∙ ap (λ (y : ℤ). z +ℤ y) (sym s.booked) in
    let g : sign_of_both (sign_of_both w v) (book_sign es) ≡ sign_of_both w (book_sign (e ∷ es)) = sign-assoc w v (book_sign es) ∙ ap (sign_of_both w) (sym s.signed) in
    let f : m + c + first_terms es ≡ m + first_terms (e ∷ es) = omega (arith, s.first_more) in
    let o : n + c' + other_terms es ≡ n + other_terms (e ∷ es) = omega (arith, s.other_more) in
    record {
      is = ap (λ (t : Totals). after_events t es) s.leaves ∙ k.is ∙ holding-same b g f o;
      met = (s.met_now, subst (λ (t : Totals). Met t es) (sym s.leaves) k.met);
      first_fits = rw (← b, ← g, ← f) k.first_fits;
      other_fits = rw (← b, ← g, ← o) k.other_fits;
    }

-- ---- events that change nothing
module _ (z : ℤ) (w m n : ℕ) (small : w ≤ 1) where
  same : holding z w m n ≡ holding (z +ℤ pos 0) (sign_of_both w 0) (m + 0) (n + 0)
  same = sym (holding-same (+ℤ_idr z) (sign-idr w small) (add-zero m) (add-zero n))

nothing-more : (z : ℤ) (m w : ℕ) → Fits z m w → Fits (z +ℤ pos 0) (m + 0) (sign_of_both w 0)
nothing-more z m w f = rw (+ℤ_idr z, add-zero m, sign-idr w f.sign) f

idle : (z : ℤ) (w m n : ℕ) (e : Event) (es : List Event) → Fits z m w → Fits z n w → after_event (holding z w m n) e ≡ holding z w m n → MetNow (holding z w m n) e
    → book (e ∷ es) ≡ pos 0 +ℤ book es → book_sign (e ∷ es) ≡ sign_of_both 0 (book_sign es)
    → first_terms (e ∷ es) ≡ first_terms es → other_terms (e ∷ es) ≡ other_terms es → Step z (pos 0) w 0 m n 0 0 e es
idle z w m n e es s s' a k b g f o =
    record {
      leaves = a ∙ same z w m n s.sign;
      met_now = k;
      booked = b;
      signed = g;
      first_more = omega (arith, f);
      other_more = omega (arith, o);
      first_room = nothing-more z m w s;
      other_room = nothing-more z n w s';
    }

-- a call on a fit total that is refused, 7 or 8
record Refused (t : List ℕ) (x : Term) : Type 0 where
  pub special : finite_operands x ≡ false → adding t x ≡ refused 7
  pub full : finite_operands x ≡ true → adding t x ≡ refused 8
  pub unchanged : after_adding t x ≡ t

refused-call : (t : List ℕ) (x : Term) → FitTotal t → (finite_operands x ≡ false) ⊎ (count t ≡ most_terms) → Refused t x
refused-call t x f h = go (finite_operands x) refl h
  where
    seven : finite_operands x ≡ false → adding t x ≡ refused 7
    seven s = adding-special t x f.full f.fits s

    go : (b : Bool) → finite_operands x ≡ b → (finite_operands x ≡ false) ⊎ (count t ≡ most_terms) → Refused t x
    go false s h = record { special = seven; full = λ (o : finite_operands x ≡ true). absurd (true≢false (sym o ∙ s)); unchanged = after-refused t x 7 (seven s) }
    go true s (inl o) = absurd (true≢false (sym s ∙ o))
    go true s (inr c) =
        let eight = adding-full t x f.full f.fits s c in
        record { special = seven; full = λ (o : finite_operands x ≡ true). eight; unchanged = after-refused t x 8 eight }

module _ (z : ℤ) (w m n : ℕ) (es : List Event) (fits : Fits z m w) (fits' : Fits z n w) where
  abbrev no_word : book_sign es ≡ sign_of_both 0 (book_sign es)
  no_word = sym (sign-idl (book_sign es) (book-sign-le es))

  adding-step : (side : Side) (x : Term) → AllowedNow (holding z w m n) (adds side x) → Step z (pos 0) w 0 m n 0 0 (adds side x) es
  unfolding book book_sign entering_sums entering_products
  adding-step on_first x h =
      let r = refused-call (total_of z m w) x (total-fit z m w fits) (adds-only (holding z w m n) on_first x h) in
      let u = ap {B = Totals} (λ (t : List ℕ). record { first = t; other = total_of z n w }) r.unchanged in
      idle z w m n (adds on_first x) es fits fits' u (r.special, r.full, u) (sym (+ℤ_idl (book es))) no_word refl refl
  adding-step on_other x h =
      let r = refused-call (total_of z n w) x (total-fit z n w fits') (adds-only (holding z w m n) on_other x h) in
      let u = ap {B = Totals} (λ (t : List ℕ). record { first = total_of z m w; other = t }) r.unchanged in
      idle z w m n (adds on_other x) es fits fits' u (r.special, r.full, u) (sym (+ℤ_idl (book es))) no_word refl refl

  reading_step : (side : Side) → Step z (pos 0) w 0 m n 0 0 (reads side) es
  unfolding book book_sign entering_sums entering_products
  reading_step side = idle z w m n (reads side) es fits fits' refl refl (sym (+ℤ_idl (book es))) no_word refl refl

  -- ---- a question that does not enter, and one that does
  outside-step : (q : Posed) → enters q ≡ false → Step z (pos 0) w 0 m n 0 0 (asks q) es
  unfolding book book_sign entering_sums entering_products
  outside-step q e =
      let u : after_event (holding z w m n) (asks q) ≡ holding z w m n = rw e in
      idle z w m n (asks q) es fits fits' u (λ (f : enters q ≡ true). absurd (true≢false (sym f ∙ e)), λ (f : enters q ≡ false). u) (rw e) (sign-asks q es ∙ rw e) (rw e (omega arith))
      (rw e (omega arith))

  entering-step : (q : Posed) → q.y < 2 ^ 32 → enters q ≡ true → m + 2 ≤ most_terms → n + 2 ≤ most_terms
      → Step z (exact_of_patterns (operation_for q) q.x q.y) w (sign_of_patterns (operation_for q) q.x q.y) m n (2 * (one_sum (operation_for q) + one_product (operation_for q)))
      (2 * one_sum (operation_for q) + one_product (operation_for q)) (asks q) es
  unfolding book book_sign entering_sums entering_products
  entering-step q y e h h' =
      let k = entering q y e in
      let o = operation_for q in
      let most : 2 * one_sum o + one_product o ≤ 2 = at_most_two o in
      let two : 2 * (one_sum o + one_product o) ≡ 2 = exactly-two o in
      let a = exact-from (foot_terms (sheet_for q)) z m w (omega (arith, k.foot_count, two)) fits k.foot_finite in
      let b = exact-from (set_terms o q.x q.y) z n w (omega (arith, k.set_count, most)) fits' k.set_finite in
      let d = exact_of_patterns o q.x q.y in
      let v = sign_of_patterns o q.x q.y in
      let f : column (total_of z m w) (foot_terms (sheet_for q)) ≡ total_of (z +ℤ d) (m + 2 * (one_sum o + one_product o)) (sign_of_both w v) =
      a.is ∙ total-same (ap (λ (x : ℤ). z +ℤ x) k.foot_adds) (ap (λ (i : ℕ). m + i) k.foot_count) (ap (sign_of_both w) k.foot_sign) in
      let g : column (total_of z n w) (set_terms o q.x q.y) ≡ total_of (z +ℤ d) (n + (2 * one_sum o + one_product o)) (sign_of_both w v) =
      b.is ∙ total-same (ap (λ (x : ℤ). z +ℤ x) k.set_adds) (ap (λ (i : ℕ). n + i) k.set_count) (ap (sign_of_both w) k.set_sign) in
      record {
        leaves = rw (e, f, g);
        met_now = (λ (t : enters q ≡ true). (a.accepted, b.accepted), λ (t : enters q ≡ false). absurd (true≢false (sym e ∙ t)));
        booked = rw e;
        signed = sign-asks q es ∙ rw e;
        first_more = rw e (omega arith);
        other_more = rw e (omega arith);
        first_room = rw (← k.foot_adds, ← k.foot_count, ← k.foot_sign) a.fits;
        other_room = rw (← k.set_adds, ← k.set_count, ← k.set_sign) b.fits;
      }

  -- either way
  question-step : (q : Posed) → q.y < 2 ^ 32 → m + 2 ≤ most_terms → n + 2 ≤ most_terms → Next z w m n (asks q) es
  question-step q y h h' = go (enters q) refl
    where
      go : (b : Bool) → enters q ≡ b → Next z w m n (asks q) es
      go false e = record { amount = pos 0; word = 0; more = 0; more' = 0; most = omega arith; most' = omega arith; step = outside-step q e }
      go true e =
          record {
            amount = exact_of_patterns (operation_for q) q.x q.y;
            word = sign_of_patterns (operation_for q) q.x q.y;
            more = 2 * (one_sum (operation_for q) + one_product (operation_for q));
            more' = 2 * one_sum (operation_for q) + one_product (operation_for q);
            most = le_of_eq (exactly-two (operation_for q));
            most' = at_most_two (operation_for q);
            step = entering-step q y e h h';
          }

-- ---- all of them, while there is room: k questions so far, two terms each at most
pub kept : (es : List Event) (z : ℤ) (w m n k : ℕ) → m ≤ 2 * k → n ≤ 2 * k → k + questions es ≤ most_questions → Fits z m w → Fits z n w → Allowed (holding z w m n) es → Kept z w m n es
unfolding after_events book book_sign questions entering_sums entering_products Allowed Met
kept [] z w m n k a b c s s' h = record { is = same z w m n s.sign; met = tt; first_fits = nothing-more z m w s; other_fits = nothing-more z n w s' }
kept (reads side ∷ es) z w m n k a b c s s' h =
    let t = reading_step z w m n es s s' side in
    joined z (pos 0) w 0 m n 0 0 (reads side) es t (kept es (z +ℤ pos 0) (sign_of_both w 0) (m + 0) (n + 0) k (omega arith) (omega arith) c t.first_room t.other_room
    (subst (λ (v : Totals). Allowed v es) t.leaves h.1))
kept (adds side x ∷ es) z w m n k a b c s s' h =
    let t = adding-step z w m n es s s' side x h.0 in
    joined z (pos 0) w 0 m n 0 0 (adds side x) es t (kept es (z +ℤ pos 0) (sign_of_both w 0) (m + 0) (n + 0) k (omega arith) (omega arith) c t.first_room t.other_room
    (subst (λ (v : Totals). Allowed v es) t.leaves h.1))
kept (asks q ∷ es) z w m n k a b c s s' h =
    let t = question-step z w m n es s s' q (asks-only (holding z w m n) q h.0).1 (omega arith) (omega arith) in
    joined z t.amount w t.word m n t.more t.more' (asks q) es t.step
    (kept es (z +ℤ t.amount) (sign_of_both w t.word) (m + t.more) (n + t.more') (suc k) (omega (arith, t.most)) (omega (arith, t.most')) (omega arith) t.step.first_room t.step.other_room
    (subst (λ (v : Totals). Allowed v es) t.step.leaves h.1))
