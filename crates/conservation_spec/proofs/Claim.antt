-- The claim about every list, and that a question enters exactly under its three conditions.
use mathlib.Core.Path.{◌≡◌, refl, sym, ap, ap₂, ◌∙◌, subst}
use mathlib.Core.Logic.{◌⊎◌, inl, inr}
use mathlib.Core.Bool.{true≢false, Bool, true, false, not, cond}
use mathlib.Core.List.{List, [], ◌∷◌}
use Prim.Native.Nat.{ℕ, ◌+◌, ◌*◌, ◌≤◌, ◌<◌}
use native.Mathlib.Decide.{ℕ_discrete}
use native.Mathlib.Nat.{zero-add, le_trans, le_of_eq, le_refl}
use native.Mathlib.Omega.{arith}
use borrow.Author.Tests.{eq-eqb, ne_eqb, le-leb, le-ltb, leb-true, ltb-false}
use lib.Dec.{eqb, leb, ltb}
use lib.IntN.{ℤ, pos, ◌+ℤ◌, +ℤ_idl}
use lib.ListN.{length, take}
use lib.Seq.{take_at}
use Rattle.pattern_spec.proofs.Truth.{both_of}
use Rattle.pattern_spec.specs.Answer.{refused, is_done}
use Rattle.rounding_spec.specs.Format.{binary32}
use Rattle.rounding_spec.specs.Value.{Value, decode, is_finite}
use Rattle.augmented_spec.specs.Pairs.{pair_of}
use Rattle.augmented_spec.specs.declared.Operation.{Operation}
use Rattle.augmented_spec.specs.declared.Operation.TheVariants.{Sum as sum, Difference as difference, Product as product}
use Rattle.augmented_spec.specs.Operations.{is_operation, operation_of}
use Rattle.pattern_spec.specs.Classes.{both_finite}
use Rattle.worksheet_spec.specs.Lines.{sheet_size}
use Rattle.worksheet_spec.specs.Filling.{sheet_answer, filling}
use Rattle.accumulator_spec.specs.Words.{words_of_integer}
use Rattle.accumulator_spec.specs.Totals.{number_size, total_size, number, total_of, sign_of_both, pair_read, exact_number, exact_total, pair_answer, reading}
use Rattle.accumulator_spec.proofs.Held.{words-full, total-number, total-count, total-sign}
use Rattle.accumulator_spec.proofs.Adding.{Fits, held, total-fit}
use Rattle.accumulator_spec.proofs.Answers.{clearing-done}
use Rattle.accumulator_spec.proofs.Columns.{cleared-is, cleared-fits}
use Rattle.accumulator_spec.proofs.ReadTotal.{exact-number, exact-minus, read-fit, minus-read, plus-read}
use Rattle.accumulator_spec.proofs.Signs.{sign-idl}
use Rattle.conservation_spec.specs.Lists.{Posed, sheet_for, operation_for, direct_for, pair_enters, enters, one_sum, one_product}
use Rattle.conservation_spec.specs.Lists.{Totals, Event, asks, reads, adds, after_events, book, book_sign, questions, entering_sums, entering_products}
use Rattle.conservation_spec.specs.Claim.{BothHold, Met}
use Rattle.conservation_spec.specs.Theorems.{Allowed, cleared, Conserved, EntersExactly}
use Rattle.conservation_spec.proofs.Entering.{not-true}
use Rattle.conservation_spec.proofs.Book.{book-sign-le}
use Rattle.conservation_spec.proofs.Conservation.{holding, holding-same, first_terms, other_terms, kept}

-- ---- no more terms than two a question
at_most_one : (b : Bool) (o : Operation) → cond b (one_sum o) 0 + cond b (one_product o) 0 ≤ 1
at_most_one false o = omega arith
at_most_one true sum = omega arith
at_most_one true difference = omega arith
at_most_one true product = omega arith

pub entered : (es : List Event) → entering_sums es + entering_products es ≤ questions es
unfolding entering_sums entering_products questions
entered [] = omega arith
entered (asks q ∷ es) = omega (arith, at_most_one (enters q) (operation_for q), entered es)
entered (reads side ∷ es) = entered es
entered (adds side x ∷ es) = entered es

-- ---- what a total of a known number, count and sign word holds and reads; k is above 0 where the count is
module _ (z : ℤ) (m w k : ℕ) (fits : Fits z m w) (some : eqb m 0 ≡ eqb k 0) where
  number_is : number (total_of z m w) ≡ z
  number_is = total-number z m w (held z m w fits)

  read_is : reading (total_of z m w) ≡ pair_answer (pair_of binary32 (exact_total z k w))
  read_is = (read-fit (total_of z m w) (total-fit z m w fits)).0 ∙ rw (number_is, total-count z m w, total-sign z m w, some)

number-words : (z : ℤ) (m w : ℕ) → take number_size (total_of z m w) ≡ words_of_integer number_size z
number-words z m w = take_at (words_of_integer number_size z) (m ∷ w ∷ []) number_size (words-full z m w)

-- a total has terms where a question has entered
first_some : (s p : ℕ) → eqb (2 * (s + p)) 0 ≡ eqb (s + p) 0
first_some s p =
    elim (ℕ_discrete (s + p) 0) [
      | yes e ↦ eq-eqb (2 * (s + p)) 0 (omega arith) ∙ sym (eq-eqb (s + p) 0 e)
      | no n ↦ ne_eqb (2 * (s + p)) 0 (λ (e : 2 * (s + p) ≡ 0). n (omega arith)) ∙ sym (ne_eqb (s + p) 0 n)
    ]

other-some : (s p : ℕ) → eqb (2 * s + p) 0 ≡ eqb (s + p) 0
other-some s p =
    elim (ℕ_discrete (s + p) 0) [
      | yes e ↦ eq-eqb (2 * s + p) 0 (omega arith) ∙ sym (eq-eqb (s + p) 0 e)
      | no n ↦ ne_eqb (2 * s + p) 0 (λ (e : 2 * s + p ≡ 0). n (omega arith)) ∙ sym (ne_eqb (s + p) 0 n)
    ]

-- +0 twice
as-plus : (z : ℤ) (n w : ℕ) → (w ≡ 1) ⊎ (n ≡ 0) → z ≡ pos 0 → pair_answer (pair_of binary32 (exact_total z n w)) ≡ pair_read 0 0
as-plus z n w h e =
    ap (λ (v : Value). pair_answer (pair_of binary32 v)) (exact-number z n w h) ∙ ap (λ (y : ℤ). pair_answer (pair_of binary32 (exact_number y))) e ∙ plus-read

holds : (es : List Event) → Fits (book es) (first_terms es) (book_sign es) → Fits (book es) (other_terms es) (book_sign es)
    → BothHold (holding (book es) (book_sign es) (first_terms es) (other_terms es)) es
holds es f o =
    let z = book es in
    let w = book_sign es in
    let s = entering_sums es in
    let p = entering_products es in
    let first = read_is z (first_terms es) w (s + p) f (first_some s p) in
    let other = read_is z (other_terms es) w (s + p) o (other-some s p) in
    record {
      first_number = number_is z (first_terms es) w (s + p) f (first_some s p);
      other_number = number_is z (other_terms es) w (s + p) o (other-some s p);
      same_words = number-words z (first_terms es) w ∙ sym (number-words z (other_terms es) w);
      first_sign = total-sign z (first_terms es) w;
      other_sign = total-sign z (other_terms es) w;
      same_sign = total-sign z (first_terms es) w ∙ sym (total-sign z (other_terms es) w);
      first_count = total-count z (first_terms es) w;
      other_count = total-count z (other_terms es) w;
      first_words = refl;
      other_words = refl;
      first_read = first;
      other_read = other;
      minus_read = λ (e : z ≡ pos 0) (g : w ≡ 0) (h : 0 < s + p).
          let m = ap (λ (v : Value). pair_answer (pair_of binary32 v)) (exact-minus z (s + p) w g h) ∙ minus-read in (first ∙ m, other ∙ m);
      empty_read = λ (e : z ≡ pos 0) (g : w ≡ 0) (h : s + p ≡ 0). let m = as-plus z (s + p) w (inr h) e in (first ∙ m, other ∙ m);
      plus_read = λ (e : z ≡ pos 0) (g : w ≡ 1). let m = as-plus z (s + p) w (inl g) e in (first ∙ m, other ∙ m);
    }

-- ---- the claim
pub start : (a b : List ℕ) → length a ≡ total_size → length b ≡ total_size → cleared a b ≡ holding (pos 0) 0 0 0
start a b p q = ap₂ {C = Totals} (λ (t u : List ℕ). record { first = t; other = u }) (sym (clearing-done a p).1 ∙ cleared-is) (sym (clearing-done b q).1 ∙ cleared-is)

pub conserved : Conserved
conserved a b es p q h w =
    let s = start a b p q in
    let k = kept es (pos 0) 0 0 0 0 (le_refl 0) (le_refl 0) (le_trans (le_of_eq (zero-add (questions es))) h) cleared-fits cleared-fits (subst (λ (t : Totals). Allowed t es) s w) in
    let z : pos 0 +ℤ book es ≡ book es = +ℤ_idl (book es) in
    let g : sign_of_both 0 (book_sign es) ≡ book_sign es = sign-idl (book_sign es) (book-sign-le es) in
    let f : 0 + first_terms es ≡ first_terms es = zero-add (first_terms es) in
    let o : 0 + other_terms es ≡ other_terms es = zero-add (other_terms es) in
    let is : after_events (cleared a b) es ≡ holding (book es) (book_sign es) (first_terms es) (other_terms es) =
    ap (λ (t : Totals). after_events t es) s ∙ k.is ∙ holding-same z g f o in (
      subst (λ (t : Totals). BothHold t es) (sym is) (holds es (rw (z, g, f) at k.first_fits) (rw (z, g, o) at k.other_fits)),
      subst (λ (t : Totals). Met t es) (sym s) k.met,
    )

-- ---- when a question enters
filled-when : (q : Posed) → is_done (sheet_for q) ≡ true → (1 ≤ q.operation) × (q.operation ≤ 3) × (sheet_size ≤ length q.words)
unfolding filling sheet_answer
filled-when q e = go (is_operation q.operation) refl (ltb (length q.words) sheet_size) refl e
  where
    go : (known : Bool) → is_operation q.operation ≡ known → (short : Bool) → ltb (length q.words) sheet_size ≡ short
        → is_done (cond (not known) (refused 10) (cond short (refused 9) (sheet_answer (operation_of q.operation) q.x q.y))) ≡ true
        → (1 ≤ q.operation) × (q.operation ≤ 3) × (sheet_size ≤ length q.words)
    go false k short s f = absurd (true≢false (sym f))
    go true k true s f = absurd (true≢false (sym f))
    go true k false s f =
        let p = both_of (leb 1 q.operation) (leb q.operation 3) k in
        (leb-true 1 q.operation p.0, leb-true q.operation 3 p.1, ltb-false (length q.words) sheet_size s)

when-filled : (q : Posed) → 1 ≤ q.operation → q.operation ≤ 3 → sheet_size ≤ length q.words → is_done (sheet_for q) ≡ true
unfolding filling sheet_answer
when-filled q h k w = rw (le-leb 1 q.operation h, le-leb q.operation 3 k, le-ltb (length q.words) sheet_size w)

pub enters-exactly : EntersExactly
unfolding enters
enters-exactly q = (
  λ e.
      let p = both_of (is_done (sheet_for q)) (pair_enters (direct_for q)) e in
      let f = both_of (both_finite (direct_for q).first (direct_for q).second) (not (direct_for q).flags.inexact) p.1 in
      let g = both_of (is_finite (decode binary32 (direct_for q).first)) (is_finite (decode binary32 (direct_for q).second)) f.0 in
      let w = filled-when q p.0 in
      (w.0, w.1, w.2, g.0, g.1, not-true (direct_for q).flags.inexact f.1),
  λ h. rw (when-filled q h.0 h.1 h.2, h.3, h.4, h.5),
)
