-- A term that has entered number and count, and what a call that adds it answers and leaves, with the sign word.
use mathlib.Core.Path.{◌≡◌, refl, sym, ap, ◌∙◌}
use mathlib.Core.Bool.{Bool, true, false, cond, ◌&&◌}
use mathlib.Core.List.{List, ◌++◌}
use Prim.Native.Nat.{ℕ, suc, ◌+◌, ◌*◌, ◌^◌, ◌<◌}
use native.Mathlib.Nat.{le_trans, le_of_eq}
use native.Mathlib.Omega.{arith}
use lib.Dec.{eqb}
use lib.IntN.{ℤ, ◌+ℤ◌}
use lib.ListN.{length, take, drop, set, length-set}
use lib.Seq.{take-set-le, get_or-set_same, get_or-set_other}
use Rattle.rounding_spec.specs.Value.{Value, finite, is_finite}
use Rattle.pattern_spec.specs.Answer.{refused, done}
use Rattle.pattern_spec.specs.Exact.{whole}
use Rattle.accumulator_spec.specs.Words.{integer}
use Rattle.accumulator_spec.specs.Totals.{number_size, total_size, most_terms, number, count, sign_word, total_of}
use Rattle.accumulator_spec.specs.Totals.{Term, finite_operands, exact_term, is_minus_zero, term_sign, sign_of_both, total_with, Adds}
use Rattle.accumulator_spec.proofs.Answers.{adding-done, after-done}
use Rattle.accumulator_spec.proofs.Held.{total-same}
use Rattle.accumulator_spec.proofs.Signs.{sign-comm, sign-one}
use Rattle.accumulator_spec.proofs.TermAdded.{counted-term}
use Rattle.rounding_spec.proofs.Multiple.{digits-zero}
use Rattle.accumulator_spec.proofs.Terms.{term-finite, special}
use Rattle.accumulator_words.specs.Inner.{after_placed}
use Rattle.accumulator_words.specs.declared.Placed.{Placed}
use Rattle.std.proofs.Common.{Ok, Err, inl, inr, eq-or-lt_of_le}
use Rattle.accumulator_fit.specs.Inner.{fault}
use Rattle.accumulator_spec.specs.declared.NotDone.TheVariants as not-done
use Rattle.accumulator_fit.proofs.Lent.{Length, Unfit, Sound, Full, Takes, by_fault, sound}
use Rattle.accumulator_words.proofs.Placing.{same-integer}
use Rattle.accumulator_spec.proofs.Adding.{fit-bounds}
use Rattle.accumulator_add.specs.Inner.{noted}

-- ---- number and count
module _ (t : List ℕ) (full : length t ≡ total_size) (term : Placed) (new : List ℕ) (moved : new ≡ after_placed (take number_size t) term) where
  -- what counting asks
  pub countable : count t < most_terms → (length (new ++ drop number_size t) ≡ total_size) × (count (new ++ drop number_size t) < most_terms)
  countable h =
      let m = counted-term t term.minus term.sig (32 * term.word + term.shift) new full moved in
      (m.0, le_trans (le_of_eq (ap suc m.1)) h)

  -- the sign word stays
  pub entered : (x : Term) (s : Bool) (sig exp : ℕ) → exact_term x ≡ finite s (sig * 2 ^ exp) → term.minus ≡ s → term.sig ≡ sig → 32 * term.word + term.shift ≡ exp
      → (after : List ℕ) → after ≡ set (new ++ drop number_size t) number_size (suc (count (new ++ drop number_size t)))
      → after ≡ total_of (number t +ℤ whole (exact_term x)) (suc (count t)) (sign_word t)
  entered x s sig exp value p q r after e =
      let m = counted-term t term.minus term.sig (32 * term.word + term.shift) new full moved in
      e ∙ m.2 ∙ ap (λ (y : ℤ). total_of (number t +ℤ y) (suc (count t)) (sign_word t)) (same-integer p q r ∙ ap whole (sym value))

-- ---- with the sign word
pub refused-term : (t : List ℕ) (x : Term) → Sound t → is_finite (exact_term x) ≡ false → Adds t x (refused 7) t
refused-term t x k o = special t x k.0 k.1 o

-- one of the four, of a total that a term is to go into
pub to-add : {G : Type 0} (t : List ℕ) → (Length t → fault t ≡ Err not-done.Length → G) → (Unfit t → fault t ≡ Err not-done.Unfit → G) → (Full t → fault t ≡ Ok tt → G)
    → (Takes t → fault t ≡ Ok tt → G) → G
to-add t five six eight none =
    by_fault t five six (λ h n. elim (eq-or-lt_of_le (fit-bounds t h.1).few) [ inl k ↦ eight (h, k) n | inr k ↦ none (h, k) n ])

-- a sound total that is not full,
pub takes : (t : List ℕ) → fault t ≡ Ok tt → (count t ≡ most_terms → ⊥) → Takes t
takes t h n = to-add t (λ l e. absurd cc) (λ u e. absurd cc) (λ f e. absurd (n f.1)) (λ k e. k)

-- and what is told of one with room
pub has-takes : (t : List ℕ) → (fault t ≡ Ok tt) × (count t < most_terms) × (sign_word t ≡ 1) → Takes t
has-takes t h = (sound t h.0, h.1)

module _ (t : List ℕ) (x : Term) (takes : Takes t) where
  module _ (s : Bool) (sig exp : ℕ) (value : exact_term x ≡ finite s (sig * 2 ^ exp)) where
    added-as : (after : List ℕ) → after ≡ total_with t x → Adds t x (done tt) after
    added-as after e =
        let f : finite_operands x ≡ true = term-finite x ∙ ap is_finite value in
        let d = adding-done t x takes.0.0 takes.0.1 f (λ k. let l = takes.1 in omega (arith, k, l)) in
        (sym d, e ∙ sym (after-done t x d))

    -- 1 stays as it is
    pub stays : sign_word t ≡ 1 → (after : List ℕ) → after ≡ total_of (number t +ℤ whole (exact_term x)) (suc (count t)) (sign_word t) → Adds t x (done tt) after
    stays w after e =
        let same = w ∙ sym (sign-comm (sign_word t) (term_sign x) ∙ sign-one (term_sign x) (sign_word t) (λ z. omega (arith, z, w))) in
        added-as after (e ∙ total-same refl refl same)

    -- and else it has been written before
    module _ (now : List ℕ) (is : now ≡ noted t (cond (s && eqb sig 0) 0 1)) where
      abbrev full : length t ≡ total_size
      full = takes.0.0

      word : term_sign x ≡ cond (s && eqb sig 0) 0 1
      word = ap (λ (v : Value). cond (is_minus_zero v) 0 1) value ∙ ap (λ (b : Bool). cond (s && b) 0 1) (digits-zero sig exp)

      same_number : number now ≡ number t
      same_number = ap integer (ap (take number_size) is ∙ take-set-le number_size t (number_size + 1) _ (omega arith))

      same_count : count now ≡ count t
      same_count = ap (λ (ws : List ℕ). count ws) is ∙ get_or-set_other t (number_size + 1) number_size _ 0 (λ e. omega (arith, e))

      new_word : sign_word now ≡ sign_of_both (sign_word t) (term_sign x)
      new_word = ap (λ (ws : List ℕ). sign_word ws) is ∙ get_or-set_same t (number_size + 1) _ 0 (omega (arith, full)) ∙ ap (sign_of_both (sign_word t)) (sym word)

      pub noted-takes : (length now ≡ total_size) × (count now < most_terms)
      noted-takes = (ap (λ (ws : List ℕ). length ws) is ∙ length-set t (number_size + 1) _ ∙ full, le_trans (le_of_eq (ap suc same_count)) takes.1)

      pub written : (after : List ℕ) → after ≡ total_of (number now +ℤ whole (exact_term x)) (suc (count now)) (sign_word now) → Adds t x (done tt) after
      written after e = added-as after (e ∙ total-same (ap (λ (z : ℤ). z +ℤ whole (exact_term x)) same_number) (ap suc same_count) new_word)
