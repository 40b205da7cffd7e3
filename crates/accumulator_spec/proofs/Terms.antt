-- A term of a fit total, by its class as the code has it: what is answered, and the words as they end.
use mathlib.Core.Path.{◌≡◌, refl, sym, ap, ◌∙◌}
use mathlib.Core.Bool.{Bool, true, false, cond, ◌&&◌}
use mathlib.Core.List.{List}
use Prim.Native.Nat.{ℕ, suc, ◌*◌, ◌^◌, ◌<◌}
use native.Mathlib.Omega.{arith}
use lib.Dec.{eqb}
use lib.IntN.{◌+ℤ◌}
use lib.ListN.{length}
use Rattle.pattern_spec.specs.Answer.{Answer, refused, done}
use Rattle.rounding_spec.specs.Format.{binary32}
use Rattle.rounding_spec.specs.Value.{Value, finite, decode, is_finite}
use Rattle.rounding_spec.specs.declared.Number.{Number}
use Rattle.pattern_spec.specs.declared.Class.{Class}
use Rattle.pattern_spec.specs.declared.Class.TheVariants.{Finite, Infinite, NotANumber}
use Rattle.pattern_spec.specs.Classes.{value_of}
use Rattle.pattern_spec.specs.Exact.{whole, int}
use Rattle.pattern_spec.proofs.Finiteness.{finer-finite, times-finite}
use Rattle.rounding_spec.proofs.Multiple.{digits-zero}
use Rattle.accumulator_spec.specs.Totals.{total_size, most_terms, number, count, sign_word, total_of, fit}
use Rattle.accumulator_spec.specs.Totals.{Term, of_pattern, of_product, finite_operands, exact_term, is_minus_zero, sign_of_both, adding, after_adding}
use Rattle.accumulator_spec.proofs.Answers.{adding-special, adding-done, after-refused, after-done}

-- whatever is no finite class has no finite value
pub not-finite : (c : Class) → ((n : Number) → c ≡ Finite n → ⊥) → is_finite (value_of c) ≡ false
unfolding value_of
not-finite (Finite n) h = absurd (h n refl)
not-finite (Infinite s) h = refl
not-finite NotANumber h = refl

-- ---- a term is refused by its exact value
pub term-finite : (x : Term) → finite_operands x ≡ is_finite (exact_term x)
term-finite (of_pattern x) = sym (finer-finite binary32 (decode binary32 x))
term-finite (of_product x y) = sym (times-finite (decode binary32 x) (decode binary32 y))

-- ---- of a fit total
module _ (t : List ℕ) (x : Term) (full : length t ≡ total_size) (fits : fit t ≡ true) where
  abbrev Ends : Answer (Unit {0}) → List ℕ → Type 0
  Ends a ws = (a ≡ adding t x) × (ws ≡ after_adding t x)

  pub special : is_finite (exact_term x) ≡ false → Ends (refused 7) t
  special o = let e = adding-special t x full fits (term-finite x ∙ o) in (sym e, sym (after-refused t x 7 e))

  module _ (s : Bool) (sig exp : ℕ) (is : exact_term x ≡ finite s (sig * 2 ^ exp)) where
    finite-term : finite_operands x ≡ true
    finite-term = term-finite x ∙ ap is_finite is

    pub added : count t < most_terms → (ws : List ℕ) → ws ≡ total_of (number t +ℤ int s (sig * 2 ^ exp)) (suc (count t)) (sign_of_both (sign_word t) (cond (s && eqb sig 0) 0 1))
        → Ends (done tt) ws
    added n ws e =
        let d = adding-done t x full fits finite-term (λ e. absurd (omega arith)) in
        let w = ap (λ (b : Bool). total_of (number t +ℤ int s (sig * 2 ^ exp)) (suc (count t)) (sign_of_both (sign_word t) (cond (s && b) 0 1))) (sym (digits-zero sig exp)) in (
          sym d,
          e ∙ w ∙ ap (λ (v : Value). total_of (number t +ℤ whole v) (suc (count t)) (sign_of_both (sign_word t) (cond (is_minus_zero v) 0 1))) (sym is) ∙ sym (after-done t x d),
        )
