-- An entering question: the terms of its foot and the terms set are finite, both add up to its exact result, and have its sign word.
use mathlib.Core.Path.{◌≡◌, refl, sym, ap, ap₂, ◌∙◌, subst}
use mathlib.Core.Logic.{◌≢◌}
use mathlib.Core.Bool.{true≢false, Bool, true, false, not, ◌&&◌}
use mathlib.Core.List.{[], ◌∷◌}
use Prim.Native.Nat.{ℕ, ◌+◌, ◌*◌, ◌^◌, ◌<◌}
use native.Mathlib.Omega.{arith}
use lib.IntN.{ℤ, ◌+ℤ◌, +ℤ_idr}
use lib.ListN.{length}
use Rattle.pattern_spec.proofs.Finiteness.{number-of}
use Rattle.pattern_spec.proofs.Truth.{both_of}
use Rattle.pattern_spec.specs.Answer.{Answer, refused, done, is_done}
use Rattle.rounding_spec.specs.Format.{binary32}
use Rattle.rounding_spec.specs.Value.{finite, decode, is_finite}
use Rattle.augmented_spec.specs.declared.Pair.{Pair}
use Rattle.augmented_spec.specs.declared.Operation.{Operation}
use Rattle.augmented_spec.specs.declared.Operation.TheVariants.{Sum as sum, Difference as difference, Product as product}
use Rattle.augmented_spec.specs.Direct.{direct_pair}
use Rattle.augmented_spec.specs.Theorems.{finer_int}
use Rattle.augmented_spec.proofs.Theorems.{every-finite, sum-adds-up, product-adds-up}
use Rattle.worksheet_spec.specs.Filling.{FilledSheet, filled, HasDirectPair}
use Rattle.worksheet_spec.proofs.Theorems.{filled-pair}
use Rattle.pattern_spec.specs.Classes.{both_finite}
use Rattle.pattern_spec.specs.Exact.{whole}
use Rattle.accumulator_spec.specs.Totals.{of_pattern, exact_term}
use Rattle.accumulator_spec.specs.Columns.{AllFinite, column_sum, column_sign}
use Rattle.accumulator_spec.proofs.Landmarks.{pattern-term}
use Rattle.conservation_spec.specs.Lists.{Posed, sheet_for, operation_for, direct_for, pair_enters, enters, foot_terms, set_terms}
use Rattle.conservation_spec.specs.Lists.{exact_of_patterns, sign_of_patterns, one_sum, one_product}
use Rattle.conservation_spec.specs.Theorems.{EntersFinite}
use Rattle.conservation_spec.proofs.Operands.{operands, result-is, terms-sum, terms-finite}
use Rattle.conservation_spec.proofs.Signs.{set-sign, foot-sign}

pub not-true : (b : Bool) → not b ≡ true → b ≡ false
not-true false e = refl
not-true true e = absurd (true≢false (sym e))

-- ---- the two halves of a finite pair without X add up to the exact result
record Halves (o : Operation) (x y : ℕ) (p : Pair) : Type 0 where
  pub finite : AllFinite (of_pattern p.first ∷ of_pattern p.second ∷ [])
  pub adds : column_sum (of_pattern p.first ∷ of_pattern p.second ∷ []) ≡ exact_of_patterns o x y
  pub sign : column_sign (of_pattern p.first ∷ of_pattern p.second ∷ []) ≡ sign_of_patterns o x y

two-halves : (o : Operation) (x y : ℕ) (p : Pair) (E : ℤ) (q : Bool) (c : ℕ) (r : Bool) (d : ℕ) → decode binary32 p.first ≡ finite q c → decode binary32 p.second ≡ finite r d
    → finer_int binary32 q c +ℤ finer_int binary32 r d ≡ E → exact_of_patterns o x y ≡ E
    → column_sign (of_pattern p.first ∷ of_pattern p.second ∷ []) ≡ sign_of_patterns o x y → Halves o x y p
unfolding AllFinite column_sum
two-halves o x y p E q c r d e f s g w =
    record {
      finite = (ap is_finite e, (ap is_finite f, tt));
      adds = ap₂ ◌+ℤ◌ (pattern-term p.first q c e) (+ℤ_idr (whole (exact_term (of_pattern p.second))) ∙ pattern-term p.second r d f) ∙ s ∙ sym g;
      sign = w;
    }

module _ (x y : ℕ) (width : y < 2 ^ 32) where
  by-sum : (o : Operation) → o ≢ product → is_finite (decode binary32 (direct_pair o binary32 x y).first) ≡ true → Halves o x y (direct_pair o binary32 x y)
  by-sum o n e =
      let m = operands o x y width e in
      let h = every-finite o x y m.0.0 m.0.1 m.1.0 m.1.1 width m.0.2 m.1.2 in
      let f = number-of (decode binary32 (direct_pair o binary32 x y).first) e in
      let g = sum-adds-up o binary32 _ _ _ n h f.0 f.1 f.2 in
      two-halves o x y (direct_pair o binary32 x y) _ f.0 f.1 g.0 g.1 f.2 g.2 g.3
      (result-is x y m.0.0 m.0.1 m.1.0 m.1.1 width m.0.2 m.1.2 o)
      (foot-sign o x y m.0.0 m.0.1 m.1.0 m.1.1 m.0.2 m.1.2 _ h f.0 f.1 g.0 g.1 f.2 g.2 g.3)

  by_product : is_finite (decode binary32 (direct_pair product binary32 x y).first) ≡ true → (direct_pair product binary32 x y).flags.inexact ≡ false
      → Halves product x y (direct_pair product binary32 x y)
  by_product e i =
      let m = operands product x y width e in
      let h = every-finite product x y m.0.0 m.0.1 m.1.0 m.1.1 width m.0.2 m.1.2 in
      let f = number-of (decode binary32 (direct_pair product binary32 x y).first) e in
      let g = product-adds-up binary32 _ _ _ h f.0 f.1 f.2 in
      two-halves product x y (direct_pair product binary32 x y) _ f.0 f.1 g.0 g.1 f.2 g.2 (g.4 i)
      (result-is x y m.0.0 m.0.1 m.1.0 m.1.1 width m.0.2 m.1.2 product)
      (foot-sign product x y m.0.0 m.0.1 m.1.0 m.1.1 m.0.2 m.1.2 _ h f.0 f.1 g.0 g.1 f.2 g.2 (g.4 i))

  halves : (o : Operation) → is_finite (decode binary32 (direct_pair o binary32 x y).first) ≡ true → (direct_pair o binary32 x y).flags.inexact ≡ false → Halves o x y (direct_pair o binary32 x y)
  halves sum e i = by-sum sum (λ (q : sum ≡ product). apart q) e
    where
      apart : sum ≡ product → ⊥
      apart q = let z : ◌≡◌ {A = ℕ} 0 1 = ap one_product q in omega arith
  halves difference e i = by-sum difference (λ (q : difference ≡ product). apart q) e
    where
      apart : difference ≡ product → ⊥
      apart q = let z : ◌≡◌ {A = ℕ} 0 1 = ap one_product q in omega arith
  halves product e i = by_product e i

-- ---- an entering question
pub record Entering (q : Posed) : Type 0 where
  pub foot_finite : AllFinite (foot_terms (sheet_for q))
  pub foot_adds : column_sum (foot_terms (sheet_for q)) ≡ exact_of_patterns (operation_for q) q.x q.y
  pub foot_sign : column_sign (foot_terms (sheet_for q)) ≡ sign_of_patterns (operation_for q) q.x q.y
  pub foot_count : length (foot_terms (sheet_for q)) ≡ 2 * (one_sum (operation_for q) + one_product (operation_for q))
  pub set_finite : AllFinite (set_terms (operation_for q) q.x q.y)
  pub set_adds : column_sum (set_terms (operation_for q) q.x q.y) ≡ exact_of_patterns (operation_for q) q.x q.y
  pub set_sign : column_sign (set_terms (operation_for q) q.x q.y) ≡ sign_of_patterns (operation_for q) q.x q.y
  pub set_count : length (set_terms (operation_for q) q.x q.y) ≡ 2 * one_sum (operation_for q) + one_product (operation_for q)

foot-count : (o : Operation) → 2 ≡ 2 * (one_sum o + one_product o)
foot-count sum = refl
foot-count difference = refl
foot-count product = refl

set-count : (o : Operation) (x y : ℕ) → length (set_terms o x y) ≡ 2 * one_sum o + one_product o
set-count sum x y = refl
set-count difference x y = refl
set-count product x y = refl

-- the foot of a filled sheet is the direct pair
foot-is : (a : Answer FilledSheet) (p : Pair) → is_done a ≡ true → ((n : ℕ) (r : Pair) → a ≡ filled n r → r ≡ p) → foot_terms a ≡ of_pattern p.first ∷ of_pattern p.second ∷ []
foot-is (refused n) p e h = absurd (true≢false (sym e))
foot-is (done s) p e h = ap (λ (z : Pair). foot_terms (filled s.line_count z)) (h s.line_count s.pair refl)

pub enters-finite : EntersFinite
unfolding enters
enters-finite q width e =
    let p = both_of (is_done (sheet_for q)) (pair_enters (direct_for q)) e in
    let f = both_of (both_finite (direct_for q).first (direct_for q).second) (not (direct_for q).flags.inexact) p.1 in
    let g = both_of (is_finite (decode binary32 (direct_for q).first)) (is_finite (decode binary32 (direct_for q).second)) f.0 in
    let m = operands (operation_for q) q.x q.y width g.0 in
    ap₂ ◌&&◌ (ap is_finite m.0.2) (ap is_finite m.1.2)

pub entering : (q : Posed) → q.y < 2 ^ 32 → enters q ≡ true → Entering q
unfolding enters
entering q width e =
    let p = both_of (is_done (sheet_for q)) (pair_enters (direct_for q)) e in
    let f = both_of (both_finite (direct_for q).first (direct_for q).second) (not (direct_for q).flags.inexact) p.1 in
    let g = both_of (is_finite (decode binary32 (direct_for q).first)) (is_finite (decode binary32 (direct_for q).second)) f.0 in
    let i = not-true (direct_for q).flags.inexact f.1 in
    let m = operands (operation_for q) q.x q.y width g.0 in
    let h = halves q.x q.y width (operation_for q) g.0 i in
    let is : foot_terms (sheet_for q) ≡ of_pattern (direct_for q).first ∷ of_pattern (direct_for q).second ∷ [] =
    foot-is (sheet_for q) (direct_for q) p.0 (λ n r k. subst (HasDirectPair q.operation q.x q.y) k (filled-pair q.operation q.x q.y q.words)) in
    let s = m.0.0 in let a = m.0.1 in let t = m.1.0 in let b = m.1.1 in
    record {
      foot_finite = subst AllFinite (sym is) h.finite;
      foot_adds = ap column_sum is ∙ h.adds;
      foot_sign = ap column_sign is ∙ h.sign;
      foot_count = ap length is ∙ foot-count (operation_for q);
      set_finite = terms-finite q.x q.y s a t b width m.0.2 m.1.2 (operation_for q);
      set_adds = terms-sum q.x q.y s a t b width m.0.2 m.1.2 (operation_for q) ∙ sym (result-is q.x q.y s a t b width m.0.2 m.1.2 (operation_for q));
      set_sign = set-sign q.x q.y s a t b m.0.2 m.1.2 width (operation_for q);
      set_count = set-count (operation_for q) q.x q.y;
    }
