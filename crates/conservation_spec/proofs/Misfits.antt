-- What `replay` finds wrong, by the conditions in their order, and what it means that it finds nothing.
use mathlib.Core.Path.{◌≡◌, refl, sym, ap, ◌∙◌}
use mathlib.Core.Bool.{true≢false, Bool, true, false, not, cond, ◌&&◌}
use mathlib.Core.List.{List, [], ◌∷◌}
use Prim.Native.Nat.{ℕ, zero, suc, ◌≤◌, ◌<◌}
use native.Mathlib.Omega.{arith}
use borrow.Author.Tests.{eqb-true, leb-true, ltb-false, lt-ltb, le-ltb}
use lib.Dec.{eqb, leb, ltb}
use lib.ListN.{length, get_or}
use Rattle.std.specs.List.{list_all}
use Rattle.pattern_spec.proofs.Truth.{both_of}
use Rattle.pattern_spec.specs.Answer.{Answer, refused, done, is_done}
use Rattle.accumulator_spec.specs.Words.{all_zero}
use Rattle.accumulator_spec.specs.Totals.{total_size, is_cleared, after_clearing}
use Rattle.accumulator_spec.proofs.Answers.{clearing-done}
use Rattle.accumulator_spec.proofs.Zeros.{is-zeros}
use Rattle.conservation_spec.specs.Lists.{most_questions}
use Rattle.conservation_spec.specs.Replay.{Asking, Lent, all_equal, all_within, replaying}

-- ---- a cleared total is as clearing leaves it
pub cleared-already : (t : List ℕ) → is_cleared t ≡ true → (length t ≡ total_size) × (after_clearing t ≡ t)
cleared-already t e =
    let n = eqb-true (length t) total_size (both_of (eqb (length t) total_size) (all_zero t) e).0 in
    (n, sym (clearing-done t n).1 ∙ sym (is-zeros t e))

-- ---- counts, all and one by one
pub within-is : (ns : List ℕ) (most : ℕ) → list_all (λ (n : ℕ). leb n most) ns ≡ all_within ns most
unfolding all_within
within-is [] most = refl
within-is (n ∷ ns) most = ap (λ (b : Bool). leb n most && b) (within-is ns most)

pub within-at : (ns : List ℕ) (most i : ℕ) → all_within ns most ≡ true → i < length ns → get_or ns i 0 ≤ most
unfolding all_within
within-at [] most i e h = absurd (omega arith)
within-at (n ∷ ns) most zero e h = leb-true n most (both_of (leb n most) (all_within ns most) e).0
within-at (n ∷ ns) most (suc i) e h = within-at ns most i (both_of (leb n most) (all_within ns most) e).1 (omega arith)

-- ---- a list that is carried out
pub record Fits (q : Asking) (l : Lent) : Type 0 where
  pub same_xs : length q.xs ≡ length q.operations
  pub same_ys : length q.ys ≡ length q.operations
  pub same_counts : length q.counts ≡ length q.operations
  pub few : length q.operations ≤ most_questions
  pub first_cleared : is_cleared l.totals.first ≡ true
  pub other_cleared : is_cleared l.totals.other ≡ true
  pub within : all_within q.counts (length l.words) ≡ true

pub is-done : (a : Answer (Unit {0})) → is_done a ≡ true → a ≡ done tt
is-done (refused n) e = absurd (true≢false (sym e))
is-done (done u) e = refl

module _ (q : Asking) (l : Lent) where
  abbrev n : ℕ
  n = length q.operations

  pub fits : replaying q l ≡ done tt → Fits q l
  unfolding replaying
  fits e = go _ refl _ refl _ refl _ refl (ap (is_done {A = Unit {0}}) e)
    where
      go : (same : Bool) → all_equal q ≡ same
          → (many : Bool) → ltb most_questions n ≡ many
          → (clear : Bool) → is_cleared l.totals.first && is_cleared l.totals.other ≡ clear
          → (inside : Bool) → all_within q.counts (length l.words) ≡ inside
          → is_done {A = Unit {0}} (cond (not same) (refused 101) (cond many (refused 102) (cond (not clear) (refused 103) (cond (not inside) (refused 104) (done tt))))) ≡ true
          → Fits q l
      go false s many m clear c inside i d = absurd (true≢false (sym d))
      go true s true m clear c inside i d = absurd (true≢false (sym d))
      go true s false m false c inside i d = absurd (true≢false (sym d))
      go true s false m true c false i d = absurd (true≢false (sym d))
      go true s false m true c true i d =
          let p = both_of (eqb (length q.xs) n) (eqb (length q.ys) n && eqb (length q.counts) n) s in
          let k = both_of (eqb (length q.ys) n) (eqb (length q.counts) n) p.1 in
          let r = both_of (is_cleared l.totals.first) (is_cleared l.totals.other) c in
          record {
            same_xs = eqb-true (length q.xs) n p.0;
            same_ys = eqb-true (length q.ys) n k.0;
            same_counts = eqb-true (length q.counts) n k.1;
            few = ltb-false most_questions n m;
            first_cleared = r.0;
            other_cleared = r.1;
            within = i;
          }

  -- ---- one law a case
  pub unequal : all_equal q ≡ false → refused 101 ≡ replaying q l
  unfolding replaying
  unequal e = rw e

  module _ (same : all_equal q ≡ true) where
    pub too_many : most_questions < n → refused 102 ≡ replaying q l
    unfolding replaying
    too_many h = rw (same, lt-ltb most_questions n h)

    module _ (few : n ≤ most_questions) where
      pub first-not-cleared : is_cleared l.totals.first ≡ false → refused 103 ≡ replaying q l
      unfolding replaying
      first-not-cleared e = rw (same, le-ltb most_questions n few, e)

      module _ (clear : is_cleared l.totals.first ≡ true) where
        pub other-not-cleared : is_cleared l.totals.other ≡ false → refused 103 ≡ replaying q l
        unfolding replaying
        other-not-cleared e = rw (same, le-ltb most_questions n few, clear, e)

        pub past_words : is_cleared l.totals.other ≡ true → all_within q.counts (length l.words) ≡ false → refused 104 ≡ replaying q l
        unfolding replaying
        past_words e w = rw (same, le-ltb most_questions n few, clear, e, w)

        pub nothing-wrong : is_cleared l.totals.other ≡ true → all_within q.counts (length l.words) ≡ true → done tt ≡ replaying q l
        unfolding replaying
        nothing-wrong e w = rw (same, le-ltb most_questions n few, clear, e, w)
