-- The refusals of `replay`, as they are stated, and that they change nothing.
use mathlib.Core.Path.{◌≡◌, refl, sym}
use mathlib.Core.Logic.{◌⊎◌, ◌≢◌, inl, inr}
use mathlib.Core.Bool.{Bool, true, false, ◌&&◌}
use mathlib.Core.List.{List, [], ◌∷◌}
use Prim.Native.Nat.{ℕ, zero, suc, ◌≤◌, ◌<◌}
use native.Mathlib.Omega.{arith}
use borrow.Author.Tests.{eq-eqb, ne_eqb, le-leb}
use lib.Dec.{eqb}
use lib.ListN.{length, get_or}
use Rattle.pattern_spec.specs.Answer.{refused, done}
use Rattle.pattern_spec.proofs.Truth.{refute}
use Rattle.accumulator_spec.specs.Totals.{zeros, is_cleared}
use Rattle.accumulator_spec.proofs.Zeros.{cleared-zeros}
use Rattle.conservation_spec.specs.Lists.{most_questions}
use Rattle.conservation_spec.specs.Replay.{Asking, Lent, all_equal, all_within, after_asking, replaying, after_replaying}
use Rattle.conservation_spec.specs.Theorems.{ReplayBy, ReplayRefused, ReplayUnchanged}
use Rattle.conservation_spec.proofs.Misfits.{within-at, unequal, too_many, first-not-cleared, other-not-cleared, past_words, nothing-wrong}

-- ---- the conditions as truth values
not-cleared : (t : List ℕ) → t ≢ zeros → is_cleared t ≡ false
not-cleared t n = refute (is_cleared t) (λ (e : is_cleared t ≡ true). n ((cleared-zeros t).0 e))

all-within : (ns : List ℕ) (most : ℕ) → ((i : ℕ) → get_or ns i 0 ≤ most) → all_within ns most ≡ true
unfolding all_within
all-within [] most h = refl
all-within (n ∷ ns) most h = rw (le-leb n most (h 0)) (all-within ns most (λ i. h (suc i)))

inside-or-zero : (ns : List ℕ) (i : ℕ) → 0 < get_or ns i 0 → i < length ns
inside-or-zero [] i h = absurd (omega arith)
inside-or-zero (n ∷ ns) zero h = omega arith
inside-or-zero (n ∷ ns) (suc i) h = let k = inside-or-zero ns i h in omega arith

not_within : (ns : List ℕ) (most i : ℕ) → most < get_or ns i 0 → all_within ns most ≡ false
not_within ns most i h = refute (all_within ns most) (λ (e : all_within ns most ≡ true). let k = within-at ns most i e (inside-or-zero ns i (omega arith)) in omega arith)

module _ (q : Asking) (l : Lent) where
  abbrev n : ℕ
  n = length q.operations

  unequal-lengths : (length q.xs ≢ n) ⊎ (length q.ys ≢ n) ⊎ (length q.counts ≢ n) → all_equal q ≡ false
  unequal-lengths (inl h) = rw (ne_eqb (length q.xs) n h)
  unequal-lengths (inr (inl h)) = go (eqb (length q.xs) n)
    where
      go : (b : Bool) → b && (eqb (length q.ys) n && eqb (length q.counts) n) ≡ false
      go true = rw (ne_eqb (length q.ys) n h)
      go false = refl
  unequal-lengths (inr (inr h)) = go (eqb (length q.xs) n) (eqb (length q.ys) n)
    where
      go : (b c : Bool) → b && (c && eqb (length q.counts) n) ≡ false
      go true true = ne_eqb (length q.counts) n h
      go true false = refl
      go false c = refl

  pub equal-lengths : length q.xs ≡ n → length q.ys ≡ n → length q.counts ≡ n → all_equal q ≡ true
  equal-lengths a b c = rw (eq-eqb (length q.xs) n a, eq-eqb (length q.ys) n b, eq-eqb (length q.counts) n c)

  not-both-cleared : (same : all_equal q ≡ true) → n ≤ most_questions → (l.totals.first ≢ zeros) ⊎ (l.totals.other ≢ zeros) → replaying q l ≡ refused 103
  not-both-cleared s few (inl h) = sym (first-not-cleared q l s few (not-cleared l.totals.first h))
  not-both-cleared s few (inr h) = go (is_cleared l.totals.first) refl
    where
      go : (b : Bool) → is_cleared l.totals.first ≡ b → replaying q l ≡ refused 103
      go true e = sym (other-not-cleared q l s few e (not-cleared l.totals.other h))
      go false e = sym (first-not-cleared q l s few e)

pub replay-refused : ReplayRefused
replay-refused q l = (
  λ h. sym (unequal q l (unequal-lengths q l h)),
  λ a b c. let s = equal-lengths q l a b c in (
    λ h. sym (too_many q l s h),
    not-both-cleared q l s,
    λ few f g. let first = (cleared-zeros l.totals.first).1 f in let other = (cleared-zeros l.totals.other).1 g in (
      λ i h. sym (past_words q l s few first other (not_within q.counts (length l.words) i h)),
      λ h. sym (nothing-wrong q l s few first other (all-within q.counts (length l.words) h)),
    ),
  ),
)

pub replay-unchanged : ReplayUnchanged
unfolding after_replaying
replay-unchanged q l m e = rw e

-- what is said of every refusal and of a call that is carried out is said by the conditions
pub replay-by : (q : Asking) (l : Lent) (refusal : ℕ → Type 0) (carried_out : Type 0)
    → ((m : ℕ) → replaying q l ≡ refused m → refusal m) → (replaying q l ≡ done tt → carried_out) → ReplayBy q l refusal carried_out
replay-by q l refusal carried_out r d =
    let c = replay-refused q l in (
      λ h. r 101 (c.0 h),
      λ x y n. let k = c.1 x y n in (
        λ h. r 102 (k.0 h),
        λ few h. r 103 (k.1 few h),
        λ few f g. let w = k.2 few f g in (λ i h. r 104 (w.0 i h), λ h. d (w.1 h)),
      ),
    )

pub replay-done : (q : Asking) (l : Lent) → replaying q l ≡ done tt → after_replaying q l ≡ after_asking q l
unfolding after_replaying
replay-done q l e = rw e
