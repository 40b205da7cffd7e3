-- When a total is full, where an addition that answers 8 can stand, and that it does stand there.
use mathlib.Core.Path.{◌≡◌, refl, sym, ap, ◌∙◌}
use mathlib.Core.Logic.{◌⊎◌, ◌↔◌, inl, inr}
use mathlib.Core.Bool.{true≢false, true, false}
use mathlib.Core.List.{List, [], ◌∷◌, ◌++◌}
use Prim.Native.Nat.{ℕ, zero, suc, ◌+◌, ◌*◌, ◌≤◌}
use native.Mathlib.Nat.{le_trans, le_of_eq}
use native.Mathlib.Omega.{arith}
use lib.Dec.{lit<, lit≤}
use lib.Ieee.{size}
use lib.ListN.{length, replicate}
use Rattle.pattern_spec.specs.Answer.{refused}
use Rattle.rounding_spec.specs.Round.{keep, last_place}
use Rattle.rounding_spec.specs.Value.{decode}
use Rattle.pattern_spec.specs.Exact.{times}
use Rattle.augmented_spec.specs.Direct.{direct_pair}
use Rattle.worksheet_spec.specs.Lines.{sheet_size}
use Rattle.accumulator_spec.specs.Totals.{total_size, most_terms, count, Term, finite_operands, adding}
use Rattle.conservation_spec.specs.Lists.{most_questions, enters, Totals, Side, on_first, on_other, total_on}
use Rattle.conservation_spec.specs.Lists.{Event, asks, adds, after_event, after_events, questions, entering_sums, entering_products}
use Rattle.conservation_spec.specs.Claim.{BothHold, Met}
use Rattle.conservation_spec.specs.Theorems.{Allowed, cleared, FullWhen, EightLast, with_other_calls, question_of_ones, OnesEnter, EightReached}
use Rattle.conservation_spec.proofs.Allowed.{asks-allowed, adds-allowed, adds-only, allowed-here, allowed-append, allowed-more}
use Rattle.conservation_spec.proofs.Claim.{conserved, enters-exactly, entered}
use Rattle.conservation_spec.proofs.Calls.{met-each, questions-append}

-- ---- when a total is full, by s sums and differences and p products
first-full : (c s p : ℕ) → c ≡ 2 * (s + p) → (c ≡ most_terms) ↔ (s + p ≡ most_questions)
first-full c s p e = (λ h. omega arith, λ h. omega arith)

other-full : (c s p : ℕ) → c ≡ 2 * s + p → s + p ≤ most_questions → (c ≡ most_terms) ↔ (s ≡ most_questions)
other-full c s p e few = (λ h. omega arith, λ h. omega arith)

pub full-when : FullWhen
full-when a b es la lb few w =
    let k = (conserved a b es la lb few w).0 in
    let s = entering_sums es in
    let p = entering_products es in
    let t = after_events (cleared a b) es in
    (first-full (count t.first) s p k.first_count, other-full (count t.other) s p k.other_count (le_trans (entered es) few))

-- ---- where a finite term can stand
-- what a full total says of the list before: on the first every question entered, on the other no product
record Filled (side : Side) (es : List Event) : Type 0 where
  pub all : entering_sums es + entering_products es ≡ most_questions
  pub sums : side ≡ on_other → entering_products es ≡ 0

other-side : on_first ≡ on_other → ⊥
other-side e = let z : ◌≡◌ {A = ℕ} 0 1 = ap number e in omega arith
  where
    number : Side → ℕ
    number on_first = 0
    number on_other = 1

no-product : (s p : ℕ) → s + p ≤ most_questions → s ≡ most_questions → p ≡ 0
no-product s p few e = omega arith

all-sums : (s p : ℕ) → s + p ≤ most_questions → s ≡ most_questions → s + p ≡ most_questions
all-sums s p few e = omega arith

module _ (a b : List ℕ) (la : length a ≡ total_size) (lb : length b ≡ total_size) where
  filled : (side : Side) (es : List Event) → questions es ≤ most_questions → Allowed (cleared a b) es → count (total_on side (after_events (cleared a b) es)) ≡ most_terms → Filled side es
  filled on_first es few w c = record { all = (full-when a b es la lb few w).0.0 c; sums = λ (e : on_first ≡ on_other). absurd (other-side e) }
  filled on_other es few w c =
      let s = entering_sums es in
      let p = entering_products es in
      let most = le_trans (entered es) few in
      let e = (full-when a b es la lb few w).1.0 c in
      record { all = all-sums s p most e; sums = λ (k : on_other ≡ on_other). no-product s p most e }

count-full : (t : List ℕ) (x : Term) → (finite_operands x ≡ false) ⊎ (count t ≡ most_terms) → finite_operands x ≡ true → count t ≡ most_terms
count-full t x (inl h) f = absurd (true≢false (sym f ∙ h))
count-full t x (inr h) f = h

pub eight-last : EightLast
unfolding questions
eight-last a b before after side x la lb few w f =
    let t = cleared a b in
    let n = questions-append before (adds side x ∷ after) in
    let h = allowed-here t before after (adds side x) w in
    let c = count-full (total_on side (after_events t before)) x (adds-only (after_events t before) side x h.1) f in
    let r = filled a b la lb side before (omega (arith, n)) h.0 c in
    let m = met-each t before after (adds side x) (conserved a b (before ++ (adds side x ∷ after)) la lb few w).1 in
    let e = entered before in
    (m.1 f, omega (arith, r.all), r.all, r.sums, omega (arith, r.all))

-- ---- 1 and 1
module _ (words : List ℕ) (long : sheet_size ≤ length words) where
  enters-one : enters (question_of_ones 1 words) ≡ true
  unfolding direct_pair times keep last_place size decode
  enters-one = (enters-exactly (question_of_ones 1 words)).1 (lit≤ tt, lit≤ tt, long, refl, refl, refl)

  enters-two : enters (question_of_ones 2 words) ≡ true
  unfolding direct_pair times keep last_place size decode
  enters-two = (enters-exactly (question_of_ones 2 words)).1 (lit≤ tt, lit≤ tt, long, refl, refl, refl)

  enters-three : enters (question_of_ones 3 words) ≡ true
  unfolding direct_pair times keep last_place size decode
  enters-three = (enters-exactly (question_of_ones 3 words)).1 (lit≤ tt, lit≤ tt, long, refl, refl, refl)

pub ones-enter : OnesEnter
unfolding entering_sums entering_products with_other_calls
ones-enter words long =
    let one = enters-one words long in let two = enters-two words long in let three = enters-three words long in
    (one, two, three, (rw (one, two, three), rw (one, two, three)))

-- ---- 1 + 1, n times
module _ (words : List ℕ) (long : sheet_size ≤ length words) where
  abbrev repeated : ℕ → List Event
  repeated n = replicate n (asks (question_of_ones 1 words))

  repeated-sums : (n : ℕ) → entering_sums (repeated n) ≡ n
  unfolding entering_sums
  repeated-sums zero = refl
  repeated-sums (suc n) = rw (enters-one words long) (omega (arith, repeated-sums n))

  repeated-questions : (n : ℕ) → questions (repeated n) ≡ n
  unfolding questions
  repeated-questions zero = refl
  repeated-questions (suc n) = ap suc (repeated-questions n)

  repeated-allowed : (n : ℕ) (t : Totals) → Allowed t (repeated n)
  unfolding Allowed
  repeated-allowed zero t = tt
  repeated-allowed (suc n) t = (asks-allowed t (question_of_ones 1 words) (lit< tt, lit< tt), repeated-allowed n _)

  module _ (a b : List ℕ) (x : Term) (la : length a ≡ total_size) (lb : length b ≡ total_size) (f : finite_operands x ≡ true) (n : ℕ) (most : n ≡ most_questions) where
    few : questions (repeated n) ≤ most_questions
    few = le_of_eq (repeated-questions n ∙ most)

    both-full : (side : Side) → count (total_on side (after_events (cleared a b) (repeated n))) ≡ most_terms
    both-full on_first =
        (full-when a b (repeated n) la lb few (repeated-allowed n (cleared a b))).0.1
        (all-sums (entering_sums (repeated n)) (entering_products (repeated n)) (le_trans (entered (repeated n)) few) (repeated-sums n ∙ most))
    both-full on_other = (full-when a b (repeated n) la lb few (repeated-allowed n (cleared a b))).1.1 (repeated-sums n ∙ most)

    one_more : (side : Side) → adding (total_on side (after_events (cleared a b) (repeated n))) x ≡ refused 8
    unfolding questions
    one_more side =
        let t = cleared a b in
        let es = repeated n in
        let w = allowed-more t es (adds side x) (repeated-allowed n t) (adds-allowed (after_events t es) side x (inr (both-full side))) in
        (eight-last a b es [] side x la lb (le_trans (le_of_eq (questions-append es (adds side x ∷ []))) (omega (arith, few))) w f).0

    two-more : let t = cleared a b in let es = repeated n ++ (adds on_first x ∷ adds on_other x ∷ []) in
        Allowed t es × (questions es ≡ most_questions) × BothHold (after_events t es) es × Met t es
    unfolding questions Allowed
    two-more =
        let t = cleared a b in
        let es = repeated n in
        let fs = adds on_first x ∷ adds on_other x ∷ [] in
        let u = after_events t es in
        let first = adds-allowed u on_first x (inr (both-full on_first)) in
        let other = adds-allowed (after_event u (adds on_first x)) on_other x (inr (both-full on_other)) in
        let w = allowed-append t es fs (repeated-allowed n t) (first, (other, tt)) in
        let q : questions (es ++ fs) ≡ most_questions = questions-append es fs ∙ omega (arith, repeated-questions n, most) in
        let k = conserved a b (es ++ fs) la lb (le_of_eq q) w in
        (w, q, k.0, k.1)

pub eight-reached : EightReached
eight-reached a b words x la lb long f =
    let k = two-more words long a b x la lb f most_questions refl in
    (k.0, k.1, repeated-sums words long most_questions, one_more words long a b x la lb f most_questions refl, k.2, k.3)
