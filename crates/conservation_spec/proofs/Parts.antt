-- A list in parts: the totals of two parts, joined, are those that the whole list leaves, and the claim is about that list too.
use mathlib.Core.Path.{◌≡◌, refl, sym, ap, ap₂, ◌∙◌, subst}
use mathlib.Core.Logic.{inl}
use mathlib.Core.Bool.{true≢false, Bool, true, false, cond}
use mathlib.Core.List.{List, [], ◌∷◌, ◌++◌, append_assoc}
use Prim.Native.Nat.{ℕ, ◌+◌, ◌≤◌, ◌<◌}
use native.Mathlib.Decide.{dec_le, ℕ_discrete}
use native.Mathlib.Nat.{le_trans, le_of_eq, add_assoc, zero-add}
use native.Mathlib.Omega.{arith}
use lib.IntN.{pos, ◌+ℤ◌}
use lib.ListN.{length}
use Rattle.pattern_spec.specs.Answer.{done, is_done}
use Rattle.rounding_spec.specs.Format.{binary32}
use Rattle.augmented_spec.specs.Pairs.{Halves, pair_of}
use Rattle.accumulator_spec.specs.Totals.{total_size, most_terms, number, count, sign_word, total_of, fit, sign_of_both, Term, finite_operands, pair_answer, reading}
use Rattle.accumulator_spec.specs.Joins.{joining, after_joining}
use Rattle.accumulator_spec.proofs.Answers.{reading-length, reading-unfit}
use Rattle.accumulator_spec.proofs.Held.{total-same}
use Rattle.accumulator_spec.proofs.Joining.{joins, after-joined}
use Rattle.conservation_spec.specs.Lists.{most_questions, Totals, Event, asks, reads, adds, operation_for, enters, one_sum, one_product}
use Rattle.conservation_spec.specs.Lists.{after_event, after_events, book, book_sign, questions, entering_sums, entering_products, book_value}
use Rattle.conservation_spec.specs.Claim.{BothHold}
use Rattle.conservation_spec.specs.Theorems.{Allowed, cleared, after_joining_both, PartsJoined}
use Rattle.conservation_spec.proofs.Allowed.{asks-only, asks-allowed, reads-allowed, adds-allowed, allowed-here, allowed-append}
use Rattle.conservation_spec.proofs.Book.{book-append, sign-append}
use Rattle.conservation_spec.proofs.Calls.{questions-append}
use Rattle.conservation_spec.proofs.Claim.{entered, start, conserved}
use Rattle.conservation_spec.proofs.Conservation.{first_terms, other_terms}
use Rattle.conservation_spec.proofs.Full.{eight-last}

-- ---- the terms of two lists
sums-append : (es fs : List Event) → entering_sums (es ++ fs) ≡ entering_sums es + entering_sums fs
unfolding entering_sums
sums-append [] fs = sym (zero-add (entering_sums fs))
sums-append (asks q ∷ es) fs =
    let n = cond (enters q) (one_sum (operation_for q)) 0 in ap (λ (m : ℕ). n + m) (sums-append es fs) ∙ sym (add_assoc n (entering_sums es) (entering_sums fs))
sums-append (reads side ∷ es) fs = sums-append es fs
sums-append (adds side x ∷ es) fs = sums-append es fs

products-append : (es fs : List Event) → entering_products (es ++ fs) ≡ entering_products es + entering_products fs
unfolding entering_products
products-append [] fs = sym (zero-add (entering_products fs))
products-append (asks q ∷ es) fs =
    let n = cond (enters q) (one_product (operation_for q)) 0 in
    ap (λ (m : ℕ). n + m) (products-append es fs) ∙ sym (add_assoc n (entering_products es) (entering_products fs))
products-append (reads side ∷ es) fs = products-append es fs
products-append (adds side x ∷ es) fs = products-append es fs

-- ---- a total that reads a pair is fit
module _ (t : List ℕ) (p : Halves) (e : reading t ≡ pair_answer p) where
  full : length t ≡ total_size
  full = elim (ℕ_discrete (length t) total_size) [ yes h ↦ h | no h ↦ absurd (true≢false (sym (ap is_done e) ∙ ap is_done (reading-length t h))) ]

  fits : fit t ≡ true
  fits = go (fit t) refl
    where
      go : (b : Bool) → fit t ≡ b → b ≡ true
      go true h = refl
      go false h = absurd (true≢false (sym (ap is_done e) ∙ ap is_done (reading-unfit t full h)))

-- ---- one total of each part
record Holds (t : List ℕ) (es : List Event) (n : ℕ) : Type 0 where
  is : number t ≡ book es
  counted : count t ≡ n
  word : sign_word t ≡ book_sign es
  read : reading t ≡ pair_answer (pair_of binary32 (book_value es))

module _ (t : Totals) (es : List Event) (b : BothHold t es) where
  first_holds : Holds t.first es (first_terms es)
  first_holds = record { is = b.first_number; counted = b.first_count; word = b.first_sign; read = b.first_read }

  other-holds : Holds t.other es (other_terms es)
  other-holds = record { is = b.other_number; counted = b.other_count; word = b.other_sign; read = b.other_read }

module _ (t u : List ℕ) (es fs : List Event) (m n : ℕ) (h : Holds t es m) (k : Holds u fs n) (room : m + n ≤ most_terms) where
  joined : joining t u ≡ done tt
  joined =
      let p = pair_of binary32 (book_value es) in
      let q = pair_of binary32 (book_value fs) in
      joins t u (full t p h.read) (fits t p h.read) (full u q k.read) (fits u q k.read) (le_trans (le_of_eq (ap₂ ◌+◌ h.counted k.counted)) room)

  words-joined : after_joining t u ≡ total_of (book es +ℤ book fs) (m + n) (sign_of_both (book_sign es) (book_sign fs))
  words-joined = after-joined t u joined ∙ total-same (ap₂ ◌+ℤ◌ h.is k.is) (ap₂ ◌+◌ h.counted k.counted) (ap₂ sign_of_both h.word k.word)

-- ---- the claim is about the one list after the other
-- without a question S is 0
nothing-booked : (es : List Event) → questions es ≡ 0 → (book es ≡ pos 0) × (book_sign es ≡ 0)
unfolding questions book book_sign
nothing-booked [] h = (refl, refl)
nothing-booked (asks q ∷ es) h = absurd (omega arith)
nothing-booked (reads side ∷ es) h = nothing-booked es h
nothing-booked (adds side x ∷ es) h = nothing-booked es h

special : (x : Term) (f : Bool) → finite_operands x ≡ f → (finite_operands x ≡ true → ⊥) → finite_operands x ≡ false
special x false e n = e
special x true e n = absurd (n e)

module _ (c d : List ℕ) (lc : length c ≡ total_size) (ld : length d ≡ total_size) where
  -- a list that leaves room for a question has additions of infinities and NaNs only, so that it may stand on any totals
  anywhere : (before after : List Event) → Allowed (cleared c d) (before ++ after) → questions (before ++ after) < most_questions → (t : Totals) → Allowed t after
  unfolding Allowed
  anywhere before [] w few t = tt
  anywhere before (asks q ∷ after) w few t =
      let same = append_assoc before (asks q ∷ []) after in
      let h = allowed-here (cleared c d) before after (asks q) w in
      (asks-allowed t q (asks-only (after_events (cleared c d) before) q h.1), anywhere (before ++ (asks q ∷ [])) after (rw same w) (rw same few) (after_event t (asks q)))
  anywhere before (reads side ∷ after) w few t =
      let same = append_assoc before (reads side ∷ []) after in
      (reads-allowed t side, anywhere (before ++ (reads side ∷ [])) after (rw same w) (rw same few) (after_event t (reads side)))
  anywhere before (adds side x ∷ after) w few t =
      let same = append_assoc before (adds side x ∷ []) after in
      let n = questions-append before (adds side x ∷ after) in
      let s = special x (finite_operands x) refl (λ f. omega (arith, (eight-last c d before after side x lc ld (omega arith) w f).1)) in
      (adds-allowed t side x (inl s), anywhere (before ++ (adds side x ∷ [])) after (rw same w) (rw same few) (after_event t (adds side x)))

  module _ (a b : List ℕ) (es fs : List Event) (la : length a ≡ total_size) (lb : length b ≡ total_size) (h : questions es + questions fs ≤ most_questions) where
    -- where the second has all questions, the first has left its totals cleared
    still-cleared : Allowed (cleared a b) es → questions es ≡ 0 → after_events (cleared a b) es ≡ cleared c d
    still-cleared w n =
        let k = (conserved a b es la lb (omega arith) w).0 in
        let e = entered es in
        let z = nothing-booked es n in
        let f : first_terms es ≡ 0 = omega arith in
        let o : other_terms es ≡ 0 = omega arith in
        ap₂ {C = Totals} (λ (t u : List ℕ). record { first = t; other = u }) (k.first_words ∙ total-same z.0 f z.1) (k.other_words ∙ total-same z.0 o z.1) ∙ sym (start c d lc ld)

    whole-allowed : Allowed (cleared a b) es → Allowed (cleared c d) fs → Allowed (cleared a b) (es ++ fs)
    whole-allowed v w =
        allowed-append (cleared a b) es fs v (elim (dec_le most_questions (questions fs)) [
          | yes m ↦ subst (λ (t : Totals). Allowed t fs) (sym (still-cleared v (omega arith))) w
          | no m ↦ anywhere [] fs w (omega arith) (after_events (cleared a b) es)
        ])

pub parts-joined : PartsJoined
parts-joined a b c d es fs la lb lc ld h v w =
    let t = after_events (cleared a b) es in
    let u = after_events (cleared c d) fs in
    let k = (conserved a b es la lb (omega arith) v).0 in
    let l = (conserved c d fs lc ld (omega arith) w).0 in
    let whole = whole-allowed c d lc ld a b es fs la lb h v w in
    let r = (conserved a b (es ++ fs) la lb (le_trans (le_of_eq (questions-append es fs)) h) whole).0 in
    let s = sums-append es fs in
    let p = products-append es fs in
    let z = sym (book-append es fs) in
    let e = entered es in
    let f = entered fs in
    let few : first_terms es + first_terms fs ≤ most_terms = omega arith in
    let few' : other_terms es + other_terms fs ≤ most_terms = omega arith in
    let i : first_terms es + first_terms fs ≡ first_terms (es ++ fs) = omega arith in
    let j : other_terms es + other_terms fs ≡ other_terms (es ++ fs) = omega arith in
    let g = sym (sign-append es fs) in
    let first = words-joined t.first u.first es fs (first_terms es) (first_terms fs) (first_holds t es k) (first_holds u fs l) few in
    let other = words-joined t.other u.other es fs (other_terms es) (other_terms fs) (other-holds t es k) (other-holds u fs l) few' in
    let same : after_joining_both t u ≡ after_events (cleared a b) (es ++ fs) =
    ap₂ {C = Totals} (λ (x y : List ℕ). record { first = x; other = y }) (first ∙ total-same z i g ∙ sym r.first_words) (other ∙ total-same z j g ∙ sym r.other_words) in (
      joined t.first u.first es fs (first_terms es) (first_terms fs) (first_holds t es k) (first_holds u fs l) few,
      joined t.other u.other es fs (other_terms es) (other_terms fs) (other-holds t es k) (other-holds u fs l) few',
      same,
      whole,
      subst (λ (x : Totals). BothHold x (es ++ fs)) (sym same) r,
    )
