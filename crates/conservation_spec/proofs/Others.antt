-- Readings and additions refused by 7, before, between and after any questions.
use mathlib.Core.Path.{◌≡◌, refl, sym, ap, ap₂, ◌∙◌, subst}
use mathlib.Core.Logic.{inl}
use mathlib.Core.Bool.{false, cond, ◌&&◌}
use mathlib.Core.List.{List, [], ◌∷◌, ◌++◌, map}
use Prim.Native.Nat.{ℕ, suc, ◌+◌}
use native.Mathlib.Nat.{le_trans, le_of_eq}
use lib.Dec.{eqb}
use lib.IntN.{ℤ, pos, ◌+ℤ◌}
use lib.ListN.{length}
use Rattle.rounding_spec.specs.Value.{decode}
use Rattle.accumulator_spec.specs.Totals.{Term, of_pattern, of_product, finite_operands}
use Rattle.conservation_spec.specs.Lists.{Posed, operation_for, enters, exact_of_patterns, sign_of_patterns, one_sum, one_product, Totals, Side, on_first, on_other}
use Rattle.conservation_spec.specs.Lists.{Event, asks, reads, adds, after_event, after_events, book, book_sign, questions, entering_sums, entering_products}
use Rattle.conservation_spec.specs.Claim.{BothHold, Met}
use Rattle.conservation_spec.specs.Theorems.{Allowed, cleared, other_calls, with_other_calls, OnPatterns, AmongOthers}
use Rattle.conservation_spec.proofs.Allowed.{asks-allowed, reads-allowed, adds-allowed, allowed-first}
use Rattle.conservation_spec.proofs.Conservation.{holding, first_terms, other_terms}
use Rattle.conservation_spec.proofs.Claim.{conserved}
use Rattle.conservation_spec.proofs.Calls.{met-each}

-- ---- their operands
infinity-special : finite_operands (of_pattern 0x7f80_0000) ≡ false
unfolding decode
infinity-special = refl

negative-special : finite_operands (of_pattern 0xff80_0000) ≡ false
unfolding decode
negative-special = refl

left-special : finite_operands (of_product 0x7fc0_0000 0x3f80_0000) ≡ false
unfolding decode
left-special = refl

right-special : finite_operands (of_product 0x3f80_0000 0x7f80_0001) ≡ false
unfolding decode
right-special = refl

-- ---- they are allowed, whatever the totals
abbrev Anywhere : List Event → Type 0
Anywhere es = (t : Totals) → Allowed t es

reading-anywhere : (side : Side) (es : List Event) → Anywhere es → Anywhere (reads side ∷ es)
reading-anywhere side es h t = allowed-first t (reads side) es (reads-allowed t side) (h t)

adding-anywhere : (side : Side) (x : Term) (es : List Event) → finite_operands x ≡ false → Anywhere es → Anywhere (adds side x ∷ es)
adding-anywhere side x es e h t = allowed-first t (adds side x) es (adds-allowed t side x (inl e)) (h (after_event t (adds side x)))

calls-anywhere : (es : List Event) → Anywhere es → Anywhere (other_calls ++ es)
calls-anywhere es h =
    reading-anywhere on_first _
    (reading-anywhere on_other _
    (adding-anywhere on_first (of_pattern 0x7f80_0000) _ infinity-special
    (adding-anywhere on_other (of_pattern 0xff80_0000) _ negative-special
    (adding-anywhere on_first (of_product 0x7fc0_0000 0x3f80_0000) _ left-special
    (adding-anywhere on_other (of_product 0x3f80_0000 0x7f80_0001) es right-special h)))))

among-allowed : (qs : List Posed) → OnPatterns qs → Anywhere (with_other_calls qs)
unfolding Allowed with_other_calls OnPatterns
among-allowed [] w = calls-anywhere [] (λ t. tt)
among-allowed (q ∷ qs) w = calls-anywhere (asks q ∷ with_other_calls qs) (λ t. (asks-allowed t q (w.0, w.1), among-allowed qs w.2 (after_event t (asks q))))

alone-allowed : (qs : List Posed) → OnPatterns qs → Anywhere (map asks qs)
unfolding Allowed OnPatterns
alone-allowed [] w t = tt
alone-allowed (q ∷ qs) w t = (asks-allowed t q (w.0, w.1), alone-allowed qs w.2 (after_event t (asks q)))

-- ---- they count for nothing
among-questions : (qs : List Posed) → questions (with_other_calls qs) ≡ length qs
unfolding questions with_other_calls
among-questions [] = refl
among-questions (q ∷ qs) = ap suc (among-questions qs)

alone-questions : (qs : List Posed) → questions (map asks qs) ≡ length qs
unfolding questions
alone-questions [] = refl
alone-questions (q ∷ qs) = ap suc (alone-questions qs)

among-book : (qs : List Posed) → book (with_other_calls qs) ≡ book (map asks qs)
unfolding book with_other_calls
among-book [] = refl
among-book (q ∷ qs) = ap (λ (z : ℤ). cond (enters q) (exact_of_patterns (operation_for q) q.x q.y) (pos 0) +ℤ z) (among-book qs)

among-sums : (qs : List Posed) → entering_sums (with_other_calls qs) ≡ entering_sums (map asks qs)
unfolding entering_sums with_other_calls
among-sums [] = refl
among-sums (q ∷ qs) = ap (λ (n : ℕ). cond (enters q) (one_sum (operation_for q)) 0 + n) (among-sums qs)

among-products : (qs : List Posed) → entering_products (with_other_calls qs) ≡ entering_products (map asks qs)
unfolding entering_products with_other_calls
among-products [] = refl
among-products (q ∷ qs) = ap (λ (n : ℕ). cond (enters q) (one_product (operation_for q)) 0 + n) (among-products qs)

among-sign : (qs : List Posed) → book_sign (with_other_calls qs) ≡ book_sign (map asks qs)
unfolding book_sign with_other_calls
among-sign [] = refl
among-sign (q ∷ qs) = ap (cond (enters q && eqb (sign_of_patterns (operation_for q) q.x q.y) 1) 1) (among-sign qs)

-- totals that hold the same S with the same sign word and the same counts
held-alike : (t u : Totals) (es fs : List Event) → BothHold t es → BothHold u fs → book es ≡ book fs → book_sign es ≡ book_sign fs → entering_sums es ≡ entering_sums fs
    → entering_products es ≡ entering_products fs
    → t ≡ u
held-alike t u es fs h k b g s p = words t es h ∙ middle ∙ sym (words u fs k)
  where
    words : (v : Totals) (gs : List Event) → BothHold v gs → v ≡ holding (book gs) (book_sign gs) (first_terms gs) (other_terms gs)
    words v gs j = ap₂ {C = Totals} (λ (m n : List ℕ). record { first = m; other = n }) j.first_words j.other_words

    middle : holding (book es) (book_sign es) (first_terms es) (other_terms es) ≡ holding (book fs) (book_sign fs) (first_terms fs) (other_terms fs)
    middle = rw (b, g, s, p)

-- ---- each addition among them is refused by 7
unfoldable Special : List Event → Type 0
Special [] = Unit {0}
Special (asks q ∷ es) = Special es
Special (reads side ∷ es) = Special es
Special (adds side x ∷ es) = (finite_operands x ≡ false) × Special es

special-at : (before after : List Event) (side : Side) (x : Term) → Special (before ++ (adds side x ∷ after)) → finite_operands x ≡ false
unfolding Special
special-at [] after side x h = h.0
special-at (asks q ∷ before) after side x h = special-at before after side x h
special-at (reads s ∷ before) after side x h = special-at before after side x h
special-at (adds s y ∷ before) after side x h = special-at before after side x h.1

among-special : (qs : List Posed) → Special (with_other_calls qs)
unfolding Special with_other_calls
among-special [] = (infinity-special, (negative-special, (left-special, (right-special, tt))))
among-special (q ∷ qs) = (infinity-special, (negative-special, (left-special, (right-special, among-special qs))))

pub among-others : AmongOthers
among-others a b qs la lb few w =
    let t = cleared a b in
    let es = with_other_calls qs in
    let n : questions es ≡ length qs = among-questions qs in
    let allowed = among-allowed qs w t in
    let k = conserved a b es la lb (le_trans (le_of_eq n) few) allowed in
    let alone = conserved a b (map asks qs) la lb (le_trans (le_of_eq (alone-questions qs)) few) (alone-allowed qs w t) in (
      allowed,
      n,
      k.0,
      k.1,
      held-alike (after_events t es) (after_events t (map asks qs)) es (map asks qs) k.0 alone.0 (among-book qs) (among-sign qs) (among-sums qs) (among-products qs),
      λ before after side x e.
          let m = met-each t before after (adds side x) (subst (Met t) (sym e) k.1) in
          (m.0 (special-at before after side x (subst Special (sym e) (among-special qs))), m.2),
    )
