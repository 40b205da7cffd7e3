-- A list whose terms are all -0: its questions enter, and both totals read -0 twice.
use mathlib.Core.Path.{◌≡◌, refl, sym}
use mathlib.Core.Logic.{◌≢◌, ◌↔◌, ◌⊎◌, inl, inr}
use mathlib.Core.Bool.{true≢false, Bool, true, false, not, ◌&&◌, ◌||◌}
use mathlib.Core.List.{List}
use Prim.Native.Nat.{ℕ, ◌≤◌}
use native.Mathlib.Omega.{arith}
use borrow.Author.Tests.{eqb-true}
use lib.Dec.{eqb, lit<, lit≤}
use lib.Ieee.{size, unlike}
use lib.IntN.{pos}
use lib.ListN.{length}
use Rattle.pattern_spec.proofs.Truth.{both_of}
use Rattle.rounding_spec.specs.Round.{keep, last_place}
use Rattle.rounding_spec.specs.Value.{decode}
use Rattle.pattern_spec.specs.Exact.{times}
use Rattle.augmented_spec.specs.Direct.{direct_pair}
use Rattle.worksheet_spec.specs.Lines.{sheet_size}
use Rattle.conservation_spec.specs.Lists.{Posed, enters, Totals, book, book_sign, questions, entering_sums, entering_products}
use Rattle.conservation_spec.specs.Theorems.{Allowed, cleared, minus_zero_questions, MinusZeroList, MinusZerosAre, QuestionTerms}
use Rattle.conservation_spec.proofs.Claim.{conserved, enters-exactly}

module _ (words : List ℕ) (long : sheet_size ≤ length words) where
  abbrev sums : Posed
  sums = record { operation = 1; x = 0x8000_0000; y = 0x8000_0000; words = words }

  abbrev differences : Posed
  differences = record { operation = 2; x = 0x8000_0000; y = 0; words = words }

  abbrev products : Posed
  products = record { operation = 3; x = 0x8000_0000; y = 0x3f80_0000; words = words }

  sum-enters : enters sums ≡ true
  unfolding direct_pair times keep last_place size decode
  sum-enters = (enters-exactly sums).1 (lit≤ tt, lit≤ tt, long, refl, refl, refl)

  difference-enters : enters differences ≡ true
  unfolding direct_pair times keep last_place size decode
  difference-enters = (enters-exactly differences).1 (lit≤ tt, lit≤ tt, long, refl, refl, refl)

  product-enters : enters products ≡ true
  unfolding direct_pair times keep last_place size decode
  product-enters = (enters-exactly products).1 (lit≤ tt, lit≤ tt, long, refl, refl, refl)

  minus-allowed : (t : Totals) → Allowed t (minus_zero_questions words)
  unfolding Allowed
  minus-allowed t = ((lit< tt, lit< tt), ((lit< tt, lit< tt), ((lit< tt, lit< tt), tt)))

pub minus-zero-list : MinusZeroList
unfolding book book_sign questions entering_sums entering_products decode
minus-zero-list a b words la lb long =
    let es = minus_zero_questions words in
    let one = sum-enters words long in
    let two = difference-enters words long in
    let three = product-enters words long in
    let sums : entering_sums es ≡ 2 = rw (one, two, three) in
    let products : entering_products es ≡ 1 = rw (one, two, three) in
    let none : book es ≡ pos 0 = rw (one, two, three) in
    let sign : book_sign es ≡ 0 = rw (one, two, three) in
    let k = (conserved a b es la lb (omega arith) (minus-allowed words long (cleared a b))).0 in
    let r = k.minus_read none sign (omega (arith, sums, products)) in
    (sums, products, none, sign, r.0, r.1)

-- ---- which questions are such, and their terms
two-zeros : (p q : Bool) (a b : ℕ) → (p && eqb a 0 && (q && eqb b 0) ≡ true) ↔ ((p ≡ true) × (a ≡ 0) × (q ≡ true) × (b ≡ 0))
two-zeros p q a b = (
  λ e.
      let k = both_of (p && eqb a 0) (q && eqb b 0) e in
      let f = both_of p (eqb a 0) k.0 in
      let g = both_of q (eqb b 0) k.1 in
      (f.0, eqb-true a 0 f.1, g.0, eqb-true b 0 g.1),
  λ h. rw (h.0, h.1, h.2, h.3),
)

not-true-is : (t : Bool) → (not t ≡ true) ↔ (t ≡ false)
not-true-is true = (λ e. absurd (true≢false (sym e)), λ e. absurd (true≢false e))
not-true-is false = (λ e. refl, λ e. refl)

unlike-is : (s t : Bool) → (unlike s t ≡ true) ↔ (s ≢ t)
unlike-is true true = (λ e. absurd (true≢false (sym e)), λ n. absurd (n refl))
unlike-is true false = (λ e. true≢false, λ n. refl)
unlike-is false true = (λ e q. true≢false (sym q), λ n. refl)
unlike-is false false = (λ e. absurd (true≢false (sym e)), λ n. absurd (n refl))

either-zero : (a b : ℕ) → ((eqb a 0 || eqb b 0) ≡ true) ↔ ((a ≡ 0) ⊎ (b ≡ 0))
either-zero a b = (
  λ e. go (eqb a 0) refl e,
  λ h. elim h [ inl z ↦ rw z | inr z ↦ rw z (or-true (eqb a 0)) ],
)
  where
    or-true : (c : Bool) → (c || true) ≡ true
    or-true true = refl
    or-true false = refl

    go : (c : Bool) → eqb a 0 ≡ c → (c || eqb b 0) ≡ true → (a ≡ 0) ⊎ (b ≡ 0)
    go true z e = inl (eqb-true a 0 z)
    go false z e = inr (eqb-true b 0 e)

pub minus-zeros-are : MinusZerosAre
minus-zeros-are s t a b =
    let d = two-zeros s (not t) a b in
    let n = not-true-is t in
    let u = unlike-is s t in
    let z = either-zero a b in (
      two-zeros s t a b,
      (λ e. let k = d.0 e in (k.0, k.1, n.0 k.2, k.3), λ h. d.1 (h.0, h.1, n.1 h.2, h.3)),
      (λ e. let k = both_of (unlike s t) (eqb a 0 || eqb b 0) e in (u.0 k.0, z.0 k.1), λ h. rw (u.1 h.0, z.1 h.1)),
    )

pub question-terms : QuestionTerms
question-terms x y s = (refl, refl, refl, refl)
