-- One join: what is answered, by the conditions in their order; that the sum is exact and the total fit; that a refused one changes nothing;
-- and what the relations of the contracts say.
use mathlib.Core.Path.{◌≡◌, refl, sym, ap, ◌∙◌}
use mathlib.Core.Bool.{Bool, true, false, not, cond}
use mathlib.Core.List.{List}
use Prim.Native.Nat.{ℕ, ◌+◌, ◌≤◌, ◌<◌}
use borrow.Author.Tests.{eq-eqb, ne_eqb, lt-leb, le-leb, eqb-true, leb-true}
use lib.Dec.{eqb}
use lib.IntN.{◌+ℤ◌}
use lib.ListN.{length}
use Rattle.pattern_spec.specs.Answer.{Answer, refused, done, refusal_of}
use Rattle.accumulator_spec.specs.Totals.{total_size, most_terms, number, count, sign_word, fit, sign_of_both}
use Rattle.accumulator_spec.specs.Joins.{room_for_both, joined_total, joining, after_joining}
use Rattle.accumulator_spec.specs.JoinTheorems.{JoiningRefused, AcceptedJoin, ExactJoin, RefusedJoin, JoinedAs, JoinsMeans, JoinsNumberedMeans}
use Rattle.accumulator_spec.proofs.Adding.{held, fit-bounds, fits_both, total-fit, never}
use Rattle.accumulator_spec.proofs.Held.{total-number, total-count, total-sign}
use Rattle.accumulator_spec.proofs.Signs.{sign_zero, zero-sign}

-- ---- what is answered
module _ (f s : List ℕ) where
  pub first-length : (length f ≡ total_size → ⊥) → joining f s ≡ refused 5
  unfolding joining
  first-length n = rw (ne_eqb (length f) total_size n)

  module _ (full : length f ≡ total_size) where
    pub first-unfit : fit f ≡ false → joining f s ≡ refused 6
    unfolding joining
    first-unfit e = rw (eq-eqb (length f) total_size full, e)

    module _ (fits : fit f ≡ true) where
      pub second-length : (length s ≡ total_size → ⊥) → joining f s ≡ refused 5
      unfolding joining
      second-length n = rw (eq-eqb (length f) total_size full, fits, ne_eqb (length s) total_size n)

      module _ (also : length s ≡ total_size) where
        pub second-unfit : fit s ≡ false → joining f s ≡ refused 6
        unfolding joining
        second-unfit e = rw (eq-eqb (length f) total_size full, fits, eq-eqb (length s) total_size also, e)

        module _ (too : fit s ≡ true) where
          pub too_many : most_terms < count f + count s → joining f s ≡ refused 12
          unfolding joining
          too_many h = rw (eq-eqb (length f) total_size full, fits, eq-eqb (length s) total_size also, too, lt-leb (count f + count s) most_terms h)

          pub joins : count f + count s ≤ most_terms → joining f s ≡ done tt
          unfolding joining
          joins h = rw (eq-eqb (length f) total_size full, fits, eq-eqb (length s) total_size also, too, le-leb (count f + count s) most_terms h)

  after-refused : (n : ℕ) → joining f s ≡ refused n → after_joining f s ≡ f
  unfolding after_joining
  after-refused n e = rw e

  pub after-joined : joining f s ≡ done tt → after_joining f s ≡ joined_total f s
  unfolding after_joining
  after-joined e = rw e

pub joining-refused : JoiningRefused
joining-refused f s = (first-length f s, first-unfit f s, second-length f s, second-unfit f s, too_many f s)

pub refused-join : RefusedJoin
refused-join = after-refused

-- ---- where none of the five is met
module _ (a b c d e : Bool) where
  abbrev tried : Answer (Unit {0})
  tried = cond (not a) (refused 5) (cond (not b) (refused 6) (cond (not c) (refused 5) (cond (not d) (refused 6) (cond (not e) (refused 12) (done tt)))))

none-met : (a b c d e : Bool) → tried a b c d e ≡ done tt → (a ≡ true) × (b ≡ true) × (c ≡ true) × (d ≡ true) × (e ≡ true)
none-met false b c d e h = never h
none-met true false c d e h = never h
none-met true true false d e h = never h
none-met true true true false e h = never h
none-met true true true true false h = never h
none-met true true true true true h = (refl, refl, refl, refl, refl)

-- what an accepted join says
pub record Conditions (f s : List ℕ) : Type 0 where
  pub full : length f ≡ total_size
  pub fits : fit f ≡ true
  pub also : length s ≡ total_size
  pub too : fit s ≡ true
  pub room : count f + count s ≤ most_terms

pub conditions : (f s : List ℕ) → joining f s ≡ done tt → Conditions f s
unfolding joining
conditions f s e =
    let p = none-met (eqb (length f) total_size) (fit f) (eqb (length s) total_size) (fit s) (room_for_both f s) e in
    record {
      full = eqb-true (length f) total_size p.0;
      fits = p.1;
      also = eqb-true (length s) total_size p.2;
      too = p.3;
      room = leb-true (count f + count s) most_terms p.4;
    }

pub accepted-join : AcceptedJoin
accepted-join f s k l = (
  λ e. let j = conditions f s e in (record { full = j.full; words = k; fits = j.fits }, record { full = j.also; words = l; fits = j.too }, j.room),
  λ t u h. joins f s t.full t.fits u.full u.fits h,
)

-- ---- the sum is exact, and fit
pub exact-join : ExactJoin
exact-join f s e =
    let j = conditions f s e in
    let z = number f +ℤ number s in
    let n = count f + count s in
    let w = sign_of_both (sign_word f) (sign_word s) in
    let b = fits_both (number f) (count f) (sign_word f) (number s) (count s) (sign_word s) (fit-bounds f j.fits) (fit-bounds s j.too) j.room in
    rw (after-joined f s e) (
      total-fit z n w b,
      total-number z n w (held z n w b),
      total-count z n w,
      (λ h. sign_zero (sign_word f) (sign_word s) (sym (total-sign z n w) ∙ h), λ h. total-sign z n w ∙ zero-sign (sign_word f) (sign_word s) h.0 h.1),
    )

-- ---- what the relations say: g is what an answer is handed over as
module _ {A : Type 0} (g : Answer (Unit {0}) → A) (f s : List ℕ) (answer : A) (after : List ℕ) (e : answer ≡ g (joining f s)) (w : after ≡ after_joining f s) where
  refuses : (n : ℕ) → joining f s ≡ refused n → (answer ≡ g (refused n)) × (after ≡ f)
  refuses n h = (e ∙ ap g h, w ∙ after-refused f s n h)

  joined_as : JoinedAs (λ n. g (refused n)) (g (done tt)) f s answer after
  joined_as = (
    λ n. refuses 5 (first-length f s n),
    λ full h. refuses 6 (first-unfit f s full h),
    λ full fits. (
      λ n. refuses 5 (second-length f s full fits n),
      λ also h. refuses 6 (second-unfit f s full fits also h),
      λ also too. (
        λ h. refuses 12 (too_many f s full fits also too h),
        λ h. let d = joins f s full fits also too h in let k = exact-join f s d in rw w (e ∙ ap g d, k.0, k.1, k.2, k.3),
      ),
    ),
  )

pub joins-means : JoinsMeans
joins-means first second after answer h = joined_as (λ a. a) first second answer after h.0 h.1

pub joins-numbered-means : JoinsNumberedMeans
joins-numbered-means first second after n h = joined_as refusal_of first second n after h.0 h.1
