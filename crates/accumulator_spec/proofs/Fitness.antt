-- Count and number within their limits, by the number's top three words; the words below them count at the limit alone.
use mathlib.Core.Path.{◌≡◌, sym, ap, ◌∙◌}
use mathlib.Core.Bool.{Bool, true, false, cond}
use mathlib.Core.List.{List, [], ◌∷◌, ◌++◌, map, map-append}
use Prim.Native.Nat.{ℕ, suc, ◌+◌, ◌-◌, ◌*◌, ◌^◌, ◌≤◌, ◌<◌}
use native.Mathlib.Nat.{mul_assoc}
use native.Mathlib.Omega.{arith}
use borrow.Author.Tests.{le-leb, lt-leb, leb-true, leb-false}
use lib.Dec.{leb, eqb}
use lib.IntN.{nat_abs}
use lib.ListN.{length, length-map, drop, get_or, take}
use lib.Seq.{drop-cons, take-add, get_or-take, length-take-le}
use Rattle.accumulator_spec.specs.Words.{Words, natural, complement}
use Rattle.accumulator_spec.proofs.Append.{natural-append}
use Rattle.accumulator_spec.proofs.Parts.{take_words}
use Rattle.accumulator_spec.proofs.TwosComplement.{natural-complement}
use Rattle.accumulator_spec.specs.Totals.{number_size, most_terms, within_limits, count, number}
use Rattle.accumulator_spec.proofs.Top as by-top
use Rattle.accumulator_spec.proofs.Limit.{strictly-under, strictly-over, under, over, level}

-- over a variable m, as a power of two is one for omega
both_below : (x y m : ℕ) → x + y + 1 ≡ m → (y < m) × (x < m)
both_below x y m e = (omega arith, omega arith)

module _ (t : List ℕ) (long : number_size < length t) (words : Words t) where
  abbrev low : ℕ
  low = natural (take 17 t)

  abbrev low-complement : ℕ
  low-complement = natural (map complement (take 17 t))

  abbrev top : ℕ
  top = get_or t 17 0 + 4294967296 * (get_or t 18 0 + 4294967296 * (get_or t 19 0 + 4294967296 * 0))

  abbrev top-complement : ℕ
  top-complement = 4294967295 - get_or t 17 0 + 4294967296 * (4294967295 - get_or t 18 0 + 4294967296 * (4294967295 - get_or t 19 0 + 4294967296 * 0))

  three-of : take 3 (drop 17 t) ≡ get_or t 17 0 ∷ get_or t 18 0 ∷ get_or t 19 0 ∷ []
  three-of = rw (drop-cons t 17 0 (omega arith), drop-cons t 18 0 (omega arith), drop-cons t 19 0 (omega arith))

  whole : take number_size t ≡ take 17 t ++ (get_or t 17 0 ∷ get_or t 18 0 ∷ get_or t 19 0 ∷ [])
  whole = take-add 17 3 t ∙ ap (λ (l : List ℕ). take 17 t ++ l) three-of

  low-length : length (take 17 t) ≡ 17
  low-length = length-take-le 17 t (omega arith)

  number-full : length (take number_size t) ≡ number_size
  number-full = length-take-le number_size t (omega arith)

  split : natural (take number_size t) ≡ low + 2 ^ 544 * top
  unfolding natural
  split = rw (whole, natural-append (take 17 t) (get_or t 17 0 ∷ get_or t 18 0 ∷ get_or t 19 0 ∷ []), low-length)

  split-complement : natural (map complement (take number_size t)) ≡ low-complement + 2 ^ 544 * top-complement
  unfolding natural
  split-complement =
      rw (
        whole,
        map-append complement (take 17 t) (get_or t 17 0 ∷ get_or t 18 0 ∷ get_or t 19 0 ∷ []),
        natural-append (map complement (take 17 t)) (complement (get_or t 17 0) ∷ complement (get_or t 18 0) ∷ complement (get_or t 19 0) ∷ []),
        length-map (take 17 t) complement,
        low-length,
      )

  bounds : (low < 2 ^ 544) × (low-complement < 2 ^ 544)
  bounds = both_below low-complement low (2 ^ 544) (natural-complement (take 17 t) (take_words 17 t words) ∙ ap (λ (k : ℕ). 2 ^ (32 * k)) low-length)

  -- ---- the magnitude, by the sign that word 19 shows
  shown : get_or (take number_size t) 19 0 ≡ get_or t 19 0
  shown = get_or-take number_size t 19 0 (omega arith)

  pub positive : get_or t 19 0 < 2147483648 → nat_abs (number t) ≡ low + 2 ^ 544 * top
  positive h = ap nat_abs (by-top.positive 19 (take number_size t) number-full (take_words number_size t words) (rw shown h)) ∙ split

  pub negative : 2147483648 ≤ get_or t 19 0 → nat_abs (number t) ≡ suc (low-complement + 2 ^ 544 * top-complement)
  negative h = ap nat_abs (by-top.negative 19 (take number_size t) number-full (take_words number_size t words) (rw shown h)) ∙ ap suc split-complement

  -- ---- the limit counts 2 ^ 544 too
  limit : count t * 2 ^ 554 ≡ count t * 1024 * 2 ^ 544
  limit = sym (mul_assoc (count t) 1024 (2 ^ 544))

  module _ (room : count t ≤ most_terms) where
    by_number : (m : ℕ) → nat_abs (number t) ≡ m → within_limits t ≡ leb m (count t * 1024 * 2 ^ 544)
    by_number m e = rw (le-leb (count t) most_terms room, e, limit)

    by-positive : get_or t 19 0 < 2147483648 → within_limits t ≡ leb (low + 2 ^ 544 * top) (count t * 1024 * 2 ^ 544)
    by-positive h = by_number (low + 2 ^ 544 * top) (positive h)

    by-negative : 2147483648 ≤ get_or t 19 0 → within_limits t ≡ leb (suc (low-complement + 2 ^ 544 * top-complement)) (count t * 1024 * 2 ^ 544)
    by-negative h = by_number (suc (low-complement + 2 ^ 544 * top-complement)) (negative h)

    -- the code compares the top words as they are, or their complements
    pub over-top : (s : Bool) → s ≡ leb 2147483648 (get_or t 19 0) → (cond s (complement (get_or t 19 0)) (get_or t 19 0) ≡ 0 → ⊥) → false ≡ within_limits t
    over-top false e n = let h = leb-false 2147483648 (get_or t 19 0) (sym e) in sym (by-positive h ∙ over low (2 ^ 544) top (count t * 1024) bounds.0 (omega arith))
    over-top true e n =
        let h = leb-true 2147483648 (get_or t 19 0) (sym e) in
        let k = words 19 in
        sym (by-negative h ∙ strictly-over low-complement (2 ^ 544) top-complement (count t * 1024) bounds.1 (omega arith))

    pub over-next : (s : Bool) → s ≡ leb 2147483648 (get_or t 19 0) → (cond s (complement (get_or t 18 0)) (get_or t 18 0) ≡ 0 → ⊥) → false ≡ within_limits t
    over-next false e n = let h = leb-false 2147483648 (get_or t 19 0) (sym e) in sym (by-positive h ∙ over low (2 ^ 544) top (count t * 1024) bounds.0 (omega arith))
    over-next true e n =
        let h = leb-true 2147483648 (get_or t 19 0) (sym e) in
        let k = words 18 in
        sym (by-negative h ∙ strictly-over low-complement (2 ^ 544) top-complement (count t * 1024) bounds.1 (omega arith))

    -- with nothing in the two words above, word 17 tells
    pub inside : (s : Bool) → s ≡ leb 2147483648 (get_or t 19 0) → cond s (complement (get_or t 19 0)) (get_or t 19 0) ≡ 0 → cond s (complement (get_or t 18 0)) (get_or t 18 0) ≡ 0
        → cond s (complement (get_or t 17 0)) (get_or t 17 0) < count t * 1024 → true ≡ within_limits t
    inside false e z y l = sym (by-positive (leb-false 2147483648 (get_or t 19 0) (sym e)) ∙ under low (2 ^ 544) top (count t * 1024) bounds.0 (omega arith))
    inside true e z y l =
        let k = words 19 in
        let j = words 18 in
        sym (by-negative (leb-true 2147483648 (get_or t 19 0) (sym e)) ∙ strictly-under low-complement (2 ^ 544) top-complement (count t * 1024) bounds.1 (omega arith))

    pub below : true ≡ leb 2147483648 (get_or t 19 0) → count t * 1024 ≤ complement (get_or t 17 0) → false ≡ within_limits t
    below e l = sym (by-negative (leb-true 2147483648 (get_or t 19 0) (sym e)) ∙ strictly-over low-complement (2 ^ 544) top-complement (count t * 1024) bounds.1 (omega arith))

    module _ (e : false ≡ leb 2147483648 (get_or t 19 0)) (z : get_or t 19 0 ≡ 0) (y : get_or t 18 0 ≡ 0) where
      pub above : count t * 1024 < get_or t 17 0 → false ≡ within_limits t
      above l = sym (by-positive (leb-false 2147483648 (get_or t 19 0) (sym e)) ∙ over low (2 ^ 544) top (count t * 1024) bounds.0 (omega arith))

      pub at-limit : count t * 1024 ≤ get_or t 17 0 → get_or t 17 0 ≤ count t * 1024 → eqb low 0 ≡ within_limits t
      at-limit g l =
          let q : top ≡ count t * 1024 = omega arith in
          sym
          (by-positive (leb-false 2147483648 (get_or t 19 0) (sym e)) ∙ ap (λ (x : ℕ). leb (low + 2 ^ 544 * x) (count t * 1024 * 2 ^ 544)) q ∙ level low (2 ^ 544) (count t * 1024))

pub unfit-count : (t : List ℕ) → most_terms < count t → false ≡ within_limits t
unfit-count t h = rw (lt-leb (count t) most_terms h)
