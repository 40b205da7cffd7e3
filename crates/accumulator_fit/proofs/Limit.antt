-- With nothing in the two top words, what is left of the limits.
use Rattle.std.proofs.Common.{◌≡◌, ℕ, ◌+◌, ◌*◌, ◌%◌, ◌^◌, ◌<◌, ◌≤◌, Bool, true, false, cond, ltb, leb, List, length, get_or, take, sym, refl, ◌∙◌, mod-eq_of_lt, arith, ltb-false, ltb-true, le-leb}
use native.Mathlib.Decide.{dec_le}
use borrow.Author.Tests.{lt-leb}
use lib.Bits.{bit_xor}
use Rattle.accumulator_spec.specs.Words.{Words, all_zero, complement}
use Rattle.accumulator_spec.specs.Totals.{number_size, most_terms, within_limits, sign_fits, count, sign_word}
use Rattle.accumulator_spec.proofs.Carry.{turn-xor}
use Rattle.accumulator_spec.proofs.Fitness.{inside, below, above, at-limit}
use Rattle.accumulator_spec.proofs.Zeros.{zero-natural, zero-integer}
use Rattle.accumulator_spec.proofs.Parts.{take_words}
use Rattle.accumulator_fit.specs.Inner.{below_limit}

-- two words as one number of 64 bits, which with 1 added is 0 or 1
module _ (v w : ℕ) (fits : v < 2 ^ 32) (also : w < 2 ^ 32) where
  all_ones : 2147483648 ≤ w → (v + w * 4294967296 + 1) % 2 ^ 64 ≤ 1 → (w ≡ 4294967295) × (v ≡ 4294967295)
  all_ones k h =
      elim (dec_le (2 ^ 64) (v + w * 4294967296 + 1)) [
        | yes g ↦ (omega arith, omega arith)
        | no g ↦ let e = mod-eq_of_lt {n = v + w * 4294967296 + 1} {m = 2 ^ 64} (omega arith) in absurd (omega arith)
      ]

  all-zeros : w < 2147483648 → (v + w * 4294967296 + 1) % 2 ^ 64 ≤ 1 → (w ≡ 0) × (v ≡ 0)
  all-zeros k h = let e = mod-eq_of_lt {n = v + w * 4294967296 + 1} {m = 2 ^ 64} (omega arith) in (omega arith, omega arith)

module _ (t : List ℕ) (long : number_size < length t) (words : Words t) (room : count t ≤ most_terms) where
  abbrev limit : ℕ
  limit = count t * 1024

  negative : true ≡ leb 2147483648 (get_or t 19 0) → complement (get_or t 19 0) ≡ 0 → complement (get_or t 18 0) ≡ 0 → below_limit (take 17 t) true (complement (get_or t 17 0)) limit ≡ within_limits t
  negative e z y = go (ltb (complement (get_or t 17 0)) limit) refl
    where
      go : (b : Bool) → ltb (complement (get_or t 17 0)) limit ≡ b → below_limit (take 17 t) true (complement (get_or t 17 0)) limit ≡ within_limits t
      go true p = rw p (inside t long words room true e z y (ltb-true (complement (get_or t 17 0)) limit p))
      go false p = rw p (below t long words room e (ltb-false (complement (get_or t 17 0)) limit p))

  positive : false ≡ leb 2147483648 (get_or t 19 0) → get_or t 19 0 ≡ 0 → get_or t 18 0 ≡ 0 → below_limit (take 17 t) false (get_or t 17 0) limit ≡ within_limits t
  positive e z y = go (ltb (get_or t 17 0) limit) refl (ltb limit (get_or t 17 0)) refl
    where
      go : (b : Bool) → ltb (get_or t 17 0) limit ≡ b → (c : Bool) → ltb limit (get_or t 17 0) ≡ c → below_limit (take 17 t) false (get_or t 17 0) limit ≡ within_limits t
      go true p c q = rw p (inside t long words room false e z y (ltb-true (get_or t 17 0) limit p))
      go false p true q = rw (p, q) (above t long words room e z y (ltb-true limit (get_or t 17 0) q))
      go false p false q = rw (p, q)
          (zero-natural (take 17 t) ∙ at-limit t long words room e z y (ltb-false (get_or t 17 0) limit p) (ltb-false limit (get_or t 17 0) q))

  -- by the sign that word 19 shows
  pub within-fit : (s : Bool) → s ≡ leb 2147483648 (get_or t 19 0) → cond s (complement (get_or t 19 0)) (get_or t 19 0) ≡ 0 → cond s (complement (get_or t 18 0)) (get_or t 18 0) ≡ 0
      → below_limit (take 17 t) s (cond s (complement (get_or t 17 0)) (get_or t 17 0)) limit ≡ within_limits t
  within-fit true e z y = negative e z y
  within-fit false e z y = positive e z y

  -- the code reads the two words at once, and turns the third by the top one
  pub well-within : (get_or t 18 0 + get_or t 19 0 * 4294967296 + 1) % 2 ^ 64 ≤ 1 → bit_xor (get_or t 17 0) (get_or t 19 0) < limit → true ≡ within_limits t
  well-within h l =
      elim (dec_le 2147483648 (get_or t 19 0)) [
        | yes k ↦
            let (a, b) = all_ones (get_or t 18 0) (get_or t 19 0) (words 18) (words 19) k h in
            let x = turn-xor 32 true (get_or t 17 0) (get_or t 19 0) (words 17) a in
            inside t long words room true (sym (le-leb 2147483648 (get_or t 19 0) k)) (omega arith) (omega arith) (omega (arith, l, x))
        | no k ↦
            let (a, b) = all-zeros (get_or t 18 0) (get_or t 19 0) (words 18) (words 19) (omega arith) h in
            let x = turn-xor 32 false (get_or t 17 0) (get_or t 19 0) (words 17) a in
            inside t long words room false (sym (lt-leb 2147483648 (get_or t 19 0) (omega arith))) a b (omega (arith, l, x))
      ]

-- a number of zeros alone, where the sign word is 0
pub zero-sign-word : (t : List ℕ) → Words t → sign_word t ≡ 0 → all_zero (take number_size t) ≡ sign_fits t
zero-sign-word t words e = zero-integer (take number_size t) (take_words number_size t words) ∙ sym (rw e)
