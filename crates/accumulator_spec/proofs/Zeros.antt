-- Words that are all zero: found so word by word, and made so.
use mathlib.Core.Path.{◌≡◌, refl, sym, ap, ap₂, ◌∙◌}
use mathlib.Core.Bool.{true, false}
use mathlib.Core.List.{List, [], ◌∷◌, map}
use Prim.Native.Nat.{ℕ, zero, suc, ◌+◌, ◌*◌, ◌^◌, ◌≤◌, ◌<◌}
use native.Mathlib.Decide.{dec_le}
use native.Mathlib.Numerals.{add-one}
use native.Mathlib.Omega.{arith}
use borrow.Author.Tests.{eqb-true, ne_eqb}
use lib.Dec.{eqb}
use lib.IntN.{ℤ, nat_abs}
use lib.Pow.{pow_pos}
use lib.ListN.{length, take, drop, set, get_or, replicate, replicate-append-replicate, drop_of_length-le}
use lib.Seq.{drop-cons, take-suc-set}
use Rattle.pattern_spec.proofs.Truth.{both_of}
use Rattle.accumulator_spec.specs.Words.{Words, all_zero, natural, integer, complement}
use Rattle.accumulator_spec.specs.Totals.{zeros, total_size, is_cleared}
use Rattle.accumulator_spec.specs.Theorems.{ClearedZeros}
use Rattle.accumulator_spec.proofs.TwosComplement.{integer-positive, integer-negative}

-- ---- word by word
module _ (ws : List ℕ) (i : ℕ) (inside : i < length ws) where
  pub zero_more : get_or ws i 0 ≡ 0 → all_zero (drop (i + 1) ws) ≡ all_zero (drop i ws)
  unfolding all_zero
  zero_more z = rw (add-one, drop-cons ws i 0 inside, z)

  pub zero-not : (get_or ws i 0 ≡ 0 → ⊥) → false ≡ all_zero (drop i ws)
  unfolding all_zero
  zero-not n = rw (drop-cons ws i 0 inside, ne_eqb (get_or ws i 0) 0 n)

pub zero-done : (ws : List ℕ) (i : ℕ) → length ws ≤ i → true ≡ all_zero (drop i ws)
unfolding all_zero
zero-done ws i h = rw (drop_of_length-le ws h)

-- ---- the number that they hold is zero
pub zero-natural : (ws : List ℕ) → all_zero ws ≡ eqb (natural ws) 0
unfolding all_zero natural
zero-natural [] = refl
zero-natural (zero ∷ ws) = zero-natural ws ∙ sym (no_word (natural ws))
  where
    no_word : (r : ℕ) → eqb (0 + 4294967296 * r) 0 ≡ eqb r 0
    no_word zero = refl
    no_word (suc r) = ne_eqb (0 + 4294967296 * suc r) 0 (λ z. omega arith) ∙ sym (ne_eqb (suc r) 0 (λ z. omega arith))
zero-natural (suc w ∷ ws) = rw (ne_eqb (suc w) 0 (λ z. omega arith), ne_eqb (suc w + 4294967296 * natural ws) 0 (λ z. omega arith))

-- in two's complement too: a number below 0 is none
pub zero-integer : (ws : List ℕ) → Words ws → all_zero ws ≡ eqb (nat_abs (integer ws)) 0
zero-integer ws words =
    elim (dec_le (2 ^ (32 * length ws)) (2 * natural ws)) [
      | yes h ↦
          zero-natural ws ∙ ne_eqb (natural ws) 0 (λ (e : natural ws ≡ 0). some (2 ^ (32 * length ws)) (natural ws) (pow_pos (32 * length ws)) h e)
          ∙ sym (ap (λ (z : ℤ). eqb (nat_abs z) 0) (integer-negative ws words h) ∙ ne_eqb (suc (natural (map complement ws))) 0 (λ (e : suc (natural (map complement ws)) ≡ 0). omega arith))
      | no h ↦ zero-natural ws ∙ sym (ap (λ (z : ℤ). eqb (nat_abs z) 0) (integer-positive ws (below (2 ^ (32 * length ws)) (2 * natural ws) h)))
    ]
  where
    some : (r n : ℕ) → 0 < r → r ≤ 2 * n → n ≡ 0 → ⊥
    some r n h l e = omega arith

    below : (r n : ℕ) → (r ≤ n → ⊥) → n < r
    below r n h = elim (dec_le r n) [ yes l ↦ absurd (h l) | no l ↦ omega arith ]

-- ---- cleared totals
all-zeros : (ws : List ℕ) → all_zero ws ≡ true → ws ≡ replicate (length ws) 0
unfolding all_zero
all-zeros [] e = refl
all-zeros (w ∷ ws) e =
    let p = both_of (eqb w 0) (all_zero ws) e in
    ap₂ {C = List ℕ} (λ (v : ℕ) (vs : List ℕ). v ∷ vs) (eqb-true w 0 p.0) (all-zeros ws p.1)

pub is-zeros : (t : List ℕ) → is_cleared t ≡ true → t ≡ zeros
is-zeros t e =
    let p = both_of (eqb (length t) total_size) (all_zero t) e in
    all-zeros t p.1 ∙ ap (λ (k : ℕ). replicate k 0) (eqb-true (length t) total_size p.0)

pub cleared-zeros : ClearedZeros
unfolding all_zero
cleared-zeros t = (is-zeros t, λ e. ap is_cleared e)

-- ---- clearing word by word
pub clear-more : (ws : List ℕ) (i : ℕ) → i < length ws → take i ws ≡ replicate i 0 → take (i + 1) (set ws i 0) ≡ replicate (i + 1) 0
clear-more ws i h e =
    rw (add-one, take-suc-set ws i 0 h, e) (replicate-append-replicate {A = ℕ} i 1 0 ∙ ap (λ (n : ℕ). replicate n 0) (add-one i))
