-- The sum of two numbers in words: word by word with a carry, and as whole numbers in two's complement; in a total with the count behind it.
use mathlib.Core.Path.{◌≡◌, refl, sym, ap, ap₂, ◌∙◌}
use mathlib.Core.Bool.{Bool, true, false, cond}
use mathlib.Core.List.{List, [], ◌∷◌, ◌++◌, append_assoc, append-nil}
use Prim.Native.Nat.{ℕ, suc, ◌+◌, ◌*◌, ◌/◌, ◌%◌, ◌^◌, ◌≤◌, ◌<◌}
use native.Mathlib.Nat.{le_refl, mul-one}
use native.Mathlib.Numerals.{add-one}
use native.Mathlib.Omega.{arith}
use lib.Dec.{ltb}
use lib.IntN.{ℤ, pos, ◌+ℤ◌, ◌-ℤ◌, +ℤ_assoc, +ℤ_comm, -ℤ-+ℤ_cancel}
use lib.ListN.{length, take, drop, set, get_or, drop_of_length-le, length-append, length-drop}
use lib.Seq.{drop-cons, take-suc-set, drop-set-lt, take_all, take_at, length-take-le}
use Rattle.accumulator_spec.specs.Words.{Words, natural, integer, words_of_natural, words_of_integer}
use Rattle.accumulator_spec.specs.Totals.{number_size, total_size, number, total_of}
use Rattle.accumulator_spec.proofs.Carry.{walk, walk_from, walked}
use Rattle.accumulator_spec.proofs.Signed.{walk-integer}
use Rattle.accumulator_spec.proofs.TermAdded.{counted_words}
use Rattle.accumulator_spec.proofs.Complements.{words-length}
use Rattle.accumulator_spec.proofs.TwosComplement.{words-formed}

-- ---- the pass over the words
-- the words below i as they are, and from there on those of what is still to be added
abbrev pub left : ℕ → List ℕ → List ℕ → ℕ → List ℕ
left i ws vs carry = take i ws ++ words_of_natural (length (drop i ws)) (natural (drop i ws) + natural (drop i vs) + carry)

-- one word more
low : (w v a b c : ℕ) → (w + v + c) % 4294967296 ≡ (w + 4294967296 * a + (v + 4294967296 * b) + c) % 4294967296
low w v a b c = omega arith

high : (w v a b c : ℕ) → a + b + (w + v + c) / 4294967296 ≡ (w + 4294967296 * a + (v + 4294967296 * b) + c) / 4294967296
high w v a b c = omega arith

module _ (ws vs : List ℕ) (i carry : ℕ) (inside : i < length ws) (also : i < length vs) where
  abbrev s : ℕ
  s = get_or ws i 0 + get_or vs i 0 + carry

  pub left-more : left (i + 1) (set ws i (s % 2 ^ 32)) vs (s / 2 ^ 32) ≡ left i ws vs carry
  unfolding natural words_of_natural
  left-more =
      let a = natural (drop (suc i) ws) in
      let b = natural (drop (suc i) vs) in
      rw (add-one, take-suc-set ws i (s % 4294967296) inside, drop-set-lt (suc i) ws i (s % 4294967296) (omega arith), drop-cons ws i 0 inside, drop-cons vs i 0 also, append_assoc)
      (ap₂ (λ (x y : ℕ). take i ws ++ (x ∷ words_of_natural (length (drop (suc i) ws)) y)) (low (get_or ws i 0) (get_or vs i 0) a b carry) (high (get_or ws i 0) (get_or vs i 0) a b carry))

-- past the last word nothing is left to do
pub left-none : (ws vs : List ℕ) (i carry : ℕ) → length ws ≤ i → ws ≡ left i ws vs carry
unfolding natural words_of_natural
left-none ws vs i carry h = rw (take_all i ws h, drop_of_length-le ws h, append-nil ws)

-- ---- the range of k words added changes none of them
whole-range : (ws : List ℕ) → Words ws → walk false ws (2 ^ (32 * length ws)) ≡ ws
whole-range ws k =
    ap (walk false ws) (sym (mul-one (2 ^ (32 * length ws)))) ∙ sym (walk_from false (length ws) ws 1 k (le_refl (length ws)))
    ∙ walked false ws (length ws) 1 (le_refl (length ws))

range-more : (k : ℕ) (z : ℤ) → words_of_integer k (z +ℤ pos (2 ^ (32 * k))) ≡ words_of_integer k z
range-more k z =
    let f = words-formed k z in
    sym (walk-integer false k z (2 ^ (32 * k))) ∙ ap (λ (l : ℕ). walk false (words_of_integer k z) (2 ^ (32 * l))) (sym f.0) ∙ whole-range (words_of_integer k z) f.1

-- so that it is all one whether words are taken for a natural or for a whole number
unsigned : (ws : List ℕ) (z : ℤ) → words_of_integer (length ws) (z +ℤ pos (natural ws)) ≡ words_of_integer (length ws) (z +ℤ integer ws)
unfolding integer
unsigned ws z = go (ltb (2 * natural ws) (2 ^ (32 * length ws)))
  where
    go : (b : Bool) → words_of_integer (length ws) (z +ℤ pos (natural ws)) ≡ words_of_integer (length ws) (z +ℤ cond b (pos (natural ws)) (pos (natural ws) -ℤ pos (2 ^ (32 * length ws))))
    go true = refl
    go false =
        let n = pos (natural ws) in
        let r = pos (2 ^ (32 * length ws)) in
        ap (words_of_integer (length ws)) (ap (λ (y : ℤ). z +ℤ y) (sym (-ℤ-+ℤ_cancel n r)) ∙ sym (+ℤ_assoc z (n -ℤ r) r)) ∙ range-more (length ws) (z +ℤ (n -ℤ r))

signed-sum : (ws vs : List ℕ) → length vs ≡ length ws
    → words_of_integer (length ws) (pos (natural ws) +ℤ pos (natural vs)) ≡ words_of_integer (length ws) (integer ws +ℤ integer vs)
signed-sum ws vs e =
    ap (λ (l : ℕ). words_of_integer l (pos (natural ws) +ℤ pos (natural vs))) (sym e) ∙ unsigned vs (pos (natural ws))
    ∙ ap (λ (l : ℕ). words_of_integer l (pos (natural ws) +ℤ integer vs)) e
    ∙ ap (words_of_integer (length ws)) (+ℤ_comm (pos (natural ws)) (integer vs)) ∙ unsigned ws (integer vs) ∙ ap (words_of_integer (length ws)) (+ℤ_comm (integer vs) (integer ws))

-- ---- the number's words after the pass, and two words put behind them: a total with the sum of both numbers
module _ (f s new : List ℕ) (full : length f ≡ total_size) (e : new ≡ words_of_natural (length (take number_size f)) (natural (take number_size f) + natural (take number_size s))) where
  pass-full : length new ≡ number_size
  pass-full = ap (λ (xs : List ℕ). length xs) e ∙ words-length (length (take number_size f)) (natural (take number_size f) + natural (take number_size s)) ∙ length-take-le number_size f (omega arith)

  pub sum-full : length (new ++ drop number_size f) ≡ total_size
  sum-full = let k = pass-full in length-append new (drop number_size f) ∙ omega (arith, k, length-drop number_size f, full)

pub sum-placed : (f s new : List ℕ) (n w : ℕ) → length f ≡ total_size → length s ≡ total_size
    → new ≡ words_of_natural (length (take number_size f)) (natural (take number_size f) + natural (take number_size s))
    → set (set (new ++ drop number_size f) number_size n) (number_size + 1) w ≡ total_of (number f +ℤ number s) n w
unfolding words_of_integer
sum-placed f s new n w full also e =
    let l : length (take number_size f) ≡ number_size = length-take-le number_size f (omega arith) in
    let m : length (take number_size s) ≡ number_size = length-take-le number_size s (omega arith) in
    let z = number f +ℤ number s in
    let is : new ≡ words_of_integer number_size z = e ∙ signed-sum (take number_size f) (take number_size s) (m ∙ sym l) ∙ ap (λ (k : ℕ). words_of_integer k z) l in
    counted_words (new ++ drop number_size f) n w (sum-full f s new full e)
    ∙ ap (λ (xs : List ℕ). xs ++ (n ∷ w ∷ [])) (take_at new (drop number_size f) number_size (pass-full f s new full e) ∙ is)
