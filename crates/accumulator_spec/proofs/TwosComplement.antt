-- Two's complement: the words of a whole number hold it, and no others do.
use mathlib.Core.Path.{◌≡◌, refl, sym, ap, ◌∙◌}
use mathlib.Core.List.{List, [], ◌∷◌, map}
use Prim.Native.Nat.{ℕ, zero, suc, ◌+◌, ◌*◌, ◌/◌, ◌%◌, ◌^◌, ◌≤◌, ◌<◌}
use native.Mathlib.Decide.{dec_le}
use native.Mathlib.Omega.{arith}
use borrow.Author.Tests.{lt-ltb, le-ltb}
use lib.IntN.{pos, negsuc, ◌-ℤ◌}
use lib.ListN.{length, length-map}
use Rattle.accumulator_spec.specs.Words.{Words, natural, integer, words_of_natural, words_of_integer, complement}
use Rattle.accumulator_spec.specs.Theorems.{IntegerHeld, WordsUnique, WordsFormed}
use Rattle.accumulator_spec.proofs.Append.{base-suc}
use Rattle.accumulator_spec.proofs.Complements.{words-length, words-words, complement-words, complement-back}

-- ---- natural numbers
-- a number that has room comes back
pub natural-back : (k n : ℕ) → n < 2 ^ (32 * k) → natural (words_of_natural k n) ≡ n
unfolding natural words_of_natural
natural-back zero n h = let e : 0 ≡ n = omega arith in e
natural-back (suc k) n h =
    let b = base-suc k in
    let i = natural-back k (n / 4294967296) (let r : n / 4294967296 < 2 ^ (32 * k) = omega arith in r) in
    rw i (omega arith)

-- and words are those of their number
pub words-natural : (ws : List ℕ) → Words ws → words_of_natural (length ws) (natural ws) ≡ ws
unfolding natural words_of_natural
words-natural [] k = refl
words-natural (w ∷ ws) k =
    let h = k 0 in
    let low : (w + 4294967296 * natural ws) % 4294967296 ≡ w = omega arith in
    let high : (w + 4294967296 * natural ws) / 4294967296 ≡ natural ws = omega arith in
    rw (low, high, words-natural ws (λ i. k (suc i)))

-- a number and its complement make 2 ^ (32 k) - 1
pub natural-complement : (ws : List ℕ) → Words ws → natural (map complement ws) + natural ws + 1 ≡ 2 ^ (32 * length ws)
unfolding natural
natural-complement [] k = refl
natural-complement (w ∷ ws) k =
    let h = k 0 in
    let i = natural-complement ws (λ j. k (suc j)) in
    let b = base-suc (length ws) in
    omega arith

-- ---- whole numbers
module _ (ws : List ℕ) where
  pub integer-positive : 2 * natural ws < 2 ^ (32 * length ws) → integer ws ≡ pos (natural ws)
  unfolding integer
  integer-positive h = rw (lt-ltb (2 * natural ws) (2 ^ (32 * length ws)) h)

  pub integer-negative : Words ws → 2 ^ (32 * length ws) ≤ 2 * natural ws → integer ws ≡ negsuc (natural (map complement ws))
  unfolding integer
  integer-negative k h =
      rw (le-ltb (2 * natural ws) (2 ^ (32 * length ws)) h) (less (natural ws) (2 ^ (32 * length ws)) (natural (map complement ws)) (natural-complement ws k))
    where
      less : (a b c : ℕ) → c + a + 1 ≡ b → pos a -ℤ pos b ≡ negsuc c
      less a zero c e = absurd (omega arith)
      less a (suc b) c e = rw (lt-ltb a (suc b) (omega arith)) (ap negsuc (omega arith))

-- over variables, as a power of two is one for omega
module _ (n b a c : ℕ) where
  room : 2 * n < b → n < b
  room h = omega arith

  upper : 2 * suc n < b → a ≡ n → c + a + 1 ≡ b → b ≤ 2 * c
  upper h e s = omega arith

  lower : 2 * suc n < b → n < b
  lower h = omega arith

pub integer-held : IntegerHeld
unfolding words_of_integer
integer-held k (pos n) h =
    let ws = words_of_natural k n in
    let r = natural-back k n (room n (2 ^ (32 * k)) 0 0 h) in
    integer-positive ws (rw (r, words-length k n) h) ∙ ap pos r
integer-held k (negsuc n) h =
    let ws = words_of_natural k n in
    let r = natural-back k n (lower n (2 ^ (32 * k)) 0 0 h) in
    let s : natural (map complement ws) + natural ws + 1 ≡ 2 ^ (32 * k) = natural-complement ws (words-words k n) ∙ ap (λ (x : ℕ). 2 ^ (32 * x)) (words-length k n) in
    let l : length (map complement ws) ≡ k = length-map ws complement ∙ words-length k n in
    integer-negative (map complement ws) (complement-words ws) (rw l (upper n (2 ^ (32 * k)) (natural ws) (natural (map complement ws)) h r s))
    ∙ ap negsuc (ap natural (complement-back (words_of_natural k n) (words-words k n)) ∙ r)

pub words-unique : WordsUnique
unfolding words_of_integer
words-unique ws k =
    elim (dec_le (2 ^ (32 * length ws)) (2 * natural ws)) [
      | yes h ↦
          ap (words_of_integer (length ws)) (integer-negative ws k h)
          ∙ ap (λ (l : ℕ). map complement (words_of_natural l (natural (map complement ws)))) (sym (length-map ws complement))
          ∙ ap (map complement) (words-natural (map complement ws) (complement-words ws)) ∙ complement-back ws k
      | no h ↦ ap (words_of_integer (length ws)) (integer-positive ws (below (2 ^ (32 * length ws)) (2 * natural ws) h)) ∙ words-natural ws k
    ]
  where
    below : (a b : ℕ) → (a ≤ b → ⊥) → b < a
    below a b h = omega arith

pub words-formed : WordsFormed
unfolding words_of_integer
words-formed k (pos n) = (words-length k n, words-words k n)
words-formed k (negsuc n) = (length-map (words_of_natural k n) complement ∙ words-length k n, complement-words (words_of_natural k n))
