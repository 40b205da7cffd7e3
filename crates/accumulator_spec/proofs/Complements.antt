-- The words of a number and complements of words are words again; a complement's complement is the word.
use mathlib.Core.Path.{◌≡◌, refl, ap}
use mathlib.Core.List.{List, [], ◌∷◌, map}
use Prim.Native.Nat.{ℕ, zero, suc, ◌-◌, ◌/◌}
use native.Mathlib.Omega.{arith}
use lib.Dec.{lit<}
use lib.ListN.{length}
use Rattle.accumulator_spec.specs.Words.{Words, words_of_natural, complement}

pub words-length : (k n : ℕ) → length (words_of_natural k n) ≡ k
unfolding words_of_natural
words-length zero n = refl
words-length (suc k) n = ap suc (words-length k _)

pub words-words : (k n : ℕ) → Words (words_of_natural k n)
unfolding words_of_natural
words-words zero n i = lit< tt
words-words (suc k) n zero = omega arith
words-words (suc k) n (suc i) = words-words k (n / 4294967296) i

pub complement-words : (ws : List ℕ) → Words (map complement ws)
complement-words [] i = lit< tt
complement-words (w ∷ ws) zero = omega arith
complement-words (w ∷ ws) (suc i) = complement-words ws i

pub complement-back : (ws : List ℕ) → Words ws → map complement (map complement ws) ≡ ws
complement-back [] k = refl
complement-back (w ∷ ws) k =
    let h = k 0 in
    let e : 4294967295 - (4294967295 - w) ≡ w = omega arith in
    rw (e, complement-back ws (λ i. k (suc i)))
