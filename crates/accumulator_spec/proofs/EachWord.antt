-- Each word of a number by itself, and how far so many words go.
use mathlib.Core.Path.{◌≡◌, refl, sym, ap, ◌∙◌}
use mathlib.Core.List.{List, [], ◌∷◌, map}
use Prim.Native.Nat.{ℕ, zero, suc, ◌+◌, ◌*◌, ◌/◌, ◌%◌, ◌^◌, ◌<◌}
use native.Mathlib.Nat.{div-one, div-div-eq-div-mul}
use native.Mathlib.Omega.{arith}
use lib.ListN.{length, get_or}
use Rattle.accumulator_spec.specs.Words.{natural, words_of_natural, words_of_integer, complement}
use Rattle.accumulator_spec.specs.Theorems.{WordAt, NaturalWords}
use Rattle.accumulator_spec.proofs.Append.{base-suc}
use Rattle.accumulator_spec.proofs.Complements.{words-length}
use Rattle.accumulator_spec.proofs.TwosComplement.{words-natural, natural-complement}

nth : (k n i : ℕ) → i < k → get_or (words_of_natural k n) i 0 ≡ n / 2 ^ (32 * i) % 2 ^ 32
unfolding words_of_natural
nth zero n i h = absurd (omega arith)
nth (suc k) n zero h = ap (λ (x : ℕ). x % 2 ^ 32) (sym (div-one n))
nth (suc k) n (suc i) h =
    nth k (n / 4294967296) i (omega arith)
    ∙ ap (λ (x : ℕ). x % 2 ^ 32) (div-div-eq-div-mul n 4294967296 (2 ^ (32 * i)) ∙ ap (λ (x : ℕ). n / x) (sym (base-suc i)))

-- mapped word by word
mapped : (ws : List ℕ) (i : ℕ) → i < length ws → get_or (map complement ws) i 0 ≡ complement (get_or ws i 0)
mapped [] i h = absurd (omega arith)
mapped (w ∷ ws) zero h = refl
mapped (w ∷ ws) (suc i) h = mapped ws i (omega arith)

pub word_at : WordAt
unfolding words_of_integer
word_at k n i h = (nth k n i h, mapped (words_of_natural k n) i (rw (words-length k n) h) ∙ ap complement (nth k n i h))

pub natural-words : NaturalWords
unfolding words_of_integer
natural-words ws k = (below (natural (map complement ws)) (natural ws) (2 ^ (32 * length ws)) (natural-complement ws k), words-natural ws k)
  where
    below : (a b c : ℕ) → a + b + 1 ≡ c → b < c
    below a b c e = omega arith
