-- A walk in numbers, and what a walk over a part of the words says of all of them.
use mathlib.Core.Path.{◌≡◌, sym, ap, ap₂, ◌∙◌}
use mathlib.Core.Bool.{Bool}
use mathlib.Core.List.{List, [], ◌∷◌, ◌++◌, append-nil}
use Prim.Native.Nat.{ℕ, zero, suc, ◌+◌, ◌-◌, ◌*◌, ◌/◌, ◌%◌, ◌^◌, ◌≤◌}
use native.Mathlib.Nat.{le_of_eq}
use native.Mathlib.Omega.{arith}
use lib.Dec.{lit<}
use lib.IntN.{pos, ◌+ℤ◌}
use lib.ListN.{length, take, drop, set, get_or, drop_of_length-le, length-drop}
use lib.Seq.{get_or-drop, take_all, drop-set-lt}
use Rattle.pattern_spec.specs.Exact.{int}
use Rattle.accumulator_spec.specs.Words.{Words, natural, integer, words_of_integer}
use Rattle.accumulator_spec.specs.Inner.{after_walk}
use Rattle.accumulator_spec.proofs.Carry.{turn, walk, turned, walk_from, walk_none}
use Rattle.accumulator_spec.proofs.Signed.{walk-integer}
use Rattle.accumulator_spec.proofs.TwosComplement.{words-natural, words-unique}

pub take_words : (w : ℕ) (ws : List ℕ) → Words ws → Words (take w ws)
take_words zero ws k i = lit< tt
take_words (suc w) [] k i = lit< tt
take_words (suc w) (x ∷ ws) k zero = k zero
take_words (suc w) (x ∷ ws) k (suc i) = take_words w ws (λ j. k (suc j)) i

pub drop-words : (w : ℕ) (ws : List ℕ) → Words ws → Words (drop w ws)
drop-words w ws k i = rw (get_or-drop w ws i 0) (k (w + i))

-- a part that is lent from word w on, to the end: it comes back, and nothing stands behind it
pub lent-on : (ws : List ℕ) (w : ℕ) (f : List ℕ → List ℕ) (new : List ℕ) → new ≡ f (take (length ws - w) (drop w ws))
    → take w ws ++ (new ++ drop (length ws - w) (drop w ws)) ≡ take w ws ++ f (drop w ws)
lent-on ws w f new e =
    let size = le_of_eq (length-drop w ws) in
    ap₂ (λ (xs ys : List ℕ). take w ws ++ (xs ++ ys)) (e ∙ ap f (take_all (length ws - w) (drop w ws) size)) (drop_of_length-le (drop w ws) size)
    ∙ ap (λ (xs : List ℕ). take w ws ++ xs) (append-nil _)

pub lent_length : (ws : List ℕ) (w : ℕ) → length (take (length ws - w) (drop w ws)) ≡ length ws - w
lent_length ws w = ap (λ (xs : List ℕ). length xs) (take_all (length ws - w) (drop w ws) (le_of_eq (length-drop w ws))) ∙ length-drop w ws

-- ---- the walk in numbers
pub walk_is : (s : Bool) (ws : List ℕ) (n : ℕ) → Words ws → walk s ws n ≡ after_walk ws s n
unfolding words_of_integer
walk_is s ws n k = ap (λ (xs : List ℕ). walk s xs n) (sym (words-natural ws k)) ∙ walk-integer s (length ws) (pos (natural ws)) n

-- nothing is added
pub nothing-added : (s : Bool) (ws : List ℕ) → Words ws → ws ≡ after_walk ws s 0
nothing-added s ws k = sym (walk_none s ws k) ∙ walk_is s ws 0 k

-- the lowest word takes p, and 1 goes on to the words behind it, as they are lent
pub carried_on : (s : Bool) (ws : List ℕ) (p v : ℕ) (new : List ℕ) → 1 ≤ length ws → Words ws → v ≡ turn s ((turn s (get_or ws 0 0) + p) % 2 ^ 32)
    → 1 ≡ (turn s (get_or ws 0 0) + p) / 2 ^ 32
    → new ≡ after_walk (take (length (set ws 0 v) - 1) (drop 1 (set ws 0 v))) s 1
    → take 1 (set ws 0 v) ++ (new ++ drop (length (set ws 0 v) - 1) (drop 1 (set ws 0 v))) ≡ after_walk ws s p
carried_on s ws p v new h k ev eq e =
    let behind : Words (drop 1 (set ws 0 v)) = rw (drop-set-lt 1 ws 0 v (omega arith)) (drop-words 1 ws k) in
    lent-on (set ws 0 v) 1 (λ (xs : List ℕ). after_walk xs s 1) new e
    ∙ ap (λ (xs : List ℕ). take 1 (set ws 0 v) ++ xs) (sym (walk_is s (drop 1 (set ws 0 v)) 1 behind)) ∙ turned s ws 0 p v 1 h ev eq ∙ walk_is s ws p k

walk-signed : (s : Bool) (ws : List ℕ) (n : ℕ) → Words ws → walk s ws n ≡ words_of_integer (length ws) (integer ws +ℤ int s n)
walk-signed s ws n k = ap (λ (xs : List ℕ). walk s xs n) (sym (words-unique ws k)) ∙ walk-integer s (length ws) (integer ws) n

-- ---- the words from word w on
module _ (ws : List ℕ) (w : ℕ) (words : Words ws) (inside : w ≤ length ws) where
  pub part-added : (s : Bool) (n : ℕ)
      → take w ws ++ after_walk (drop w ws) s n ≡ words_of_integer (length ws) (integer ws +ℤ int s (2 ^ (32 * w) * n))
  part-added s n =
      ap (λ (xs : List ℕ). take w ws ++ xs) (sym (walk_is s (drop w ws) n (drop-words w ws words)))
      ∙ walk_from s w ws n words inside ∙ walk-signed s ws (2 ^ (32 * w) * n) words
