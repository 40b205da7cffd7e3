-- A shifted significand goes into the words of a number from word w on; in a total the count is raised then.
use mathlib.Core.Path.{◌≡◌, sym, ap, ap₂, ◌∙◌}
use mathlib.Core.Bool.{Bool}
use mathlib.Core.List.{List, [], ◌∷◌, ◌++◌, append-nil, append_assoc}
use Prim.Native.Nat.{ℕ, suc, ◌+◌, ◌-◌, ◌*◌, ◌^◌, ◌≤◌}
use native.Mathlib.Nat.{le_of_eq, mul_assoc, mul_comm}
use native.Mathlib.Omega.{arith}
use lib.IntN.{ℤ, ◌+ℤ◌}
use lib.ListN.{length, take, drop, set, drop_of_length-le, length-append}
use lib.Pow.{pow-add}
use lib.Seq.{take_all, drop-cons, set_at, set_split, length-take-le}
use Rattle.pattern_spec.specs.Exact.{int}
use Rattle.accumulator_spec.specs.Words.{Words, integer, words_of_integer}
use Rattle.accumulator_spec.specs.Totals.{number_size, total_size, number, count, sign_word, total_of}
use Rattle.accumulator_spec.specs.Inner.{after_term, after_walk}
use Rattle.accumulator_spec.proofs.Parts.{lent-on, part-added}
use Rattle.accumulator_spec.proofs.Held.{words-full, total-count, total-full}

-- the weight of the word times the number that is added there
weighed : (sig w shift : ℕ) → 2 ^ (32 * w) * (sig * 2 ^ shift) ≡ sig * 2 ^ (32 * w + shift)
weighed sig w shift =
    let W = 2 ^ (32 * w) in
    sym (mul_assoc W sig (2 ^ shift)) ∙ ap (λ (x : ℕ). x * 2 ^ shift) (mul_comm W sig) ∙ mul_assoc sig W (2 ^ shift)
    ∙ ap (λ (x : ℕ). sig * x) (sym (pow-add 2 (32 * w) shift))

-- What the walk leaves in the words from there on, as they are lent to it, moves the number of all of them.
pub part-term : (ws : List ℕ) (words : Words ws) (s : Bool) (sig w shift : ℕ) (fits : w ≤ length ws) (new : List ℕ)
    → new ≡ after_walk (take (length ws - w) (drop w ws)) s (sig * 2 ^ shift)
    → take w ws ++ (new ++ drop (length ws - w) (drop w ws)) ≡ after_term ws s sig (32 * w + shift)
part-term ws words s sig w shift fits new added =
    lent-on ws w (λ (xs : List ℕ). after_walk xs s (sig * 2 ^ shift)) new added
    ∙ part-added ws w words fits s (sig * 2 ^ shift)
    ∙ ap (λ (x : ℕ). words_of_integer (length ws) (integer ws +ℤ int s x)) (weighed sig w shift)

-- All words of a number, lent as they are.
pub number-term : (ws : List ℕ) (s : Bool) (sig exp : ℕ) (new : List ℕ) → length ws ≡ number_size → new ≡ after_term (take number_size ws) s sig exp
    → new ++ drop number_size ws ≡ words_of_integer number_size (integer ws +ℤ int s (sig * 2 ^ exp))
number-term ws s sig exp new l e =
    ap₂ (λ (xs ys : List ℕ). xs ++ ys) (e ∙ ap (λ (xs : List ℕ). after_term xs s sig exp) (take_all number_size ws (le_of_eq l))) (drop_of_length-le ws (le_of_eq l))
    ∙ append-nil _ ∙ ap (λ (k : ℕ). words_of_integer k (integer ws +ℤ int s (sig * 2 ^ exp))) l

-- ---- a total
-- the words of the number, and two words written behind them
pub counted_words : (t : List ℕ) (n w : ℕ) → length t ≡ total_size → set (set t number_size n) (number_size + 1) w ≡ take number_size t ++ (n ∷ w ∷ [])
counted_words t n w full =
    let front = take number_size t in
    let l : length front ≡ number_size = length-take-le number_size t (omega arith) in
    let k : length (front ++ (n ∷ [])) ≡ number_size + 1 = length-append front (n ∷ []) ∙ ap (λ (m : ℕ). m + 1) l in
    let last : drop (number_size + 1) t ≡ sign_word t ∷ [] = drop-cons t (number_size + 1) 0 (omega arith) ∙ ap (λ (xs : List ℕ). sign_word t ∷ xs) (drop_of_length-le t (le_of_eq full)) in
    let e : set t number_size n ≡ (front ++ (n ∷ [])) ++ (sign_word t ∷ []) =
    set_split t number_size n (omega arith) ∙ ap (λ (xs : List ℕ). front ++ n ∷ xs) last ∙ sym (append_assoc front (n ∷ []) (sign_word t ∷ [])) in
    ap (λ (xs : List ℕ). set xs (number_size + 1) w) e ∙ set_at (front ++ (n ∷ [])) (sign_word t) [] w (number_size + 1) k ∙ append_assoc front (n ∷ []) (w ∷ [])

-- The words of the number moved by a term, and the count behind them raised.
module _ (t : List ℕ) (s : Bool) (sig exp : ℕ) (new : List ℕ) (full : length t ≡ total_size) (moved : new ≡ after_term (take number_size t) s sig exp) where
  abbrev z : ℤ
  z = number t +ℤ int s (sig * 2 ^ exp)

  lent : new ++ drop number_size t ≡ total_of z (count t) (sign_word t)
  lent =
      ap₂ (λ (xs ys : List ℕ). xs ++ ys) (moved ∙ ap (λ (x : ℕ). words_of_integer x z) (length-take-le number_size t (omega arith)))
      (drop-cons t number_size 0 (omega arith)
      ∙ ap (λ (xs : List ℕ). count t ∷ xs) (drop-cons t (number_size + 1) 0 (omega arith) ∙ ap (λ (xs : List ℕ). sign_word t ∷ xs) (drop_of_length-le t (le_of_eq full))))

  pub counted-term : (length (new ++ drop number_size t) ≡ total_size) × (count (new ++ drop number_size t) ≡ count t)
      × (set (new ++ drop number_size t) number_size (suc (count (new ++ drop number_size t))) ≡ total_of z (suc (count t)) (sign_word t))
  counted-term =
      let n = ap (λ (xs : List ℕ). count xs) lent ∙ total-count z (count t) (sign_word t) in (
        ap (λ (xs : List ℕ). length xs) lent ∙ total-full z (count t) (sign_word t),
        n,
        ap₂ (λ (xs : List ℕ) (x : ℕ). set xs number_size (suc x)) lent n
            ∙ set_at (words_of_integer number_size z) (count t) (sign_word t ∷ []) (suc (count t)) number_size (words-full z (count t) (sign_word t)),
      )
