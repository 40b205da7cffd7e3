-- The words of a total and its number, count and sign word determine each other.
use mathlib.Core.Path.{◌≡◌, sym, ap, ap₂, ◌∙◌, subst}
use mathlib.Core.List.{List, [], ◌∷◌, ◌++◌, append_assoc}
use Prim.Native.Nat.{ℕ, zero, suc, ◌+◌, ◌*◌, ◌^◌, ◌≤◌, ◌<◌}
use native.Mathlib.Omega.{arith}
use lib.Dec.{lit<}
use lib.IntN.{ℤ, nat_abs}
use lib.ListN.{length, take, length-append}
use lib.Pow.{pow-add}
use lib.Seq.{take_all, take_at, take-suc, get_or_at, length-take-le}
use Rattle.accumulator_spec.specs.Words.{Words, integer, words_of_integer}
use Rattle.accumulator_spec.proofs.Parts.{take_words}
use Rattle.accumulator_spec.proofs.TwosComplement.{integer-held, words-unique, words-formed}
use Rattle.accumulator_spec.specs.Totals.{number_size, total_size, number, count, sign_word, total_of}
use Rattle.accumulator_spec.specs.Theorems.{NumberAndCount, NumberHeld, TotalUnique}

-- half the range is 2 ^ 639
room : (m : ℕ) → m < 2 ^ 639 → 2 * m < 2 ^ (32 * number_size)
room m h = doubled m (2 ^ 639) (2 ^ 640) (pow-add 2 1 639) h
  where
    doubled : (m h r : ℕ) → r ≡ 2 * h → m < h → 2 * m < r
    doubled m h r e l = omega arith

-- the word behind the count
pub sign_at : (ws : List ℕ) (n w : ℕ) → length ws ≡ number_size → sign_word (ws ++ (n ∷ w ∷ [])) ≡ w
sign_at ws n w l = ap (λ (vs : List ℕ). sign_word vs) (sym (append_assoc ws (n ∷ []) (w ∷ [])))
    ∙ get_or_at (ws ++ (n ∷ [])) w [] 0 (number_size + 1) (length-append ws (n ∷ []) ∙ ap (λ (k : ℕ). k + 1) l)

module _ (z : ℤ) (n w : ℕ) where
  pub words-full : length (words_of_integer number_size z) ≡ number_size
  words-full = (words-formed number_size z).0

  pub total-number : nat_abs z < 2 ^ 639 → number (total_of z n w) ≡ z
  total-number h = ap integer (take_at (words_of_integer number_size z) (n ∷ w ∷ []) number_size words-full) ∙ integer-held number_size z (room (nat_abs z) h)

  pub total-count : count (total_of z n w) ≡ n
  total-count = get_or_at (words_of_integer number_size z) n (w ∷ []) 0 number_size words-full

  pub total-sign : sign_word (total_of z n w) ≡ w
  total-sign = sign_at (words_of_integer number_size z) n w words-full

  pub total-full : length (total_of z n w) ≡ total_size
  total-full = length-append (words_of_integer number_size z) (n ∷ w ∷ []) ∙ ap (λ (l : ℕ). l + 2) words-full

-- a total by the parts of it
pub total-same : {y z : ℤ} {m n v w : ℕ} → y ≡ z → m ≡ n → v ≡ w → total_of y m v ≡ total_of z n w
total-same {z = z} {n = n} {v = v} e f g = ap₂ (λ (x : ℤ) (k : ℕ). total_of x k v) e f ∙ ap (total_of z n) g

-- words with one more behind them
pub append-words : (ws : List ℕ) (n : ℕ) → Words ws → n < 2 ^ 32 → Words (ws ++ (n ∷ []))
append-words [] n k h zero = h
append-words [] n k h (suc i) = lit< tt
append-words (w ∷ ws) n k h zero = k zero
append-words (w ∷ ws) n k h (suc i) = append-words ws n (λ j. k (suc j)) h i

pub total-words : (z : ℤ) (n w : ℕ) → n < 2 ^ 32 → w < 2 ^ 32 → Words (total_of z n w)
total-words z n w h k =
    let ws = words_of_integer number_size z in
    subst Words (append_assoc ws (n ∷ []) (w ∷ [])) (append-words (ws ++ (n ∷ [])) w (append-words ws n (words-formed number_size z).1 h) k)

pub number-held : NumberHeld
number-held z n w h = (total-number z n w h, total-count z n w, total-sign z n w)

-- the words of the number, of as many words as a total or an old one has
pub number-words : (t : List ℕ) → number_size ≤ length t → Words t → words_of_integer number_size (number t) ≡ take number_size t
number-words t l k =
    let full : length (take number_size t) ≡ number_size = length-take-le number_size t l in
    ap (λ (m : ℕ). words_of_integer m (number t)) (sym full) ∙ words-unique (take number_size t) (take_words number_size t k)

pub total-unique : TotalUnique
total-unique t l k =
    ap (λ (ws : List ℕ). ws ++ (count t ∷ sign_word t ∷ [])) (number-words t (omega arith) k) ∙ sym (append_assoc (take number_size t) (count t ∷ []) (sign_word t ∷ []))
    ∙ ap (λ (ws : List ℕ). ws ++ (sign_word t ∷ [])) (sym (take-suc t number_size 0 (omega arith))) ∙ sym (take-suc t (number_size + 1) 0 (omega arith)) ∙ take_all total_size t (omega arith)

pub number-and-count : NumberAndCount
number-and-count ws n w l = (ap integer (take_at ws (n ∷ w ∷ []) number_size l), get_or_at ws n (w ∷ []) 0 number_size l, sign_at ws n w l)
