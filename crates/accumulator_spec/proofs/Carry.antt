-- A carrying walk over words, lowest first, each read and written as it is or as its complement.
use mathlib.Core.Path.{◌≡◌, refl, sym, ap, ap₂, ◌∙◌}
use mathlib.Core.Bool.{Bool, true, false, cond}
use mathlib.Core.List.{List, [], ◌∷◌, ◌++◌, append_assoc, append-nil}
use Prim.Native.Nat.{ℕ, zero, suc, ◌+◌, ◌-◌, ◌*◌, ◌/◌, ◌%◌, ◌^◌, ◌≤◌, ◌<◌}
use native.Mathlib.Nat.{mod-eq_of_lt, mul_assoc, one-mul}
use native.Mathlib.Numerals.{add-one}
use native.Mathlib.Omega.{arith}
use lib.Bits.{bit_xor, xor_zero_r, xor_add_and, and_mask}
use lib.ListN.{length, take, drop, set, get_or, drop_of_length-le, take-append-drop}
use lib.Seq.{drop-cons, take-suc-set, drop-set-lt, take_all}
use Rattle.accumulator_spec.specs.Words.{Words, complement}
use Rattle.accumulator_spec.proofs.Append.{base-suc}

-- the word itself, or its complement
abbrev pub turn : Bool → ℕ → ℕ
turn s w = cond s (complement w) w

turn-back : (s : Bool) (w : ℕ) → w < 2 ^ 32 → turn s (turn s w % 2 ^ 32) ≡ w
turn-back true w h = omega arith
turn-back false w h = omega arith

pub turn-lt : (s : Bool) (w : ℕ) → w < 2 ^ 32 → turn s w < 2 ^ 32
turn-lt true w h = omega arith
turn-lt false w h = h

-- as the code makes it, of a word or of two at once
pub turn-xor : (k : ℕ) (s : Bool) (w m : ℕ) → w < 2 ^ k → m ≡ cond s (2 ^ k - 1) 0 → bit_xor w m ≡ cond s (2 ^ k - 1 - w) w
turn-xor k true w m h e =
    let a : bit_xor w (2 ^ k - 1) + w * 2 ≡ w + (2 ^ k - 1) =
    ap (λ (x : ℕ). bit_xor w (2 ^ k - 1) + x * 2) (sym (and_mask w k ∙ mod-eq_of_lt h)) ∙ xor_add_and w (2 ^ k - 1)
    in
    ap (bit_xor w) e ∙ ones (bit_xor w (2 ^ k - 1)) w (2 ^ k) h a
  where
    ones : (x w P : ℕ) → w < P → x + w * 2 ≡ w + (P - 1) → x ≡ P - 1 - w
    ones x w P h e = omega arith
turn-xor k false w m h e = ap (bit_xor w) e ∙ xor_zero_r w

pub read-lt : (s : Bool) (w m : ℕ) → w < 2 ^ 32 → m ≡ cond s 0xffff_ffff 0 → bit_xor w m < 2 ^ 32
read-lt s w m h e = rw (turn-xor 32 s w m h e) (turn-lt s w h)

unfoldable pub walk : Bool → List ℕ → ℕ → List ℕ
walk s [] n = []
walk s (w ∷ ws) n = turn s ((turn s w + n) % 2 ^ 32) ∷ walk s ws ((turn s w + n) / 2 ^ 32)

-- ---- one turn of the loop, in which p is still to be added from word i on
pub turned : (s : Bool) (ws : List ℕ) (i p v q : ℕ) → i < length ws → v ≡ turn s ((turn s (get_or ws i 0) + p) % 2 ^ 32) → q ≡ (turn s (get_or ws i 0) + p) / 2 ^ 32
    → take (i + 1) (set ws i v) ++ walk s (drop (i + 1) (set ws i v)) q ≡ take i ws ++ walk s (drop i ws) p
unfolding walk
turned s ws i p v q h ev eq = rw (add-one, take-suc-set, drop-set-lt (suc i) ws i v (omega arith), drop-cons ws i 0, ev, eq, append_assoc)

-- past the last word nothing is left to do
pub walked : (s : Bool) (ws : List ℕ) (i p : ℕ) → length ws ≤ i → take i ws ++ walk s (drop i ws) p ≡ ws
unfolding walk
walked s ws i p h = rw (take_all, drop_of_length-le ws, append-nil)

-- nor where nothing is left to be added
pub walk_none : (s : Bool) (ws : List ℕ) → Words ws → walk s ws 0 ≡ ws
unfolding walk
walk_none s [] k = refl
walk_none s (w ∷ ws) k =
    let h = k 0 in
    let l = turn-lt s w h in
    let z : (turn s w + 0) / 4294967296 ≡ 0 = omega arith in
    let e : (turn s w + 0) % 4294967296 ≡ turn s w % 4294967296 = omega arith in
    ap₂ (λ (x : ℕ) (xs : List ℕ). x ∷ xs) (ap (turn s) e ∙ turn-back s w h) (ap (walk s ws) z ∙ walk_none s ws (λ i. k (suc i)))

-- the loop ends at word i, from which nothing is carried on
pub ended : (s : Bool) (ws : List ℕ) (i p v : ℕ) → i < length ws → Words (drop (i + 1) ws) → v ≡ turn s ((turn s (get_or ws i 0) + p) % 2 ^ 32) → 0 ≡ (turn s (get_or ws i 0) + p) / 2 ^ 32
    → set ws i v ≡ take i ws ++ walk s (drop i ws) p
ended s ws i p v h k ev z =
    let rest : drop (i + 1) (set ws i v) ≡ drop (i + 1) ws = drop-set-lt (i + 1) ws i v (omega arith) in
    sym (take-append-drop (i + 1) (set ws i v))
    ∙ ap (λ (xs : List ℕ). take (i + 1) (set ws i v) ++ xs) (rest ∙ sym (walk_none s (drop (i + 1) ws) k) ∙ ap (λ (xs : List ℕ). walk s xs 0) (sym rest)) ∙ turned s ws i p v 0 h ev z

-- a word as the code reads it, adds to it and writes it
module _ (s : Bool) (m : ℕ) (is : m ≡ cond s 0xffff_ffff 0) (w p sum : ℕ) (h : w < 2 ^ 32) (e : sum ≡ bit_xor w m + p) where
  pub word_sum_lem : sum ≡ turn s w + p
  word_sum_lem = e ∙ ap (λ (x : ℕ). x + p) (turn-xor 32 s w m h is)

  pub word-written : bit_xor (sum % 4294967296) m ≡ turn s ((turn s w + p) % 4294967296)
  word-written = turn-xor 32 s (sum % 4294967296) m (omega arith) is ∙ ap (λ (x : ℕ). turn s (x % 4294967296)) word_sum_lem

-- ---- a walk from word w on is one from the first, of a number that much higher
raised : (k n : ℕ) → 2 ^ (32 * suc k) * n ≡ 4294967296 * (2 ^ (32 * k) * n)
raised k n = ap (λ (x : ℕ). x * n) (base-suc k) ∙ mul_assoc 4294967296 (2 ^ (32 * k)) n

high-rem : (w m : ℕ) → (w + 4294967296 * m) % 4294967296 ≡ w % 4294967296
high-rem w m = omega arith

high-quot : (w m : ℕ) → w < 4294967296 → (w + 4294967296 * m) / 4294967296 ≡ m
high-quot w m h = omega arith

pub walk_from : (s : Bool) (w : ℕ) (ws : List ℕ) (n : ℕ) → Words ws → w ≤ length ws → take w ws ++ walk s (drop w ws) n ≡ walk s ws (2 ^ (32 * w) * n)
unfolding walk
walk_from s zero ws n k h = ap (walk s ws) (sym (one-mul n))
walk_from s (suc w) [] n k h = absurd (omega arith)
walk_from s (suc w) (x ∷ ws) n k h =
    let m = 2 ^ (32 * w) * n in
    let l = k 0 in
    let a : turn s ((turn s x + 2 ^ (32 * suc w) * n) % 4294967296) ≡ x =
    ap (λ (y : ℕ). turn s ((turn s x + y) % 4294967296)) (raised w n) ∙ ap (turn s) (high-rem (turn s x) m) ∙ turn-back s x l
    in
    let b : (turn s x + 2 ^ (32 * suc w) * n) / 4294967296 ≡ m = ap (λ (y : ℕ). (turn s x + y) / 4294967296) (raised w n) ∙ high-quot (turn s x) m (turn-lt s x l) in
    sym (ap₂ (λ (y : ℕ) (ys : List ℕ). y ∷ ys) a (ap (walk s ws) b ∙ sym (walk_from s w ws n (λ i. k (suc i)) (omega arith))))
