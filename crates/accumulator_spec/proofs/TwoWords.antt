-- The two lowest words of a walk in one sum of 64 bits, each word read and written as it is or as its complement.
use mathlib.Core.Path.{◌≡◌, refl, sym, ap, ap₂, ◌∙◌}
use mathlib.Core.Bool.{Bool, true, false, cond}
use mathlib.Core.List.{List, [], ◌∷◌, ◌++◌}
use Prim.Native.Nat.{ℕ, ◌+◌, ◌-◌, ◌*◌, ◌/◌, ◌%◌, ◌^◌, ◌≤◌, ◌<◌}
use native.Mathlib.Decide.{dec_le}
use native.Mathlib.Omega.{arith}
use borrow.Author.Tests.{lt-ltb, le-ltb}
use lib.Bits.{bit_xor}
use lib.Dec.{ltb}
use lib.ListN.{length, take, drop, set, get_or, length-set}
use lib.Seq.{drop-set-lt}
use Rattle.accumulator_spec.specs.Words.{Words}
use Rattle.accumulator_spec.specs.Inner.{after_walk}
use Rattle.accumulator_spec.proofs.Carry.{turn, turn-lt, turn-xor, walk}
use Rattle.accumulator_spec.proofs.Parts.{drop-words, walk_is}

-- ---- the two words and what is written to them
module _ (s : Bool) (m : ℕ) (is : m ≡ cond s 0xffff_ffff_ffff_ffff 0) where
  both_read : (v w : ℕ) → v < 2 ^ 32 → w < 2 ^ 32 → bit_xor (v + w * 4294967296) m ≡ turn s v + 4294967296 * turn s w
  both_read v w h l = turn-xor 64 s (v + w * 4294967296) m (omega arith) is ∙ go s
    where
      go : (s : Bool) → cond s (2 ^ 64 - 1 - (v + w * 4294967296)) (v + w * 4294967296) ≡ turn s v + 4294967296 * turn s w
      go true = omega arith
      go false = omega arith

  lower-written : (n : ℕ) → n < 2 ^ 64 → bit_xor n m % 4294967296 ≡ turn s (n % 4294967296)
  lower-written n h = ap (λ (x : ℕ). x % 4294967296) (turn-xor 64 s n m h is) ∙ go s
    where
      go : (s : Bool) → cond s (2 ^ 64 - 1 - n) n % 4294967296 ≡ turn s (n % 4294967296)
      go true = omega arith
      go false = refl

  upper-written : (n : ℕ) → n < 2 ^ 64 → bit_xor n m / 4294967296 ≡ turn s (n / 4294967296)
  upper-written n h = ap (λ (x : ℕ). x / 4294967296) (turn-xor 64 s n m h is) ∙ go s
    where
      go : (s : Bool) → cond s (2 ^ 64 - 1 - n) n / 4294967296 ≡ turn s (n / 4294967296)
      go true = omega arith
      go false = refl

  pub upper_lt : (n : ℕ) → n < 2 ^ 64 → bit_xor n m / 4294967296 < 2 ^ 32
  upper_lt n h = rw (upper-written n h) (turn-lt s (n / 4294967296) (omega arith))

-- a sum of 64 bits is below an addend where it went beyond them
wrapped : (held low sum : ℕ) → held < 2 ^ 64 → low < 2 ^ 64 → sum ≡ (held + low) % 2 ^ 64
    → (held + low ≡ sum + 2 ^ 64 * cond (ltb sum low) 1 0) × (cond (ltb sum low) 1 0 ≤ 1)
wrapped held low sum h l e =
    elim (dec_le (2 ^ 64) (held + low)) [
      | yes k ↦ let b : sum < low = omega arith in rw (lt-ltb sum low b) (omega arith, omega arith)
      | no k ↦ let b : low ≤ sum = omega arith in rw (le-ltb sum low b) (omega arith, omega arith)
    ]

-- what is added two words higher goes on with their carry
both-walked : (s : Bool) (ws : List ℕ) (low high sum carry a b : ℕ) → 2 ≤ length ws
    → turn s (get_or ws 0 0) + 4294967296 * turn s (get_or ws 1 0) + low ≡ sum + 2 ^ 64 * carry → sum < 2 ^ 64
    → a ≡ turn s (sum % 4294967296) → b ≡ turn s (sum / 4294967296)
    → take 2 (set (set ws 0 a) 1 b) ++ walk s (drop 2 (set (set ws 0 a) 1 b)) (high + carry) ≡ walk s ws (low + 2 ^ 64 * high)
unfolding walk
both-walked s [] low high sum carry a b l e h p q = absurd (omega arith)
both-walked s (v ∷ []) low high sum carry a b l e h p q = absurd (omega arith)
both-walked s (v ∷ w ∷ ws) low high sum carry a b l e h p q =
    let n = low + 2 ^ 64 * high in
    let x : sum % 4294967296 ≡ (turn s v + n) % 4294967296 = omega arith in
    let k : (turn s v + n) / 4294967296 ≡ (turn s v + low) / 4294967296 + 4294967296 * high = omega arith in
    let j : sum / 4294967296 + 4294967296 * carry ≡ turn s w + (turn s v + low) / 4294967296 = omega arith in
    let (y, z) = upper (sum / 4294967296) carry (turn s w) ((turn s v + low) / 4294967296) high ((turn s v + n) / 4294967296) (omega arith) j k in
    ap₂ (λ (i : ℕ) (is : List ℕ). i ∷ is) (p ∙ ap (turn s) x)
    (ap₂ (λ (i : ℕ) (is : List ℕ). i ∷ is) (q ∙ ap (turn s) y) (ap (walk s ws) z))
  where
    -- the higher word of the two
    upper : (r carry w p high n : ℕ) → r < 4294967296 → r + 4294967296 * carry ≡ w + p → n ≡ p + 4294967296 * high
        → (r ≡ (w + n) % 4294967296) × (high + carry ≡ (w + n) / 4294967296)
    upper r carry w p high n h e k = (omega arith, omega arith)

-- ---- as the code does it
module _ (s : Bool) (m : ℕ) (is : m ≡ cond s 0xffff_ffff_ffff_ffff 0) (ws : List ℕ) (words : Words ws) (two : 2 ≤ length ws) (v w low sum carry : ℕ) (first : v ≡ get_or ws 0 0)
    (second : w ≡ get_or ws 1 0) (fits : low < 2 ^ 64) (sums : sum ≡ (bit_xor (v + w * 4294967296) m + low) % 2 ^ 64) (carries : carry ≡ cond (ltb sum low) 1 0) where
  abbrev after : List ℕ
  after = set (set ws 0 (bit_xor sum m % 4294967296)) 1 (bit_xor sum m / 4294967296)

  held : bit_xor (v + w * 4294967296) m ≡ turn s (get_or ws 0 0) + 4294967296 * turn s (get_or ws 1 0)
  held = ap₂ (λ (x y : ℕ). bit_xor (x + y * 4294967296) m) first second ∙ both_read s m is (get_or ws 0 0) (get_or ws 1 0) (words 0) (words 1)

  beyond : (turn s (get_or ws 0 0) + 4294967296 * turn s (get_or ws 1 0) + low ≡ sum + 2 ^ 64 * carry) × (carry ≤ 1)
  beyond =
      let a = turn-lt s (get_or ws 0 0) (words 0) in
      let b = turn-lt s (get_or ws 1 0) (words 1) in
      rw carries (wrapped (turn s (get_or ws 0 0) + 4294967296 * turn s (get_or ws 1 0)) low sum (omega arith) fits (sums ∙ ap (λ (x : ℕ). (x + low) % 2 ^ 64) held))

  -- what stands behind the two words is as it was
  behind : Words (drop 2 after)
  behind = rw (drop-set-lt 2 (set ws 0 (bit_xor sum m % 4294967296)) 1 _ (omega arith), drop-set-lt 2 ws 0 _ (omega arith)) (drop-words 2 ws words)

  pub two-words-added : (length after ≡ length ws) × (carry ≤ 1)
      × ((high : ℕ)
      → take 2 after ++ after_walk (drop 2 after) s (high + carry) ≡ after_walk ws s (low + 2 ^ 64 * high))
  two-words-added =
      let l : sum < 2 ^ 64 = omega arith in (
        simp length-set refl,
        beyond.1,
        λ high.
            ap (λ (xs : List ℕ). take 2 after ++ xs) (sym (walk_is s (drop 2 after) (high + carry) behind))
            ∙ both-walked s ws low high sum carry _ _ two beyond.0 l (lower-written s m is sum l) (upper-written s m is sum l) ∙ walk_is s ws (low + 2 ^ 64 * high) words,
      )
