-- A sum of two words and a carry, as two sums of two: its word, and the carry that one of them gives.
use mathlib.Core.Path.{◌≡◌}
use mathlib.Core.Bool.{cond}
use Prim.Native.Nat.{ℕ, ◌+◌, ◌/◌, ◌%◌, ◌^◌, ◌≤◌, ◌<◌}
use native.Mathlib.Decide.{dec_le}
use native.Mathlib.Omega.{arith}
use borrow.Author.Tests.{lt-ltb, le-ltb}
use lib.Bits.{bit_or}
use lib.Dec.{ltb}

module _ (w v carry low sum : ℕ) (fits : w < 2 ^ 32) (also : v < 2 ^ 32) (one : carry ≤ 1) (lows : low ≡ (w + v) % 2 ^ 32) (sums : sum ≡ (low + carry) % 2 ^ 32) where
  pub word-is : sum ≡ (w + v + carry) % 2 ^ 32
  word-is = omega arith

  abbrev next : ℕ
  next = bit_or (cond (ltb low w) 1 0) (cond (ltb sum low) 1 0)

  -- the first sum goes beyond a word: the second does not
  first-beyond : 2 ^ 32 ≤ w + v → next ≡ (w + v + carry) / 2 ^ 32
  first-beyond h =
      let a : low < w = omega arith in
      let b : low ≤ sum = omega arith in
      rw (lt-ltb low w a, le-ltb sum low b) (let e : 1 ≡ (w + v + carry) / 4294967296 = omega arith in e)

  first-within : w + v < 2 ^ 32 → next ≡ (w + v + carry) / 2 ^ 32
  first-within h =
      let a : w ≤ low = omega arith in
      elim (dec_le 4294967296 (low + carry)) [
        | yes k ↦
            let b : sum < low = omega arith in
            rw (le-ltb low w a, lt-ltb sum low b) (let e : 1 ≡ (w + v + carry) / 4294967296 = omega arith in e)
        | no k ↦
            let b : low ≤ sum = omega arith in
            rw (le-ltb low w a, le-ltb sum low b) (let e : 0 ≡ (w + v + carry) / 4294967296 = omega arith in e)
      ]

  pub carry-is : next ≡ (w + v + carry) / 2 ^ 32
  carry-is = elim (dec_le 4294967296 (w + v)) [ yes h ↦ first-beyond h | no h ↦ first-within (omega arith) ]
