-- By how many places the addends of a fused sum move, and what comes of it. The smaller of two counts is a choice in the lemmas below.
use mathlib.Core.Path.{◌≡◌, ◌∙◌}
use mathlib.Core.Bool.{cond}
use Prim.Native.Nat.{ℕ, ◌*◌, ◌-◌, ◌%◌, ◌^◌, ◌<◌, min}
use native.Mathlib.Decide.{dec_le}
use native.Mathlib.Omega.{arith}
use borrow.Author.Tests.{le-leb, lt-leb, le-ltb, lt-ltb}
use lib.Dec.{leb, ltb}
use Rattle.pattern_spec.specs.Exact.{plus_finite}
use Rattle.pattern_spec.specs.Inner.{Jammed}
use Rattle.binary32_spec.specs.Inner.{outcome, Reaches}
use Rattle.binary32_spec.proofs.Jam.{first_fits_lem, aligned_sum}
use Rattle.binary32_fma.specs.declared.Addends.{Addends}

smaller-first : (a b : ℕ) → min a b ≡ cond (leb a b) a b
smaller-first a b =
    elim (dec_le a b) [
      | yes h ↦ rw (le-leb a b h) (omega arith)
      | no h ↦ let l : b < a = omega arith in rw (lt-leb a b l) (omega arith)
    ]

pub smaller-second : (a b : ℕ) → min a b ≡ cond (ltb b a) b a
smaller-second a b =
    elim (dec_le a b) [
      | yes h ↦ rw (le-ltb b a h) (omega arith)
      | no h ↦ let l : b < a = omega arith in rw (lt-ltb b a l) (omega arith)
    ]

-- the first goes up by `up` places
module _ (x : Addends) (o : Reaches x.high.sig x.high.exp x.low.sig x.low.exp x.room) (up : ℕ) (is : up ≡ min (x.high.exp - x.low.exp) x.room) where
  chosen : up ≡ cond (leb (x.high.exp - x.low.exp) x.room) (x.high.exp - x.low.exp) x.room
  chosen = is ∙ smaller-first (x.high.exp - x.low.exp) x.room

  pub first-fits : x.high.sig * 2 ^ up % 2 ^ 64 < 2 ^ 63
  first-fits = first_fits_lem x.high.sign x.high.sig x.high.exp x.low.sign x.low.sig x.low.exp x.room o up chosen

  pub sum-is : (r : ℕ) → Jammed x.low.sig (x.high.exp - x.low.exp - up) r
      → outcome (plus_finite x.high.sign (x.high.sig * 2 ^ up % 2 ^ 64 * 2 ^ (x.high.exp - up)) x.low.sign (r * 2 ^ (x.high.exp - up)))
      ≡ outcome (plus_finite x.high.sign (x.high.sig * 2 ^ x.high.exp) x.low.sign (x.low.sig * 2 ^ x.low.exp))
  sum-is = aligned_sum x.high.sign x.high.sig x.high.exp x.low.sign x.low.sig x.low.exp x.room o up chosen
