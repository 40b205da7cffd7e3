-- The leading digits of a number, read word by word from the highest on: once there are 33 of them, all that counts of a
-- further word is whether it is zero. They round as the number does.
use mathlib.Core.Path.{◌≡◌, sym, ap, ap₂, ◌∙◌}
use mathlib.Core.Logic.{inl, inr}
use mathlib.Core.Bool.{Bool, cond}
use mathlib.Core.List.{List}
use Prim.Native.Nat.{ℕ, suc, ◌+◌, ◌-◌, ◌*◌, ◌/◌, ◌%◌, ◌^◌, ◌≤◌, ◌<◌}
use native.Mathlib.Nat.{mul-one, pow-succ'}
use native.Mathlib.Decide.{dec_le, ℕ_discrete}
use native.Mathlib.Omega.{arith}
use borrow.Author.Tests.{eq-eqb, ne_eqb}
use lib.Dec.{eqb}
use lib.ListN.{length, drop, get_or}
use lib.Pow.{pow-add, pow_pos}
use lib.Seq.{drop-cons}
use Rattle.rounding_spec.specs.declared.Ties.{Ties}
use Rattle.rounding_spec.specs.Format.{binary32}
use Rattle.rounding_spec.specs.Round.{rounded}
use Rattle.rounding_spec.specs.Value.{round_finite}
use Rattle.rounding_spec.proofs.Sticky.{odd}
use Rattle.pattern_spec.specs.Inner.{Odd, Jammed}
use Rattle.accumulator_spec.specs.Words.{Words, natural}
use Rattle.accumulator_spec.specs.Inner.{Leading}

-- what stands for N, the number that the words from the i-th on hold: all of it, or its leading digits, of which the last counts 2 ^ exp
pub data Digits (N i sig exp : ℕ) : Type 0 where
  all : sig < 2 ^ 32 → exp ≡ 32 * i → sig ≡ N → Digits N i sig exp
  some : (g : ℕ) → 2 ^ 32 ≤ sig → exp ≡ g + 32 * i → Jammed N g sig → Digits N i sig exp

pub all-exp : (N i sig exp : ℕ) → sig < 2 ^ 32 → Digits N i sig exp → exp ≡ 32 * i
all-exp N i sig exp l (all s e v) = e
all-exp N i sig exp l (some g h e j) = absurd (omega arith)

-- the digits made odd where the word w below them is not zero
abbrev pub sticky : ℕ → ℕ → ℕ
sticky w sig = cond (eqb w 0) sig (sig - sig % 2 + 1)

pub sticky-half : (w sig : ℕ) → sticky w sig / 2 ≡ sig / 2
sticky-half w sig =
    elim (ℕ_discrete w 0) [
      | yes z ↦ rw (eq-eqb w 0 z)
      | no n ↦ rw (ne_eqb w 0 n) (omega arith)
    ]

-- ---- one word more below N, where digits are left out already
module _ (N g w sig : ℕ) (small : w < 2 ^ 32) where
  base : 2 ^ (g + 32) ≡ 4294967296 * 2 ^ g
  base = rw (pow-add 2 g 32) (omega arith)

  at_zero : w ≡ 0 → Jammed N g sig → Jammed (w + 4294967296 * N) (g + 32) sig
  at_zero z (inl e) = inl (rw base (omega arith))
  at_zero z (inr o) = inr (record { odd = o.odd; over = rw base (omega (arith, o.over)); under = rw base (omega (arith, o.under)) })

  from-odd : sig % 2 ≡ 1 → 0 < w → Jammed N g sig → Odd (w + 4294967296 * N) (g + 32) sig
  from-odd h p (inl e) = let q = pow_pos g in record { odd = h; over = rw base (omega arith); under = rw base (omega arith) }
  from-odd h p (inr o) = record { odd = h; over = rw base (omega (arith, o.over)); under = rw base (omega (arith, o.under)) }

  from-even : sig % 2 ≡ 0 → 0 < w → Jammed N g sig → Odd (w + 4294967296 * N) (g + 32) (sig + 1)
  from-even h p (inl e) = let q = pow_pos g in record { odd = omega arith; over = rw base (omega arith); under = rw base (omega arith) }
  from-even h p (inr o) = absurd (omega (arith, o.odd))

  made-odd : 0 < w → Jammed N g sig → Odd (w + 4294967296 * N) (g + 32) (sig - sig % 2 + 1)
  made-odd p j =
      elim (dec_le 1 (sig % 2)) [
        | yes h ↦ let q : sig - sig % 2 + 1 ≡ sig = omega arith in rw q (from-odd (omega arith) p j)
        | no h ↦ let q : sig - sig % 2 + 1 ≡ sig + 1 = omega arith in rw q (from-even (omega arith) p j)
      ]

  jammed-word : Jammed N g sig → Jammed (w + 4294967296 * N) (g + 32) (sticky w sig)
  jammed-word j =
      elim (ℕ_discrete w 0) [
        | yes z ↦ rw (eq-eqb w 0 z) (at_zero z j)
        | no n ↦ rw (ne_eqb w 0 n) (inr (made-odd (omega arith) j))
      ]

-- ---- one turn of the loop, which reads the word below the i-th
module _ (ws : List ℕ) (i w : ℕ) (left : 0 < i) (inside : i ≤ length ws) (is : w ≡ get_or ws (i - 1) 0) where
  below : natural (drop (i - 1) ws) ≡ w + 4294967296 * natural (drop i ws)
  unfolding natural
  below =
      let e : suc (i - 1) ≡ i = omega arith in
      ap natural (drop-cons ws (i - 1) 0 (omega arith)) ∙ ap₂ (λ (x k : ℕ). x + 4294967296 * natural (drop k ws)) (sym is) e

  module _ (words : Words ws) where
    small : w < 2 ^ 32
    small = rw is (words (i - 1))

    pub taken_in : (sig exp : ℕ) → sig < 2 ^ 32 → Digits (natural (drop i ws)) i sig exp → Digits (natural (drop (i - 1) ws)) (i - 1) (sig * 4294967296 + w) (exp - 32)
    taken_in sig exp l (all s e v) =
        let k = small in
        let q : sig * 4294967296 + w ≡ natural (drop (i - 1) ws) = omega (arith, below) in
        elim (dec_le (2 ^ 32) (sig * 4294967296 + w)) [
          | yes h ↦ some 0 h (omega arith) (inl (mul-one (sig * 4294967296 + w) ∙ q))
          | no h ↦ all (omega arith) (omega arith) q
        ]
    taken_in sig exp l (some g h e j) = absurd (omega arith)

    pub made-sticky : (sig exp : ℕ) → 2 ^ 32 ≤ sig → Digits (natural (drop i ws)) i sig exp → Digits (natural (drop (i - 1) ws)) (i - 1) (sticky w sig) exp
    made-sticky sig exp l (all h e v) = absurd (omega arith)
    made-sticky sig exp l (some g h e j) =
        some (g + 32) (omega (arith, sticky-half w sig)) (omega arith) (rw below (jammed-word (natural (drop i ws)) g w sig small j))

-- ---- at the end
pub leading-digits : (N sig exp : ℕ) → Digits N 0 sig exp → Leading N sig exp
leading-digits N sig exp (all h e v) = inl (rw e (mul-one sig ∙ v))
leading-digits N sig exp (some g h e (inl v)) = let z : exp ≡ g = omega arith in inl (rw z v)
leading-digits N sig exp (some g h e (inr o)) = let z : exp ≡ g = omega arith in inr (h, rw z o)

-- they round as the number does
pub leading-rounds : (t : Ties) (s : Bool) (N sig exp : ℕ) → Leading N sig exp → round_finite t binary32 s (sig * 2 ^ exp) ≡ round_finite t binary32 s N
unfolding round_finite
leading-rounds t s N sig exp (inl e) = ap (round_finite t binary32 s) e
leading-rounds t s N sig exp (inr d) =
    let o = d.1 in
    let a = sig / 2 in
    let v : 2 * a + 1 ≡ sig = omega (arith, o.odd) in
    let p : 2 ^ suc exp ≡ 2 * 2 ^ exp = pow-succ' 2 exp in
    let u : sig * 2 ^ exp ≡ 2 * (a * 2 ^ exp) + 2 ^ exp = ap (λ (x : ℕ). x * 2 ^ exp) (sym v) ∙ omega arith in
    let r : rounded t 23 149 N ≡ rounded t 23 149 ((2 * a + 1) * 2 ^ exp) = odd t 23 149 exp a N (omega (arith, d.0)) (rw p (omega (arith, o.under))) (rw p (omega (arith, o.over))) in
    rw (r, v)
