-- What it is for a value and a float of lib.Ieee to be the same, and that the same value has the same pattern.
use mathlib.Core.Path.{◌≡◌, refl, ap, ◌∙◌}
use mathlib.Core.Bool.{Bool}
use Prim.Native.Nat.{ℕ, zero, suc, ◌+◌, ◌-◌, ◌*◌, ◌/◌, ◌^◌}
use native.Mathlib.Nat.{add_assoc, mul_comm, mul-div_cancel}
use lib.Count.{count_trailing_zeros}
use lib.IntN.{ℤ, pos}
use lib.Ieee.{Float, nan as not-number, inf, fin, Format as Standard, binary32, binary64, prec, emax, low as standard-low, up, down, minus, odd, neg, top, to_bits}
use lib.Ieee.Digits.{odd_val}
use lib.Ieee.Fits.{down_pos}
use Rattle.rounding_spec.specs.Format.{Format, low, sign_bit}
use Rattle.rounding_spec.specs.Value.{Value, nan, infinite, finite, encode}
use Rattle.pattern_spec.specs.Exact.{negate}
use Rattle.binary32_spec.proofs.IeeeFraction.{Counts}

-- a format of lib.Ieee, by our numbers
abbrev pub ours : Standard → Format
ours f = record { fraction = prec f - 1; emax = emax f }

pub low-is : (f : Standard) → low (ours f) ≡ standard-low f
low-is binary32 = refl
low-is binary64 = refl

pub digits-is : (f : Standard) → suc (prec f - 1) ≡ prec f
digits-is binary32 = refl
digits-is binary64 = refl

pub sign-is : (f : Standard) → sign_bit (ours f) ≡ top f
sign-is f = mul_comm _ _

-- u is 2 ^ -l
pub data Same (l : ℕ) : Value → Float → Type 0 where
  both-nan : Same l nan not-number
  both-inf : {s : Bool} → Same l (infinite s) (inf s)
  both-fin : {s : Bool} {a m : ℕ} {e : ℤ} → Counts l a (m * up e) (down e) → Same l (finite s a) (fin s m e)

abbrev pub Agree : Standard → Value → Float → Type 0
Agree f = Same (standard-low f)

-- ---- what `odd` writes
pub odd-same : (d : ℕ) (s : Bool) (q k l : ℕ) → Same l (finite s (q * 2 ^ k)) (odd d s q k l)
unfolding odd
odd-same d s zero k l = both-fin (record { pos = down_pos (pos 0); is = odd_val d s zero k l })
odd-same d s (suc q) k l = both-fin (record { pos = down_pos (minus (k + count_trailing_zeros d (suc q)) l); is = odd_val d s (suc q) k l })

pub neg_same : {l : ℕ} {v : Value} {x : Float} → Same l v x → Same l (negate v) (neg x)
unfolding negate neg
neg_same both-nan = both-nan
neg_same both-inf = both-inf
neg_same (both-fin h) = both-fin h

-- ---- the pattern
nan-bits : (f : Standard) → encode (ours f) nan ≡ to_bits f not-number
unfolding encode to_bits
nan-bits binary32 = refl
nan-bits binary64 = refl

inf_bits : (f : Standard) (s : Bool) → encode (ours f) (infinite s) ≡ to_bits f (inf s)
unfolding encode to_bits
inf_bits f s = rw (sign-is f)

-- the quotient that `to_bits` takes is the magnitude
fin-bits : (f : Standard) (s : Bool) (a m : ℕ) (e : ℤ) → m * up e * 2 ^ standard-low f / down e ≡ a → encode (ours f) (finite s a) ≡ to_bits f (fin s m e)
unfolding encode to_bits
fin-bits f s a m e h = rw (h, sign-is f, digits-is f, add_assoc)

pub same_bits : (f : Standard) {v : Value} {x : Float} → Agree f v x → encode (ours f) v ≡ to_bits f x
same_bits f both-nan = nan-bits f
same_bits f (both-inf {s}) = inf_bits f s
same_bits f (both-fin {s} {a} {m} {e} h) = fin-bits f s a m e (ap (λ (x : ℕ). x / down e) h.is ∙ mul-div_cancel a h.pos)
