-- What it is for a sheet's foot to be a pair, and how to see it from the values of its patterns.
use mathlib.Core.Path.{◌≡◌, sym, ◌∙◌, subst}
use mathlib.Core.Logic.{◌≢◌}
use mathlib.Core.Bool.{Bool, not}
use Prim.Native.Nat.{ℕ, ◌<◌}
use native.Mathlib.Decide.{dec_le}
use native.Mathlib.Omega.{arith}
use lib.Dec.{T}
use Rattle.rounding_spec.specs.Format.{binary32, limit}
use Rattle.rounding_spec.specs.Value.{Value, nan, infinite, finite, is_nan, encode, round}
use Rattle.augmented_spec.specs.Pairs.{pair_of, second_of}
use Rattle.augmented_spec.proofs.Second.{head, first-finite, pair-second, first-infinite, second-infinite}
use Rattle.worksheet_spec.specs.Lines.{Sheet, value}
use Rattle.worksheet_spec.proofs.Patterns.{Pattern, pattern-of}

-- the foot of a sheet is the pair of the exact result v, which is no NaN
abbrev pub Foots : Value → Sheet → Type 0
Foots v s = (s.first ≡ encode binary32 (pair_of binary32 v).first) × (s.second ≡ encode binary32 (pair_of binary32 v).second)

-- no half of a number's pair is NaN
number-no-nan : {v w : Value} → v ≡ w → T (not (is_nan w)) → v ≢ nan
number-no-nan e h z = subst (λ (v : Value). T (not (is_nan v))) (sym e ∙ z) h

no_nan : (s : Bool) (N : ℕ) → ((pair_of binary32 (finite s N)).first ≢ nan) × ((pair_of binary32 (finite s N)).second ≢ nan)
no_nan s N =
    elim (dec_le (limit binary32) (head binary32 s N)) [
      | yes h ↦ (number-no-nan (first-infinite binary32 s N h) tt, number-no-nan (second-infinite binary32 s N h) tt)
      | no h ↦ let k : head binary32 s N < limit binary32 = omega arith in (number-no-nan (first-finite binary32 s N k) tt, number-no-nan (pair-second binary32 s N k) tt)
    ]

pub foots : (s : Bool) (N : ℕ) (sheet : Sheet) → Pattern sheet.first → Pattern sheet.second
    → (value sheet.first ≡ (pair_of binary32 (finite s N)).first) × (value sheet.second ≡ (pair_of binary32 (finite s N)).second) → Foots (finite s N) sheet
foots s N sheet w u e =
    (pattern-of sheet.first (pair_of binary32 (finite s N)).first w e.0 (no_nan s N).0, pattern-of sheet.second (pair_of binary32 (finite s N)).second u e.1 (no_nan s N).1)

-- an infinite exact result stands twice
pub foots-infinite : (s : Bool) (sheet : Sheet) → sheet.first ≡ encode binary32 (infinite s) → sheet.second ≡ encode binary32 (infinite s) → Foots (infinite s) sheet
unfolding pair_of round second_of
foots-infinite s sheet a b = (a, b)
