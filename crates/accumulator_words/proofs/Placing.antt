-- A term counts as much as before it was placed.
use Rattle.std.proofs.Common.{◌≡◌, ℕ, ◌*◌, ◌^◌, Bool, List, length, ℤ, ◌+ℤ◌, ap}
use Rattle.pattern_spec.specs.Exact.{int}
use Rattle.accumulator_spec.specs.Words.{integer, words_of_integer}
use Rattle.accumulator_spec.specs.Inner.{after_term}

module _ {minus minus' : Bool} {sig sig' at exp : ℕ} (p : minus ≡ minus') (q : sig ≡ sig') (r : at ≡ exp) where
  pub same-integer : int minus (sig * 2 ^ at) ≡ int minus' (sig' * 2 ^ exp)
  same-integer = rw (p, q, r)

  pub same-term : (ws : List ℕ) → after_term ws minus sig at ≡ after_term ws minus' sig' exp
  same-term ws = ap (λ (z : ℤ). words_of_integer (length ws) (integer ws +ℤ z)) same-integer
