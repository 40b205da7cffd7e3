-- What is wrong with lent words, and what is asked of their top ones, below the calls of `accumulator`.
use Rattle.std.specs.Prelude.{ℕ, Bool, true, false, cond, not, List, length, ◌==◌, nat_lt, Result, Ok, Err}
use Rattle.accumulator_spec.specs.declared.NotDone.{NotDone}
use Rattle.accumulator_spec.specs.declared.NotDone.TheVariants.{Length, Unfit}
use Rattle.accumulator_spec.specs.Words.{all_zero}
use Rattle.accumulator_spec.specs.Totals.{total_size, fit}

-- what is wrong with lent words, whatever the call: nothing with a fit total (R8.7, R8.8, R8.16)
abbrev pub fault : List ℕ → Result (Unit {0}) NotDone
fault t = cond (not (length t == total_size)) (Err Length) (cond (not (fit t)) (Err Unfit) (Ok tt))

-- whether words that show this sign, the top one as it is or its complement, are within a limit that counts the top one's weight
abbrev pub below_limit : List ℕ → Bool → ℕ → ℕ → Bool
below_limit low minus top limit = cond (nat_lt top limit) true (cond minus false (cond (nat_lt limit top) false (all_zero low)))
