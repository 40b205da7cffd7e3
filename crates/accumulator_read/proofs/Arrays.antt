-- What a function is told of an array of 32-bit words that it takes by value, or that a call gives it.
use mathlib.Core.Path.{◌≡◌}
use mathlib.Core.List.{List}
use Prim.Native.Nat.{ℕ}
use lib.ListN.{length}
use mir.Syntax.{w32}
use mir.Val.{Val}
use denote.Array.{Array}
use denote.Laws.{Is}
use denote.Plain.{UInt}
use borrow.Author.Rules.{elem_Fits}
use Rattle.accumulator_spec.specs.Words.{Words}

module _ (n : ℕ) (ws : List ℕ) (vs : List Val) (known : Is (Array (UInt w32) n) ws vs) where
  pub array-length : length ws ≡ n
  array-length = known.1.0.1

  pub array-words : Words ws
  array-words i = (elem_Fits w32 w32 ws known.0 i known.1.1 tt).fits
