-- The range of a count of words, and the number that words hold, by two parts of them.
use mathlib.Core.Path.{◌≡◌}
use mathlib.Core.List.{List, [], ◌∷◌, ◌++◌}
use Prim.Native.Nat.{ℕ, suc, ◌+◌, ◌*◌, ◌^◌}
use native.Mathlib.Nat.{mul-suc, mul_assoc, add_comm, zero-add, one-mul}
use native.Mathlib.Omega.{arith}
use lib.ListN.{length}
use lib.Pow.{pow-add}
use Rattle.accumulator_spec.specs.Words.{natural}

-- one word more, in the range
pub base-suc : (k : ℕ) → 2 ^ (32 * suc k) ≡ 4294967296 * 2 ^ (32 * k)
base-suc k = rw (mul-suc, add_comm (32 * k) 32, pow-add 2 32 (32 * k))

regroup : (w v b m : ℕ) → w + 4294967296 * v + 4294967296 * b * m ≡ w + 4294967296 * (v + b * m)
regroup w v b m = rw (mul_assoc 4294967296 b m) (omega arith)

pub natural-append : (xs ys : List ℕ) → natural (xs ++ ys) ≡ natural xs + 2 ^ (32 * length xs) * natural ys
unfolding natural
natural-append [] ys = rw (zero-add, one-mul)
natural-append (w ∷ ws) ys = rw (base-suc, regroup w (natural ws) (2 ^ (32 * length ws)) (natural ys), natural-append ws ys)
