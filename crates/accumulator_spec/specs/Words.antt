-- Words of 32 bits, lowest first, and the numbers that they hold (R6.1).
use Rattle.std.specs.Prelude.{ℕ, zero, suc, ◌+◌, ◌-◌, ◌*◌, ◌/◌, ◌%◌, ◌^◌, ◌<◌, Bool, true, cond, ◌&&◌, List}
use Rattle.std.specs.Prelude.{[], ◌∷◌, map, eqb, ltb, length, get_or, ℤ, pos, negsuc, ◌-ℤ◌}

-- every one of them is below 2 ^ 32
abbrev pub Words : List ℕ → Type 0
Words ws = (i : ℕ) → get_or ws i 0 < 2 ^ 32

-- every one of them is 0
unfoldable pub all_zero : List ℕ → Bool
all_zero [] = true
all_zero (w ∷ ws) = eqb w 0 && all_zero ws

-- ---- the number that words hold
unfoldable pub natural : List ℕ → ℕ
natural [] = 0
natural (w ∷ ws) = w + 2 ^ 32 * natural ws

-- two's complement: the range of k words is 2 ^ (32 k), and from half of it on a number stands for itself less the range
unfoldable pub integer : List ℕ → ℤ
unfolding natural
integer ws =
    cond (ltb (2 * natural ws) (2 ^ (32 * length ws))) (pos (natural ws)) (pos (natural ws) -ℤ pos (2 ^ (32 * length ws)))

-- ---- the words of a number
-- the k lowest words of n
unfoldable pub words_of_natural : ℕ → ℕ → List ℕ
words_of_natural zero n = []
words_of_natural (suc k) n = n % 2 ^ 32 ∷ words_of_natural k (n / 2 ^ 32)

abbrev pub complement : ℕ → ℕ
complement w = 2 ^ 32 - 1 - w

-- the k lowest words of a whole number in two's complement: those of -(n + 1) are the complements of n's
unfoldable pub words_of_integer : ℕ → ℤ → List ℕ
unfolding words_of_natural
words_of_integer k (pos n) = words_of_natural k n
words_of_integer k (negsuc n) = map complement (words_of_natural k n)
