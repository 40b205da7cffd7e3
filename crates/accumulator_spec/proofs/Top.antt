-- The top word decides the sign of words, and what their magnitude is: their number, or its complement and one more.
use mathlib.Core.Path.{◌≡◌, sym, ap, ◌∙◌}
use mathlib.Core.Bool.{Bool, true, false, cond}
use mathlib.Core.List.{List, [], ◌∷◌, ◌++◌, map}
use Prim.Native.Nat.{ℕ, suc, ◌+◌, ◌*◌, ◌^◌, ◌≤◌, ◌<◌}
use native.Mathlib.Nat.{mul-suc, add-zero, mul-le-mul_left}
use native.Mathlib.Numerals.{add-one}
use native.Mathlib.Omega.{arith}
use borrow.Author.Tests.{leb-true, leb-false}
use lib.Dec.{leb}
use lib.IntN.{ℤ, pos, negsuc, nat_abs, ◌+ℤ◌}
use lib.ListN.{length, length-map, take, get_or, drop_of_length-le}
use lib.Seq.{split_at, length-take-le}
use Rattle.rounding_spec.specs.Value.{finite}
use Rattle.accumulator_spec.specs.Words.{Words, natural, integer, words_of_integer, complement}
use Rattle.accumulator_spec.proofs.Append.{base-suc, natural-append}
use Rattle.accumulator_spec.proofs.Parts.{take_words}
use Rattle.accumulator_spec.proofs.TwosComplement.{natural-back, natural-complement, integer-positive, integer-negative}
use Rattle.accumulator_spec.specs.Totals.{exact_number}
use Rattle.accumulator_spec.specs.Inner.{after_term}

-- over a variable b, as a power of two is one for omega
module _ (l b w : ℕ) where
  lower : l < b → w < 2147483648 → 2 * (l + b * w) < 4294967296 * b
  lower s h =
      let m : b * suc w ≤ b * 2147483648 = mul-le-mul_left b h in
      let e = mul-suc b w in
      omega arith

  upper : 2147483648 ≤ w → 4294967296 * b ≤ 2 * (l + b * w)
  upper h = let m : b * 2147483648 ≤ b * w = mul-le-mul_left b h in omega arith

module _ (a b c : ℕ) (e : c + a + 1 ≡ b) where
  part-lt : a < b
  part-lt = omega arith

  whole-lt : 2 * a < b → a + 0 < b
  whole-lt h = omega arith

  half_lt : b ≤ 2 * a → 2 * c < b
  half_lt h = omega arith

  one-more-lt : b ≤ 2 * a → c + 1 < b
  one-more-lt h = omega arith

module _ (k : ℕ) (ws : List ℕ) (full : length ws ≡ suc k) (words : Words ws) where
  abbrev top : ℕ
  top = get_or ws k 0

  cut : ws ≡ take k ws ++ (top ∷ [])
  cut = split_at ws k 0 (omega arith) ∙ ap (λ (xs : List ℕ). take k ws ++ (top ∷ xs)) (drop_of_length-le ws {i = suc k} (omega arith))

  low-length : length (take k ws) ≡ k
  low-length = length-take-le k ws (omega arith)

  split : natural ws ≡ natural (take k ws) + 2 ^ (32 * k) * top
  unfolding natural
  split = ap natural cut ∙ natural-append (take k ws) (top ∷ []) ∙ rw low-length (omega arith)

  low-lt : natural (take k ws) < 2 ^ (32 * k)
  low-lt =
      part-lt (natural (take k ws)) (2 ^ (32 * k)) (natural (map complement (take k ws)))
      (natural-complement (take k ws) (take_words k ws words) ∙ ap (λ (x : ℕ). 2 ^ (32 * x)) low-length)

  range : 2 ^ (32 * length ws) ≡ 4294967296 * 2 ^ (32 * k)
  range = ap (λ (x : ℕ). 2 ^ (32 * x)) full ∙ base-suc k

  lower-half : top < 2 ^ 31 → 2 * natural ws < 2 ^ (32 * length ws)
  lower-half h = rw (split, range) (lower (natural (take k ws)) (2 ^ (32 * k)) top low-lt h)

  upper-half : 2 ^ 31 ≤ top → 2 ^ (32 * length ws) ≤ 2 * natural ws
  upper-half h = rw (split, range) (upper (natural (take k ws)) (2 ^ (32 * k)) top h)

  pub positive : top < 2 ^ 31 → integer ws ≡ pos (natural ws)
  positive h = integer-positive ws (lower-half h)

  pub negative : 2 ^ 31 ≤ top → integer ws ≡ negsuc (natural (map complement ws))
  negative h = integer-negative ws words (upper-half h)

  pub exact-top : (s : Bool) → s ≡ leb (2 ^ 31) top → exact_number (integer ws) ≡ finite s (nat_abs (integer ws))
  exact-top false e = rw (positive (leb-false (2 ^ 31) top (sym e)))
  exact-top true e = rw (negative (leb-true (2 ^ 31) top (sym e)))

  -- as the code makes it: there is room in as many words, for the least number too
  pub magnitude-top : (s : Bool) → s ≡ leb (2 ^ 31) top → natural (after_term (cond s (map complement ws) ws) false (cond s 1 0) 0) ≡ nat_abs (integer ws)
  unfolding words_of_integer
  magnitude-top false e =
      let h = leb-false (2 ^ 31) top (sym e) in
      let c = natural-complement ws words in
      let r = natural-back (length ws) (natural ws + 0) (whole-lt (natural ws) (2 ^ (32 * length ws)) (natural (map complement ws)) c (lower-half h)) in
      ap (λ (z : ℤ). natural (words_of_integer (length ws) (z +ℤ pos 0))) (positive h) ∙ r ∙ add-zero (natural ws) ∙ ap nat_abs (sym (positive h))
  magnitude-top true e =
      let h = leb-true (2 ^ 31) top (sym e) in
      let cs = map complement ws in
      let l : length cs ≡ length ws = length-map ws complement in
      let c = natural-complement ws words in
      let i = integer-positive cs (rw l (half_lt (natural ws) (2 ^ (32 * length ws)) (natural cs) c (upper-half h))) in
      let r = natural-back (length cs) (natural cs + 1) (rw l (one-more-lt (natural ws) (2 ^ (32 * length ws)) (natural cs) c (upper-half h))) in
      ap (λ (z : ℤ). natural (words_of_integer (length cs) (z +ℤ pos 1))) i ∙ r ∙ add-one (natural cs) ∙ ap nat_abs (sym (negative h))
