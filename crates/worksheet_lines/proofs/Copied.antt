-- Rows, copied one after the other.
use mathlib.Core.Path.{◌≡◌}
use mathlib.Core.List.{List, [], ◌∷◌, ◌++◌, append_assoc, append-nil}
use Prim.Native.Nat.{ℕ, ◌+◌, ◌*◌, ◌-◌, ◌<◌}
use native.Mathlib.Omega.{arith}
use native.Mathlib.Numerals.{add-one}
use lib.ListN.{length, take, drop, get_or, length-append}
use lib.Seq.{take-suc, take_at, drop_at, drop-drop}
use Rattle.worksheet_spec.specs.Lines.{line_size}
use Rattle.worksheet_lines.specs.Inner.{flat}

-- ---- the rows so far, and one more
pub flat-snoc : (ls : List (List ℕ)) (l : List ℕ) → flat (ls ++ (l ∷ [])) ≡ flat ls ++ l
unfolding flat
flat-snoc [] l = append-nil l
flat-snoc (x ∷ ls) l = rw (flat-snoc ls l, append_assoc)

module _ (words₀ words : List ℕ) (lines : List (List ℕ)) (i : ℕ) (l : List ℕ) (inside : i < length lines) (is : l ≡ get_or lines i []) (long : length l ≡ line_size)
    (so_far : words ≡ flat (take i lines) ++ drop (i * line_size) words₀) (laid : length (flat (take i lines)) ≡ i * line_size) where
  next : flat (take (i + 1) lines) ≡ flat (take i lines) ++ l
  next = rw (add-one, take-suc lines i [] inside, is, flat-snoc (take i lines) (get_or lines i []))

  next-length : length (flat (take (i + 1) lines)) ≡ (i + 1) * line_size
  next-length = rw (next, length-append (flat (take i lines)) l) (omega arith)

  front : take (i * line_size) words ≡ flat (take i lines)
  front = rw so_far (take_at (flat (take i lines)) (drop (i * line_size) words₀) (i * line_size) laid)

  back : drop (i * line_size) words ≡ drop (i * line_size) words₀
  back = rw so_far (drop_at (flat (take i lines)) (drop (i * line_size) words₀) (i * line_size) laid)

  line-laid : take (i * line_size) words ++ (l ++ drop (i * line_size + line_size - i * line_size) (drop (i * line_size) words)) ≡ flat (take (i + 1) lines) ++ drop ((i + 1) * line_size) words₀
  line-laid =
      let k : i * line_size + line_size - i * line_size ≡ line_size = omega arith in
      let m : (i + 1) * line_size ≡ i * line_size + line_size = omega arith in
      rw (front, back, k, m, next, drop-drop line_size (i * line_size) words₀, append_assoc)

  pub one_more : (take (i * line_size) words ++ (l ++ drop (i * line_size + line_size - i * line_size) (drop (i * line_size) words)) ≡ flat (take (i + 1) lines) ++ drop ((i + 1) * line_size) words₀)
      × (length (flat (take (i + 1) lines)) ≡ (i + 1) * line_size)
  one_more = (line-laid, next-length)
