-- Words turned one after the other, from the lowest on: each as it is, or each to its complement.
use mathlib.Core.Path.{◌≡◌, refl, sym, ap, ◌∙◌}
use mathlib.Core.Bool.{Bool, true, false, cond}
use mathlib.Core.List.{List, [], ◌∷◌, ◌++◌, map, map-append, map-id, append_assoc, append-nil}
use Prim.Native.Nat.{ℕ, suc, ◌+◌, ◌<◌, ◌≤◌}
use native.Mathlib.Numerals.{add-one}
use native.Mathlib.Omega.{arith}
use lib.Bits.{bit_xor}
use lib.ListN.{length, take, drop, get_or, set, length-map, drop_of_length-le}
use lib.Seq.{drop-cons, take-suc, take_all, length-take-le, get_or_at, set_at}
use Rattle.accumulator_spec.specs.Words.{Words, complement}
use Rattle.accumulator_spec.proofs.Carry.{turn, turn-xor}

module _ (s : Bool) (ws : List ℕ) where
  -- the words below i are turned
  abbrev pub upto : ℕ → List ℕ
  upto i = map (turn s) (take i ws) ++ drop i ws

  module _ (i : ℕ) (inside : i < length ws) where
    seam : length (map (turn s) (take i ws)) ≡ i
    seam = length-map (take i ws) (turn s) ∙ length-take-le i ws (omega arith)

    read : get_or (upto i) i 0 ≡ get_or ws i 0
    read = rw (drop-cons ws i 0 inside) (get_or_at (map (turn s) (take i ws)) (get_or ws i 0) (drop (suc i) ws) 0 i seam)

    write : set (upto i) i (turn s (get_or ws i 0)) ≡ upto (suc i)
    write =
        let w = get_or ws i 0 in
        let done = set_at (map (turn s) (take i ws)) w (drop (suc i) ws) (turn s w) i seam in
        rw (drop-cons ws i 0 inside, done, take-suc ws i 0 inside, map-append (turn s) (take i ws) (w ∷ []), append_assoc)

    pub next : (xs : List ℕ) (m : ℕ) → Words ws → m ≡ cond s 0xffff_ffff 0 → xs ≡ upto i → set xs i (bit_xor (get_or xs i 0) m) ≡ upto (i + 1)
    next xs m k e h =
        let turning = turn-xor 32 s (get_or ws i 0) m (k i) e in
        ap (λ (ys : List ℕ). set ys i (bit_xor (get_or ys i 0) m)) h ∙ ap (λ (w : ℕ). set (upto i) i (bit_xor w m)) read ∙ ap (set (upto i) i) turning ∙ write
        ∙ ap upto (sym (add-one i))

  pub whole : (i : ℕ) → length ws ≤ i → upto i ≡ cond s (map complement ws) ws
  whole i h = rw (take_all i ws h, drop_of_length-le ws, append-nil (map (turn s) ws)) (by_sign s)
    where
      by_sign : (t : Bool) → map (turn t) ws ≡ cond t (map complement ws) ws
      by_sign true = refl
      by_sign false = map-id ws
