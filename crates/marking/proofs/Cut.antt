-- The lines that words are cut into: where each of them leads, and what the last two claim.
use mathlib.Core.Path.{◌≡◌, refl}
use mathlib.Core.Bool.{true, false, ◌&&◌}
use mathlib.Core.List.{List, [], ◌∷◌}
use Prim.Native.Nat.{ℕ, ◌+◌, ◌-◌, ◌*◌, ◌/◌, ◌≤◌, ◌<◌}
use native.Mathlib.Omega.{arith}
use lib.Dec.{eqb}
use lib.ListN.{length, take, drop, get_or}
use Rattle.std.specs.Simd.{first_chunks}
use Rattle.augmented_spec.specs.declared.Operation.{Operation}
use Rattle.augmented_spec.specs.Direct.{direct_pair}
use Rattle.rounding_spec.specs.Format.{binary32}
use Rattle.worksheet_spec.specs.Lines.{line_size}
use Rattle.marking_spec.specs.declared.Claim.{Claim}
use Rattle.marking_spec.specs.Marking.{claims, known, allowed, is_true, refused_at, is_right}
use Rattle.marking_spec.proofs.Claims.{cut-at}
use Rattle.marking_spec.proofs.InOrder.{from, operands-at, truth-at, passes_at, right_is}

module _ (o : Operation) (x y : ℕ) (ws : List ℕ) (lines : List (List ℕ)) (cut : lines ≡ first_chunks line_size (length ws / line_size) ws) where
  -- line i, counted from 0
  module _ (i : ℕ) (inside : i < length ws / line_size) (l : Claim) (is : claims (get_or lines i []) ≡ l ∷ []) where
    begins : claims (drop (line_size * i) ws) ≡ l ∷ claims (drop (line_size * i + line_size) ws)
    begins = cut-at ws lines i (line_size * i) l cut inside refl is

    from-start : i * line_size ≡ line_size * i
    from-start = omega arith

    pub operands-cut : allowed (known x y (claims (take (i * line_size) ws))) l ≡ false → from o x y ws (line_size * i) ≡ refused_at 14 (i + 1)
    operands-cut e = operands-at o x y ws i (line_size * i) refl (omega arith) l begins (rw from-start at e)

    pub truth-cut : allowed (known x y (claims (take (i * line_size) ws))) l ≡ true → is_true l ≡ false → from o x y ws (line_size * i) ≡ refused_at 15 (i + 1)
    truth-cut e f = truth-at o x y ws i (line_size * i) refl (omega arith) l begins (rw from-start at e) f

    pub passes-cut : allowed (known x y (claims (take (i * line_size) ws))) l ≡ true → is_true l ≡ true
        → from o x y ws (line_size * i) ≡ from o x y ws (line_size * (i + 1))
    passes-cut e f = passes_at o x y ws i (line_size * i) refl (omega arith) l begins (rw from-start at e) f

  -- the last two of k lines
  pub right-cut : (k : ℕ) → line_size * k ≡ length ws → 2 ≤ k → (first second : Claim) → claims (get_or lines (k - 2) []) ≡ first ∷ []
      → claims (get_or lines (k - 1) []) ≡ second ∷ []
      → is_right o x y (claims ws) ≡ eqb first.result (direct_pair o binary32 x y).first && eqb second.result (direct_pair o binary32 x y).second
  right-cut k whole two first second is js =
      right_is o x y ws (k - 2) (line_size * (k - 2)) (line_size * (k - 1)) refl (omega arith) (omega arith) first second
      (cut-at ws lines (k - 2) (line_size * (k - 2)) first cut (omega arith) refl is)
      (cut-at ws lines (k - 1) (line_size * (k - 1)) second cut (omega arith) refl js)
