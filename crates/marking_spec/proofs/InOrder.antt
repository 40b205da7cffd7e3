-- The lines in their order: what each one leads to, also by words, and what their end does.
use mathlib.Core.Path.{◌≡◌, refl, sym, ap, ◌∙◌}
use mathlib.Core.Bool.{true, false, ◌&&◌}
use mathlib.Core.List.{List, [], ◌∷◌, ◌++◌}
use Prim.Native.Nat.{ℕ, suc, ◌+◌, ◌*◌, ◌≤◌}
use native.Mathlib.Nat.{le_of_eq}
use native.Mathlib.Omega.{arith}
use lib.Dec.{eqb}
use lib.ListN.{length, take, drop, drop_of_length-le}
use lib.Seq.{length-take-le, take_all}
use Rattle.augmented_spec.specs.declared.Operation.{Operation}
use Rattle.augmented_spec.specs.Direct.{direct_pair}
use Rattle.rounding_spec.specs.Format.{binary32}
use Rattle.worksheet_spec.specs.Lines.{line_size}
use Rattle.marking_spec.specs.declared.Claim.{Claim}
use Rattle.marking_spec.specs.Marking.{claims, known, allowed, is_true, last_two_are, Marked, refused_at, judged, is_right, in_order}
use Rattle.marking_spec.proofs.Claims.{claims-split, claims-next, claims-count}

module _ (o : Operation) (x y : ℕ) where
  pub all-passed : (earlier : List Claim) → in_order o x y earlier [] ≡ judged (is_right o x y earlier)
  unfolding in_order
  all-passed earlier = refl

  module _ (earlier : List Claim) (l : Claim) (later : List Claim) where
    pub fails-operands : allowed (known x y earlier) l ≡ false → in_order o x y earlier (l ∷ later) ≡ refused_at 14 (suc (length earlier))
    unfolding in_order
    fails-operands e = rw e

    pub fails-truth : allowed (known x y earlier) l ≡ true → is_true l ≡ false → in_order o x y earlier (l ∷ later) ≡ refused_at 15 (suc (length earlier))
    unfolding in_order
    fails-truth e f = rw (e, f)

    pub passes : allowed (known x y earlier) l ≡ true → is_true l ≡ true → in_order o x y earlier (l ∷ later) ≡ in_order o x y (earlier ++ (l ∷ [])) later
    unfolding in_order
    passes e f = rw (e, f)

  -- ---- the line that begins at a word
  module _ (ws : List ℕ) where
    abbrev pub from : ℕ → Marked
    from at = in_order o x y (claims (take at ws)) (claims (drop at ws))

    pub from_end : (at : ℕ) → length ws ≤ at → from at ≡ judged (is_right o x y (claims ws))
    unfolding claims
    from_end at h = rw (take_all at ws h, drop_of_length-le ws h) (all-passed (claims ws))

    -- line i, counted from 0
    module _ (i at : ℕ) (whole : at ≡ line_size * i) (inside : at + line_size ≤ length ws) (l : Claim)
        (is : claims (drop at ws) ≡ l ∷ claims (drop (at + line_size) ws)) where
      abbrev before : List Claim
      before = claims (take at ws)

      abbrev behind : List Claim
      behind = claims (drop (at + line_size) ws)

      number_is : (n : ℕ) → refused_at n (suc (length before)) ≡ refused_at n (i + 1)
      number_is n =
          let count = claims-count i (take at ws) (length-take-le at ws (omega arith) ∙ whole) in
          let line : suc (length before) ≡ i + 1 = omega (arith, count) in
          ap (refused_at n) line

      pub operands-at : allowed (known x y before) l ≡ false → from at ≡ refused_at 14 (i + 1)
      operands-at e = ap (in_order o x y before) is ∙ fails-operands before l behind e ∙ number_is 14

      pub truth-at : allowed (known x y before) l ≡ true → is_true l ≡ false → from at ≡ refused_at 15 (i + 1)
      truth-at e f = ap (in_order o x y before) is ∙ fails-truth before l behind e f ∙ number_is 15

      pub passes_at : allowed (known x y before) l ≡ true → is_true l ≡ true → from at ≡ from (line_size * (i + 1))
      passes_at e f =
          ap (in_order o x y before) is ∙ passes before l behind e f
          ∙ ap (λ (ls : List Claim). in_order o x y ls behind) (sym (claims-next ws at i whole l inside is))
          ∙ ap from (omega arith)

-- ---- the claimed pair
pub claimed-ends : (first second : ℕ) (ls : List Claim) (k l : Claim) → last_two_are first second (ls ++ (k ∷ l ∷ [])) ≡ eqb k.result first && eqb l.result second
unfolding last_two_are
claimed-ends first second [] k l = refl
claimed-ends first second (i ∷ []) k l = refl
claimed-ends first second (i ∷ j ∷ []) k l = refl
claimed-ends first second (h ∷ i ∷ j ∷ ls) k l = claimed-ends first second (i ∷ j ∷ ls) k l

-- by the words of the last two lines
module _ (o : Operation) (x y : ℕ) (ws : List ℕ) (i at last : ℕ) (whole : at ≡ line_size * i) (next : at + line_size ≡ last) (end : last + line_size ≡ length ws)
    (k l : Claim) (is : claims (drop at ws) ≡ k ∷ claims (drop (at + line_size) ws)) (js : claims (drop last ws) ≡ l ∷ claims (drop (last + line_size) ws)) where
  nothing : claims (drop (last + line_size) ws) ≡ []
  unfolding claims
  nothing = ap claims (drop_of_length-le ws (le_of_eq (sym end)))

  lines_are : claims ws ≡ claims (take at ws) ++ (k ∷ l ∷ [])
  lines_are =
      claims-split ws at i whole (omega arith)
      ∙ ap (λ (ls : List Claim). claims (take at ws) ++ ls)
      (is ∙ ap (λ (ls : List Claim). k ∷ ls) (ap (λ (n : ℕ). claims (drop n ws)) next ∙ js ∙ ap (λ (ls : List Claim). l ∷ ls) nothing))

  pub right_is : is_right o x y (claims ws) ≡ eqb k.result (direct_pair o binary32 x y).first && eqb l.result (direct_pair o binary32 x y).second
  unfolding is_right
  right_is =
      ap (last_two_are (direct_pair o binary32 x y).first (direct_pair o binary32 x y).second) lines_are
      ∙ claimed-ends (direct_pair o binary32 x y).first (direct_pair o binary32 x y).second (claims (take at ws)) k l
