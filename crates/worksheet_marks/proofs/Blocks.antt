-- Tables of lists and choices, and the blocks that end a sheet: recomposition (R5.5) and zero finish (R5.6).
use mathlib.Core.Path.{◌≡◌, refl, sym, ap, ap₂, ◌∙◌}
use mathlib.Core.Bool.{Bool, true, false, cond}
use mathlib.Core.List.{List, [], ◌∷◌, ◌++◌}
use Prim.Native.Nat.{ℕ, ◌+◌, ◌*◌, ◌^◌, ◌<◌}
use native.Mathlib.Nat.{lt_of_le_of_lt}
use native.Mathlib.Omega.{arith}
use Rattle.rounding_spec.specs.Format.{binary32, limit}
use Rattle.rounding_spec.specs.Nearest.{dist}
use Rattle.rounding_spec.specs.Value.{finite, is_finite}
use Rattle.rounding_spec.proofs.Scaled.{rep-shift}
use Rattle.rounding_spec.proofs.TieDown.{error-le}
use Rattle.binary32_spec.specs.Steps.{mul_value, sub_value, sub_step, mul_step}
use Rattle.binary32_spec.specs.Marks.{sub_mark, mul_mark}
use Rattle.binary32_spec.proofs.Theorems.{sub-decodes, mul-decodes}
use Rattle.errorfree_spec.proofs.NoNumber.{number-of}
use Rattle.errorfree_spec.proofs.Recomposed as recomposed
use Rattle.errorfree_spec.proofs.Signed.{Is, rel-dist}
use Rattle.errorfree_spec.proofs.Split.{Split}
use Rattle.worksheet_spec.specs.Constants.{psi, two, plus_zero}
use Rattle.worksheet_spec.specs.declared.Step.TheVariants.{Multiply as multiply}
use Rattle.worksheet_spec.specs.Lines.{Line, line, Sheet, before, ends, value, is_zero_pattern}
use Rattle.worksheet_spec.specs.Sheets.{recomposition, zero_finish, recomposed_finished, lowering}
use Rattle.worksheet_spec.proofs.Entries.{◌&◌}
use Rattle.worksheet_spec.proofs.Constants.{psi-value, two-value}
use Rattle.worksheet_spec.proofs.SumSteps.{first-finite}
use Rattle.worksheet_marks.specs.Tables.{Entry, any, exact, MarkTable}
use Rattle.worksheet_marks.proofs.Exactness.{is_number, is-of, is-own, sub-exact}
use Rattle.worksheet_marks.proofs.Powers.{zero-exact, up-exact}

-- ---- lists and choices
pub table-append : (cs : List Entry) (ls ms : List Line) → MarkTable cs ls → MarkTable [] ms → MarkTable cs (ls ++ ms)
table-append [] [] ms h k = k
table-append [] (l ∷ ls) ms h k = (h.0, table-append [] ls ms h.1 k)
table-append (c ∷ cs) [] ms h k = absurd h
table-append (c ∷ cs) (l ∷ ls) ms h k = (h.0, table-append cs ls ms h.1 k)

pub rest-cond : (c : Bool) (s t : Sheet) → (c ≡ true → MarkTable [] s.lines) → (c ≡ false → MarkTable [] t.lines) → MarkTable [] (cond c s t).lines
rest-cond true s t h k = h refl
rest-cond false s t h k = k refl

-- a correction, where one is due, before lines that lose nothing
pub lowering-table : (c : Bool) (x : ℕ) (ls : List Line) → (c ≡ true → (lowering x).mark ≡ 0) → MarkTable [] ls → MarkTable [] (cond c (lowering x ∷ []) [] ++ ls)
lowering-table true x ls h k = (h refl, k)
lowering-table false x ls h k = k

-- ---- zero finish
pub finish-table : (first second : ℕ) → is_finite (value first) ≡ true → MarkTable [] (zero_finish first second).lines
unfolding zero_finish
finish-table first second f =
    rest-cond (is_zero_pattern second) (before (line multiply plus_zero first (mul_step plus_zero first) ∷ []) (ends first (mul_step plus_zero first))) (ends first second)
    (λ c. zero-exact first f & tt) (λ c. tt)

-- ---- recomposition of n units with the sign s, which are split into a and b
module _ (s : Bool) (n A a b : ℕ) (ai : value a ≡ finite s A) (h : Split binary32 s n A (value b)) where
  abbrev z : ℕ
  z = mul_step psi a

  abbrev Z : ℕ
  Z = recomposed.Z binary32 (omega arith) s n A (value b) h

  z-is : value z ≡ finite s Z
  z-is = mul-decodes psi a ∙ ap₂ (mul_value binary32) psi-value ai ∙ recomposed.z-is binary32 (omega arith) s n A (value b) h

  d-is : Is s (value (sub_step z a)) Z A
  d-is =
      is-of s (value (sub_step z a)) (sub_value binary32 (finite s Z) (finite s A)) Z A (sub-decodes z a ∙ ap₂ (sub_value binary32) z-is ai)
      (recomposed.d-is binary32 (omega arith) s n A (value b) h)

  pub d-exact : sub_mark z a ≡ 0
  d-exact = sub-exact s z a Z 0 A 0 Z A (is-own s (value z) Z z-is) (is-own s (value a) A ai) d-is (plain Z A)
    where
      plain : (i j : ℕ) → i + (0 + j) ≡ i + 0 + j
      plain i j = omega arith

  pub e-exact : mul_mark two b ≡ 0
  e-exact =
      let p = number-of (value b) (is_number s (value b) n A h.rest) in
      let d : p.1 ≡ dist n A = rel-dist s p.0 p.1 n A (is-of s (finite p.0 p.1) (value b) n A (sym p.2) h.rest) in
      (up-exact two 1 b p.0 p.1 two-value p.2 (rep-shift 1 (rw d h.error)) (within p.1 n A (limit binary32) d (lt_of_le_of_lt (error-le h.near) h.fine))).1
    where
      within : (m n A W : ℕ) → m ≡ dist n A → 2 * dist n A < W → m * 2 ^ 1 < W
      within m n A W e k = omega arith

  pub recomposed-table : MarkTable (any ∷ exact ∷ exact ∷ []) (recomposed_finished a b).lines
  unfolding recomposed_finished recomposition
  recomposed-table = tt & d-exact & e-exact & finish-table (recomposition a b).first (recomposition a b).second (first-finite a b (ap is_finite ai))
