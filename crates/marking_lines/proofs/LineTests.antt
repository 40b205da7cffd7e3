-- Which tests decide whether a line's step and operands are allowed, and whether it is true.
use mathlib.Core.Path.{◌≡◌, refl}
use mathlib.Core.Bool.{false, ◌&&◌}
use mathlib.Core.List.{List}
use mathlib.Core.Logic.{◌⊎◌, inl, inr}
use Prim.Native.Nat.{ℕ, ◌<◌}
use native.Mathlib.Omega.{arith}
use borrow.Author.Tests.{le-leb, lt-leb}
use lib.Dec.{eqb}
use Rattle.worksheet_spec.specs.declared.Step.{Step}
use Rattle.worksheet_spec.specs.declared.Step.TheVariants.{Add as add, Subtract as subtract, Multiply as multiply, Fused as fused}
use Rattle.worksheet_spec.specs.Steps.{step_number}
use Rattle.worksheet_spec.specs.Lines.{mark_of}
use Rattle.marking_spec.specs.declared.Claim.{Claim}
use Rattle.marking_spec.specs.Marking.{step_of, step_result, among, third_allowed, allowed, is_true}

module _ (ks : List ℕ) (l : Claim) where
  pub no-step : (l.step ≡ 0) ⊎ (4 < l.step) → false ≡ allowed ks l
  unfolding allowed
  no-step (inl e) = rw (lt-leb 1 l.step (omega (arith, e)))
  no-step (inr h) = rw (le-leb 1 l.step (omega (arith, h)), lt-leb l.step 4 h)

  pub allowed-by : (s : Step) → step_number s ≡ l.step → allowed ks l ≡ among l.x ks && (among l.y ks && third_allowed ks s l.z)
  unfolding allowed
  allowed-by add e = rw (← e)
  allowed-by subtract e = rw (← e)
  allowed-by multiply e = rw (← e)
  allowed-by fused e = rw (← e)

  pub third-looked-up : (s : Step) → s ≡ fused → third_allowed ks s l.z ≡ among l.z ks
  third-looked-up s e = rw e

  pub third-unused : (s : Step) → (s ≡ fused → ⊥) → third_allowed ks s l.z ≡ eqb l.z 0
  third-unused add n = refl
  third-unused subtract n = refl
  third-unused multiply n = refl
  third-unused fused n = absurd (n refl)

-- ---- a true line
module _ (l : Claim) {r m : ℕ} (result-is : r ≡ step_result (step_of l.step) l.x l.y l.z) (mark-is : m ≡ mark_of (step_of l.step) l.x l.y l.z) where
  pub true-by : is_true l ≡ eqb l.result r && eqb l.mark m
  unfolding is_true
  true-by = rw (← result-is, ← mark-is)
