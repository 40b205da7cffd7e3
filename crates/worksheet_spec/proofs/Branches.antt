-- Which branch a finite product takes, by its magnitude (R5.12).
use mathlib.Core.Path.{◌≡◌}
use mathlib.Core.Bool.{Bool}
use Prim.Native.Nat.{ℕ, ◌^◌, ◌≤◌, ◌<◌}
use native.Mathlib.Omega.{arith}
use borrow.Author.Tests.{eq-eqb, ne_eqb, lt-ltb, le-ltb, le-leb, lt-leb}
use Rattle.rounding_spec.specs.Value.{finite}
use Rattle.worksheet_spec.specs.declared.Branch.TheVariants.{Zero as when_zero, Tiny as when_tiny, Middle as when_middle, Other as otherwise}
use Rattle.worksheet_spec.specs.Sheets.{branch_of}

module _ (s : Bool) (m : ℕ) where
  pub branch-zero : m ≡ 0 → branch_of (finite s m) ≡ when_zero
  unfolding branch_of
  branch-zero z = rw (eq-eqb m 0 z)

  pub branch-tiny : 0 < m → m < 2 ^ 24 → branch_of (finite s m) ≡ when_tiny
  unfolding branch_of
  branch-tiny h k = rw (ne_eqb m 0 (λ (e : m ≡ 0). omega arith), lt-ltb m (2 ^ 24) k)

  pub branch-middle : 2 ^ 24 ≤ m → m ≤ 2 ^ 47 → branch_of (finite s m) ≡ when_middle
  unfolding branch_of
  branch-middle h k = rw (ne_eqb m 0 (λ (e : m ≡ 0). omega arith), le-ltb m (2 ^ 24) h, le-leb m (2 ^ 47) k)

  pub branch-other : 2 ^ 47 < m → branch_of (finite s m) ≡ otherwise
  unfolding branch_of
  branch-other h = rw (ne_eqb m 0 (λ (e : m ≡ 0). omega arith), le-ltb m (2 ^ 24) (omega arith), lt-leb m (2 ^ 47) h)
