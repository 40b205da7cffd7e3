-- Whether a run goes on with the room that it has, and whether another byte is taken.
use mathlib.Core.Path.{◌≡◌, sym, ◌∙◌}
use mathlib.Core.Logic.{◌⊎◌, inl, inr}
use mathlib.Core.Bool.{Bool, true, false}
use Prim.Native.Nat.{ℕ, ◌≤◌, ◌<◌}
use borrow.Author.Tests.{le-leb, lt-leb, leb-true, leb-false}
use lib.Dec.{leb}
use Rattle.pattern_spec.proofs.Truth.{one_of, both_of}
use Rattle.sheet_spec.specs.Positions.{goes_on}
use Rattle.sheet_spec.specs.declared.Position.{Position}
use Rattle.sheet_line.specs.Inner.{ready_for}

pub no_room : (p : Position) (room need : ℕ) → room < need → leb need room ≡ ready_for p room need
unfolding ready_for
no_room p room need h = rw (lt-leb need room h)

pub has_room : (p : Position) (room need : ℕ) (r : Bool) → need ≤ room → r ≡ goes_on p → r ≡ ready_for p room need
unfolding ready_for
has_room p room need r h e = rw (le-leb need room h) e

module _ (p : Position) (room need : ℕ) (r : Bool) (is : r ≡ ready_for p room need) where
  pub is-ready : r ≡ true → (need ≤ room) × (goes_on p ≡ true)
  unfolding ready_for
  is-ready e = let a = both_of (leb need room) (goes_on p) (sym is ∙ e) in (leb-true need room a.0, a.1)

  pub not-ready : r ≡ false → (room < need) ⊎ (goes_on p ≡ false)
  unfolding ready_for
  not-ready e = elim (one_of (leb need room) (goes_on p) (sym is ∙ e)) [ inl a ↦ inl (leb-false need room a) | inr a ↦ inr a ]
