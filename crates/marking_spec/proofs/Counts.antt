-- How many words are whole lines that are marked, as a test and as bounds.
use mathlib.Core.Path.{◌≡◌}
use mathlib.Core.Bool.{true, false, ◌&&◌}
use Prim.Native.Nat.{ℕ, ◌%◌, ◌≤◌, ◌<◌}
use borrow.Author.Tests.{le-leb, lt-leb, eq-eqb, ne_eqb, eqb-true, leb-true}
use lib.Dec.{eqb, leb}
use Rattle.pattern_spec.proofs.Truth.{both_of}
use Rattle.marking_spec.specs.Marking.{is_markable}
use Rattle.marking_spec.specs.Theorems.{Markable}

module _ (n : ℕ) where
  pub no-whole-lines : (n % 6 ≡ 0 → ⊥) → false ≡ is_markable n
  no-whole-lines h = rw (ne_eqb (n % 6) 0 h)

  pub too-few-lines : n % 6 ≡ 0 → n < 12 → false ≡ is_markable n
  too-few-lines e h = rw (eq-eqb (n % 6) 0 e, lt-leb 12 n h)

  pub enough-lines : n % 6 ≡ 0 → 12 ≤ n → leb n 600 ≡ is_markable n
  enough-lines e h = rw (eq-eqb (n % 6) 0 e, le-leb 12 n h)

  pub markable : is_markable n ≡ true → Markable n
  markable e =
      let b = both_of (eqb (n % 6) 0) (leb 12 n && leb n 600) e in
      let c = both_of (leb 12 n) (leb n 600) b.1 in
      (eqb-true (n % 6) 0 b.0, leb-true 12 n c.0, leb-true n 600 c.1)

  pub is-markable : Markable n → is_markable n ≡ true
  is-markable m = rw (eq-eqb (n % 6) 0 m.0, le-leb 12 n m.1, le-leb n 600 m.2)
