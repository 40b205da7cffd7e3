-- Totals that were built by adding, joining and carrying over are columns of their terms; an empty one joins without a trace; joins by computation.
use mathlib.Core.Path.{◌≡◌, refl, sym, ap, ap₂, ◌∙◌}
use mathlib.Core.HLevel.{×_prop}
use mathlib.Core.Logic.{∥∥₁_elim}
use mathlib.Core.Bool.{true, Bool-set}
use mathlib.Core.List.{List, [], ◌∷◌, ◌++◌, append_assoc, append-nil, Perm, Permᴰ}
use Prim.Native.Nat.{ℕ, ◌+◌, ◌≤◌}
use native.Mathlib.Bridge.{le_prop}
use native.Mathlib.Nat.{le_trans, le_of_eq, add-zero, zero-add}
use native.Mathlib.Omega.{arith}
use lib.IntN.{ℤ, pos, ◌+ℤ◌, +ℤ_assoc, +ℤ_idl, +ℤ_idr}
use lib.ListN.{length, take, length-append}
use Rattle.pattern_spec.specs.Answer.{done}
use Rattle.pattern_spec.specs.Exact.{whole}
use Rattle.accumulator_spec.specs.Words.{Words, natural, integer, words_of_natural, words_of_integer}
use Rattle.accumulator_spec.specs.Totals.{zeros, most_terms, number, count, sign_word, total_of, fit, FitTotal, sign_of_both}
use Rattle.accumulator_spec.specs.Totals.{Term, finite_operands, exact_term, adding, after_adding}
use Rattle.accumulator_spec.specs.Columns.{column, Accepted, AllFinite, column_sum, column_sign}
use Rattle.accumulator_spec.specs.Carrying.{old_size, old_column, carrying, after_carrying, carried_terms}
use Rattle.accumulator_spec.specs.Joins.{joining, after_joining, Built, from_cleared, by_adding, by_joining, by_carrying}
use Rattle.accumulator_spec.specs.SignTheorems.{OldBuiltIs}
use Rattle.accumulator_spec.specs.JoinTheorems.{BuiltBy, BuiltIsColumn, JoinedIsColumn, ColumnsJoin, ColumnBuilt, EmptyJoins, JoinLandmarks}
use Rattle.accumulator_spec.proofs.Adding.{limits, fit-bounds, accepted-term}
use Rattle.accumulator_spec.proofs.Signs.{sign-idl, sign-idr, both-signs}
use Rattle.accumulator_spec.proofs.Carried.{old-count, carry-conditions, carried-finite, carried-column, old-column-is}
use Rattle.accumulator_spec.proofs.Columns.{column-next, all-finite-is, exact-column, any_order, perm-length, perm-finite}
use Rattle.accumulator_spec.proofs.Held.{total-same, total-unique}
use Rattle.accumulator_spec.proofs.Joining.{conditions, joins, after-joined}

-- ---- terms of two columns
both-finite : (xs ys : List Term) → AllFinite xs → AllFinite ys → AllFinite (xs ++ ys)
unfolding AllFinite
both-finite [] ys f g = g
both-finite (x ∷ xs) ys f g = (f.0, both-finite xs ys f.1 g)

both_sums : (xs ys : List Term) → column_sum (xs ++ ys) ≡ column_sum xs +ℤ column_sum ys
unfolding column_sum
both_sums [] ys = sym (+ℤ_idl (column_sum ys))
both_sums (x ∷ xs) ys =
    ap (λ (z : ℤ). whole (exact_term x) +ℤ z) (both_sums xs ys) ∙ sym (+ℤ_assoc (whole (exact_term x)) (column_sum xs) (column_sum ys))

module _ (xs ys : List Term) (room : length xs + length ys ≤ most_terms) (f : AllFinite xs) (g : AllFinite ys) where
  few : (length xs ≤ most_terms) × (length ys ≤ most_terms)
  few = (omega arith, omega arith)

  columns-accepted : joining (column zeros xs) (column zeros ys) ≡ done tt
  columns-accepted =
      let x = exact-column xs few.0 f in
      let y = exact-column ys few.1 g in
      joins (column zeros xs) (column zeros ys) x.5.full x.5.fits y.5.full y.5.fits (le_trans (le_of_eq (ap₂ ◌+◌ x.3 y.3)) room)

  columns-joined : after_joining (column zeros xs) (column zeros ys) ≡ column zeros (xs ++ ys)
  columns-joined =
      let x = exact-column xs few.0 f in
      let y = exact-column ys few.1 g in
      after-joined (column zeros xs) (column zeros ys) columns-accepted
      ∙ total-same (ap₂ ◌+ℤ◌ x.2 y.2 ∙ sym (both_sums xs ys)) (ap₂ ◌+◌ x.3 y.3 ∙ sym (length-append xs ys))
      (ap₂ sign_of_both x.4 y.4 ∙ sym (both-signs xs ys))
      ∙ sym (exact-column (xs ++ ys) (le_trans (le_of_eq (length-append xs ys)) room) (both-finite xs ys f g)).1

pub columns-join : ColumnsJoin
columns-join xs ys h f g = (columns-accepted xs ys h f g, columns-joined xs ys h f g)

-- ---- what is built
record Column (t : List ℕ) (xs : List Term) : Type 0 where
  is : t ≡ column zeros xs
  finite : AllFinite xs
  few : length xs ≤ most_terms

counted : (t : List ℕ) (xs : List Term) → Column t xs → count t ≡ length xs
counted t xs c = ap (λ (u : List ℕ). count u) c.is ∙ (exact-column xs c.few c.finite).3

one_more : (t : List ℕ) (xs : List Term) (x : Term) → Column t xs → adding t x ≡ done tt → Column (after_adding t x) (xs ++ (x ∷ []))
one_more t xs x c e =
    let k : Words t = rw c.is (exact-column xs c.few c.finite).5.words in
    let a = (accepted-term t x k).0 e in
    let n = counted t xs c in
    let l = a.2 in
    record {
      is = ap (λ (u : List ℕ). after_adding u x) c.is ∙ sym (column-next zeros xs x).1;
      finite = (all-finite-is xs x).1 c.finite a.1;
      few = le_trans (le_of_eq (length-append xs (x ∷ []))) (omega arith);
    }

two : (t u : List ℕ) (xs ys : List Term) → Column t xs → Column u ys → joining t u ≡ done tt → Column (after_joining t u) (xs ++ ys)
two t u xs ys c d e =
    let r = (conditions t u e).room in
    let m = counted t xs c in
    let n = counted u ys d in
    let room : length xs + length ys ≤ most_terms = omega arith in
    record {
      is = ap₂ after_joining c.is d.is ∙ columns-joined xs ys room c.finite d.finite;
      finite = both-finite xs ys c.finite d.finite;
      few = le_trans (le_of_eq (length-append xs ys)) room;
    }

-- an old total of these terms, carried over: its count is that of the terms
old : (new : List ℕ) (xs : List Term) → AllFinite xs → carrying (old_column xs) new ≡ done tt → Column (after_carrying (old_column xs) new) (carried_terms xs)
old new xs f e =
    let c = carry-conditions (old_column xs) new e in
    let n = old-count (column_sum xs) (length xs) in
    let few : length xs ≤ most_terms = le_trans (le_of_eq (sym n)) (limits (old_column xs) c.2).0 in
    let k = carried-column new xs few f c.1 in
    record { is = k.1; finite = carried-finite xs f; few = le_trans (le_of_eq k.2) few }

built : {t : List ℕ} {xs : List Term} → Built t xs → Column t xs
unfolding column AllFinite
built from_cleared = record { is = refl; finite = tt; few = omega arith }
built (by_adding {t} {xs} x b e) = one_more t xs x (built b) e
built (by_joining {t} {u} {xs} {ys} b d e) = two t u xs ys (built b) (built d) e
built (by_carrying new xs f e) = old new xs f e

pub built-by : BuiltBy
built-by = (from_cleared, (λ t xs x b e. by_adding x b e), (λ t u xs ys b d e. by_joining b d e), by_carrying)

-- ---- in any order
finite-prop : (xs : List Term) → IsProp (AllFinite xs)
unfolding AllFinite
finite-prop [] = λ a b. refl
finite-prop (x ∷ xs) = ×_prop (Bool-set (finite_operands x) true) (finite-prop xs)

reordered : (t : List ℕ) (xs zs : List Term) → Column t xs → Perm xs zs → Column t zs
reordered t xs zs c p =
    record {
      is = c.is ∙ any_order xs zs p c.few c.finite;
      finite = ∥∥₁_elim p (finite-prop zs) (λ (d : Permᴰ xs zs). perm-finite d c.finite);
      few = ∥∥₁_elim p le_prop (λ (d : Permᴰ xs zs). le_trans (le_of_eq (sym (perm-length d))) c.few);
    }

pub built-is-column : BuiltIsColumn
built-is-column t xs zs b p =
    let c = reordered t xs zs (built b) p in
    let x = exact-column zs c.few c.finite in
    (c.is, x.0, c.finite, c.few, rw c.is x.5)

pub joined-is-column : JoinedIsColumn
joined-is-column f s xs ys zs b d e p = let c = built-is-column (after_joining f s) (xs ++ ys) zs (by_joining b d e) p in (c.0, c.1)

-- an old one that was built has the words of the old total of its terms
pub old-built-is : OldBuiltIs
old-built-is t xs b = let c = built b in ap (take old_size) c.is ∙ old-column-is xs c.few c.finite

-- ---- and columns are built, term by term
more-built : (xs : List Term) (t : List ℕ) (ys : List Term) → Built t ys → Accepted t xs → Built (column t xs) (ys ++ xs)
unfolding column Accepted
more-built [] t ys b a = rw (append-nil ys) b
more-built (x ∷ xs) t ys b a = rw (append_assoc ys (x ∷ []) xs) at (more-built xs (after_adding t x) (ys ++ (x ∷ [])) (by_adding x b a.0) a.1)

pub column-built : ColumnBuilt
column-built xs h f = more-built xs zeros [] from_cleared (exact-column xs h f).0

-- ---- empty totals
nothing : (number zeros ≡ pos 0) × (count zeros ≡ 0) × (sign_word zeros ≡ 0) × FitTotal zeros
unfolding AllFinite column_sum column_sign column
nothing = let x = exact-column [] (omega arith) tt in (x.2, x.3, x.4, x.5)

module _ (t : List ℕ) (f : FitTotal t) where
  abbrev few-terms : count t ≤ most_terms
  few-terms = (fit-bounds t f.fits).few

  behind : joining t zeros ≡ done tt
  behind = joins t zeros f.full f.fits nothing.3.full nothing.3.fits (omega (arith, nothing.1, few-terms))

  before : joining zeros t ≡ done tt
  before = joins zeros t nothing.3.full nothing.3.fits f.full f.fits (omega (arith, nothing.1, few-terms))

  itself : total_of (number t) (count t) (sign_word t) ≡ t
  itself = total-unique t f.full f.words

  abbrev sign_small : sign_word t ≤ 1
  sign_small = (fit-bounds t f.fits).sign

pub empty-joins : EmptyJoins
empty-joins t f = (
  behind t f,
  after-joined t zeros (behind t f) ∙
      total-same (ap (λ (z : ℤ). number t +ℤ z) nothing.0 ∙ +ℤ_idr (number t)) (ap (λ (n : ℕ). count t + n) nothing.1 ∙ add-zero (count t))
      (ap (sign_of_both (sign_word t)) nothing.2 ∙ sign-idr (sign_word t) (sign_small t f)) ∙ itself t f,
  before t f,
  after-joined zeros t (before t f) ∙
      total-same (ap (λ (z : ℤ). z +ℤ number t) nothing.0 ∙ +ℤ_idl (number t)) (ap (λ (n : ℕ). n + count t) nothing.1 ∙ zero-add (count t))
      (ap (λ (v : ℕ). sign_of_both v (sign_word t)) nothing.2 ∙ sign-idl (sign_word t) (sign_small t f)) ∙ itself t f,
)

-- ---- by computation
pub join-landmarks : JoinLandmarks
unfolding joining after_joining fit integer natural words_of_integer words_of_natural
join-landmarks = (refl, refl, refl, refl, refl, refl)
