-- The lines of a sheet come from the question, constants and earlier results, and lead to its foot.
use mathlib.Core.Bool.{Bool, true, false, cond}
use mathlib.Core.List.{List, [], ◌∷◌}
use Prim.Native.Nat.{ℕ}
use lib.Dec.{leb}
use Rattle.rounding_spec.specs.Format.{binary32, sign_bit}
use Rattle.rounding_spec.specs.Value.{is_nan}
use Rattle.binary32_spec.specs.Steps.{add_step, sub_step, mul_step, fma_step}
use Rattle.augmented_spec.specs.declared.Operation.{Operation}
use Rattle.augmented_spec.specs.declared.Operation.TheVariants.{Sum as sum, Difference as difference, Product as product}
use Rattle.worksheet_spec.specs.Constants.{half, two_to_24, two_to_48, two_to_minus_24, plus_zero, smallest}
use Rattle.pattern_spec.specs.Classes.{copy_sign}
use Rattle.worksheet_spec.specs.declared.Step.TheVariants.{Multiply as multiply}
use Rattle.worksheet_spec.specs.Lines.{line, Sheet, before, ends, value, minus}
use Rattle.worksheet_spec.specs.declared.Branch.{Branch}
use Rattle.worksheet_spec.specs.declared.Branch.TheVariants.{NotANumber as when_nan, Infinite as when_infinite, Zero as when_zero, Tiny as when_tiny, Middle as when_middle, Other as otherwise}
use Rattle.worksheet_spec.specs.Sheets.{recomposition, zero_finish, recomposed_finished, halved_sum, overflows, sum_from}
use Rattle.worksheet_spec.specs.Sheets.{sum_in_order, swaps}
use Rattle.worksheet_spec.specs.Sheets.{sum_sheet, infinite_product, lowered, lowering, tiny_product, rest_tie, scaled_down, middle_product, other_product, branch_of, product_by, product_sheet}
use Rattle.worksheet_spec.specs.Sheets.{sheet_of}
use Rattle.worksheet_spec.specs.Theorems.{Among, Known, results, Derived}
use Rattle.worksheet_spec.proofs.TinyResults as tiny
use Rattle.worksheet_spec.proofs.Derivation.{here, flipped, there, left, right, after, grown, own, half_in, up_in, up-up-in, down-in, zero_in, Leads, adds, subtracts, lowers, multiplies}
use Rattle.worksheet_spec.proofs.Derivation.{scales, fuses, stop, leads-cond, lines, recomposition-leads, finish-leads, recomposed-leads, edge_leads}

module _ (B : List ℕ) where
  -- ---- sums
  -- x and y are given
  module _ (x y : ℕ) (hx : Among x B) (hy : Among y B) where
    halved-leads : (rs : List ℕ) (a : ℕ) → Among a rs → Leads B rs (halved_sum x y a)
    unfolding halved_sum
    halved-leads rs a ha =
        let x' = mul_step half x in
        let y' = mul_step half y in
        let a' = add_step x' y' in
        let v' = sub_step a' x' in
        let b' = sub_step y' v' in
        let known = b' ∷ v' ∷ a' ∷ y' ∷ x' ∷ rs in
        scales B half x x' rs _ half_in (right x rs B hx)
        (scales B half y y' (x' ∷ rs) _ half_in (right y (x' ∷ rs) B hy)
        (adds B x' y' a' (y' ∷ x' ∷ rs) _ (there y' x' _ (here x' _)) (here y' _)
        (subtracts B a' x' v' (a' ∷ y' ∷ x' ∷ rs) _ (here a' _) (there a' x' _ (there y' x' _ (here x' _)))
        (subtracts B y' v' b' (v' ∷ a' ∷ y' ∷ x' ∷ rs) _ (there v' y' _ (there a' y' _ (here y' _))) (here v' _)
        (edge_leads B known a a' b' (there b' a _ (there v' a _ (there a' a _ (there y' a _ (there x' a rs ha))))) (there b' a' _ (there v' a' _ (here a' _))) (here b' _))))))

    from-leads : (a : ℕ) → Leads B (a ∷ []) (sum_from x y a)
    unfolding sum_from
    from-leads a =
        let v = sub_step a x in
        let b = sub_step y v in
        let rs = b ∷ v ∷ a ∷ [] in
        let r = recomposed_finished a b in
        let c = overflows r.second a in
        let a_in : Among a rs = there b a _ (there v a _ (here a [])) in
        let l = recomposed-leads B rs a b a_in (here b _) (flipped b _) in
        subtracts B a x v (a ∷ []) _ (here a _) (right x (a ∷ []) B hx)
        (subtracts B y v b (v ∷ a ∷ []) _ (right y (v ∷ a ∷ []) B hy) (here v _)
        (lines B rs r.lines (cond c (halved_sum x y a) (ends r.first r.second)) l.0
        (leads-cond B c (after rs r.lines) (halved_sum x y a) (ends r.first r.second) (halved-leads (after rs r.lines) a (grown a rs r.lines a_in))
        (stop B r.first r.second (after rs r.lines) l.1 l.2))))

    order-leads : Leads B [] (sum_in_order x y)
    unfolding sum_in_order
    order-leads =
        let a = add_step x y in
        adds B x y a [] _ hx hy
        (leads-cond B (is_nan (value a)) (a ∷ []) (ends a a) (sum_from x y a) (stop B a a (a ∷ []) (here a []) (here a [])) (from-leads a))

    -- ---- products
    infinite-leads : (a : ℕ) → Leads B (a ∷ []) (infinite_product x y a)
    unfolding infinite_product
    infinite-leads a =
        let h = mul_step half x in
        let a' = mul_step h y in
        let b' = fma_step h y (minus a') in
        let rs = a ∷ [] in
        scales B half x h rs _ half_in (right x rs B hx)
        (multiplies B h y a' (h ∷ rs) _ (here h _) (right y (h ∷ rs) B hy)
        (fuses B h y (minus a') b' (a' ∷ h ∷ rs) _ (there a' h _ (here h _)) (right y (a' ∷ h ∷ rs) B hy) (flipped a' _)
        (edge_leads B (b' ∷ a' ∷ h ∷ rs) a a' b' (there b' a _ (there a' a _ (there h a _ (here a [])))) (there b' a' _ (here a' _)) (here b' _))))

    -- u with a sign
    sign-in : (a : ℕ) → Among (copy_sign smallest a) (smallest ∷ [])
    sign-in a = by (leb (sign_bit binary32) a)
      where
        by : (c : Bool) → Among (cond c (minus smallest) smallest) (smallest ∷ [])
        by true = flipped smallest []
        by false = here smallest []

    -- a correction, where there is one: its result, or what was there
    corrected : (c : Bool) (a : ℕ) (rs : List ℕ) (s : Bool → Sheet) → Among a rs
        → Leads B (lowered a ∷ rs) (s true) → Leads B rs (s false) → Leads B rs (before (cond c (lowering a ∷ []) []) (s c))
    unfolding lowering lowered
    corrected true a rs s ha h k = lowers B a (copy_sign smallest a) (lowered a) rs (s true) (left a rs B ha) (sign-in a) h
    corrected false a rs s ha h k = k

    tiny-leads : (a : ℕ) → Leads B (a ∷ []) (tiny_product x y a)
    unfolding tiny_product
    tiny-leads a =
        let m = tiny.m x y a in
        let n = tiny.n x y a in
        let t1 = tiny.t1 x y a in
        let t2 = tiny.t2 x y a in
        let g = tiny.g x y a in
        let t3 = tiny.t3 x y a in
        let z = tiny.z x y a in
        let w = tiny.w x y a in
        let known = w ∷ z ∷ t3 ∷ g ∷ t2 ∷ t1 ∷ n ∷ m ∷ a ∷ [] in
        let last : Bool → Sheet = λ (c : Bool). let f = cond c (lowered a) a in before (line multiply plus_zero f (mul_step plus_zero f) ∷ []) (ends f (mul_step plus_zero f)) in
        let a_in : Among a known = there w a _ (there z a _ (there t3 a _ (there g a _ (there t2 a _ (there t1 a _ (there n a _ (there m a _ (here a [])))))))) in
        scales B two_to_24 x m (a ∷ []) _ up_in (right x (a ∷ []) B hx)
        (scales B two_to_24 y n (m ∷ a ∷ []) _ up_in (right y (m ∷ a ∷ []) B hy)
        (multiplies B m n t1 (n ∷ m ∷ a ∷ []) _ (there n m _ (here m _)) (here n _)
        (fuses B m n (minus t1) t2 (t1 ∷ n ∷ m ∷ a ∷ []) _ (there t1 m _ (there n m _ (here m _))) (there t1 n _ (here n _)) (flipped t1 _)
        (scales B two_to_48 a g (t2 ∷ t1 ∷ n ∷ m ∷ a ∷ []) _ up-up-in (there t2 a _ (there t1 a _ (there n a _ (there m a _ (here a _)))))
        (subtracts B t1 g t3 (g ∷ t2 ∷ t1 ∷ n ∷ m ∷ a ∷ []) _ (there g t1 _ (there t2 t1 _ (here t1 _))) (here g _)
        (adds B t2 t3 z (t3 ∷ g ∷ t2 ∷ t1 ∷ n ∷ m ∷ a ∷ []) _ (there t3 t2 _ (there g t2 _ (here t2 _))) (here t3 _)
        (subtracts B z t3 w (z ∷ t3 ∷ g ∷ t2 ∷ t1 ∷ n ∷ m ∷ a ∷ []) _ (here z _) (there z t3 _ (here t3 _))
        (corrected (tiny.tie x y a) a known last a_in
        (finish (lowered a) (lowered a ∷ known) (here (lowered a) known)) (finish a known a_in)))))))))
      where
        finish : (f : ℕ) (rs : List ℕ) → Among f rs → Leads B rs (before (line multiply plus_zero f (mul_step plus_zero f) ∷ []) (ends f (mul_step plus_zero f)))
        finish f rs h = let s = mul_step plus_zero f in scales B plus_zero f s rs (ends f s) zero_in (left f rs B h) (stop B f s (s ∷ rs) (there s f rs h) (here s rs))

    scaled-leads : (rs : List ℕ) (A K : ℕ) → Among A rs → Among K rs → Leads B rs (scaled_down A K)
    unfolding scaled_down
    scaled-leads rs A K hA hK =
        let f = mul_step two_to_minus_24 A in
        let β = mul_step two_to_minus_24 K in
        let g = mul_step two_to_24 β in
        let r = sub_step g K in
        let known = r ∷ g ∷ β ∷ f ∷ rs in
        let last : Bool → Sheet = λ (c : Bool). zero_finish f (cond c (lowered β) β) in
        let f-in : Among f known = there r f _ (there g f _ (there β f _ (here f rs))) in
        let β-in : Among β known = there r β _ (there g β _ (here β (f ∷ rs))) in
        scales B two_to_minus_24 A f rs _ down-in (left A rs B hA)
        (scales B two_to_minus_24 K β (f ∷ rs) _ down-in (left K (f ∷ rs) B (there f K rs hK))
        (scales B two_to_24 β g (β ∷ f ∷ rs) _ up_in (here β _)
        (subtracts B g K r (g ∷ β ∷ f ∷ rs) _ (here g _) (left K (g ∷ β ∷ f ∷ rs) B (there g K _ (there β K _ (there f K rs hK))))
        (corrected (rest_tie β r) β known last β-in
        (finish-leads B (lowered β ∷ known) f (lowered β) (there (lowered β) f known f-in) (here (lowered β) known)) (finish-leads B known f β f-in β-in)))))

    middle-leads : (a : ℕ) → Leads B (a ∷ []) (middle_product x y)
    unfolding middle_product
    middle-leads a =
        let m = mul_step two_to_24 x in
        let a' = mul_step m y in
        let b' = fma_step m y (minus a') in
        let rs = b' ∷ a' ∷ m ∷ a ∷ [] in
        let r = recomposition a' b' in
        let l = recomposition-leads B rs a' b' (there b' a' _ (here a' _)) (here b' _) (flipped b' _) in
        scales B two_to_24 x m (a ∷ []) _ up_in (right x (a ∷ []) B hx)
        (multiplies B m y a' (m ∷ a ∷ []) _ (here m _) (right y (m ∷ a ∷ []) B hy)
        (fuses B m y (minus a') b' (a' ∷ m ∷ a ∷ []) _ (there a' m _ (here m _)) (right y (a' ∷ m ∷ a ∷ []) B hy) (flipped a' _)
        (lines B rs r.lines (scaled_down r.first r.second) l.0 (scaled-leads (after rs r.lines) r.first r.second l.1 l.2))))

    other-leads : (a : ℕ) → Leads B (a ∷ []) (other_product x y a)
    unfolding other_product
    other-leads a =
        let b = fma_step x y (minus a) in
        fuses B x y (minus a) b (a ∷ []) (recomposed_finished a b) (right x (a ∷ []) B hx) (right y (a ∷ []) B hy) (flipped a _)
        (recomposed-leads B (b ∷ a ∷ []) a b (there b a _ (here a [])) (here b _) (flipped b _))

    product-leads : Leads B [] (product_sheet x y)
    unfolding product_sheet product_by
    product-leads = let a = mul_step x y in multiplies B x y a [] (product_by (branch_of (value a)) x y a) hx hy (by (branch_of (value a)) a)
      where
        by : (k : Branch) (a : ℕ) → Leads B (a ∷ []) (product_by k x y a)
        by when_nan a = stop B a a (a ∷ []) (here a []) (here a [])
        by when_infinite a = infinite-leads a
        by when_zero a = stop B a a (a ∷ []) (here a []) (here a [])
        by when_tiny a = tiny-leads a
        by when_middle a = middle-leads a
        by otherwise a = other-leads a

  sum-leads : (x y : ℕ) → Among x B → Among y B → Leads B [] (sum_sheet x y)
  unfolding sum_sheet
  sum-leads x y hx hy = leads-cond B (swaps x y) [] (sum_in_order y x) (sum_in_order x y) (order-leads y x hy hx) (order-leads x y hx hy)

-- ---- the theorem
pub derived : Derived
unfolding sheet_of
derived o x y = by o
  where
    B : List ℕ
    B = x ∷ y ∷ []

    ended : (s : Sheet) → Leads B [] s → Known B s.lines × Among s.first (results s.lines) × Among s.second (results s.lines)
    ended s l = (l.0, own s.first s.lines l.1, own s.second s.lines l.2)

    by : (o : Operation) → Known B (sheet_of o x y).lines × Among (sheet_of o x y).first (results (sheet_of o x y).lines) × Among (sheet_of o x y).second (results (sheet_of o x y).lines)
    by sum = ended (sum_sheet x y) (sum-leads B x y (here x _) (there x y _ (here y _)))
    by difference = ended (sum_sheet x (minus y)) (sum-leads B x (minus y) (here x _) (there x (minus y) _ (flipped y _)))
    by product = ended (product_sheet x y) (product-leads B x y (here x _) (there x y _ (here y _)))
