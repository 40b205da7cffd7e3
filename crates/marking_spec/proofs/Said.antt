-- An answer is given exactly where what it says holds.
use mathlib.Core.Path.{◌≡◌, refl, sym, ap, ap₂, subst, ◌∙◌}
use mathlib.Core.Logic.{◌⊎◌, inl, inr, ◌↔◌}
use mathlib.Core.Bool.{Bool, true, false, true≢false}
use mathlib.Core.List.{List, [], ◌∷◌, ◌++◌, append-nil}
use Prim.Native.Nat.{ℕ, ◌/◌, ◌≤◌, ◌<◌}
use native.Mathlib.Omega.{arith}
use native.Mathlib.Decide.{dec_le}
use borrow.Author.Tests.{eqb-true, eqb-false}
use lib.Dec.{eqb}
use lib.ListN.{length}
use lib.Seq.{append_snoc}
use Rattle.rounding_spec.specs.Format.{binary32}
use Rattle.pattern_spec.proofs.Truth.{refute, alike}
use Rattle.augmented_spec.specs.declared.Operation.{Operation}
use Rattle.augmented_spec.specs.declared.Operation.TheVariants.{Sum as sum, Difference as difference, Product as product}
use Rattle.augmented_spec.specs.Operations.{operation_number, operation_of}
use Rattle.augmented_spec.specs.Direct.{direct_pair}
use Rattle.worksheet_spec.specs.Lines.{line_size}
use Rattle.marking_spec.specs.declared.Claim.{Claim}
use Rattle.marking_spec.specs.Marking.{claims, known, allowed, is_true, last_two_are, Marked, refused_at, judged, is_right, in_order, is_markable, marking}
use Rattle.marking_spec.specs.Theorems.{Markable, Fit, FirstFault, ClaimsPair, Says, MarkingMeans, RightExactly}
use Rattle.marking_spec.proofs.Claims.{claims-count}
use Rattle.marking_spec.proofs.Counts.{markable, is-markable}
use Rattle.marking_spec.proofs.InOrder.{all-passed, fails-operands, fails-truth, passes, claimed-ends}
use Rattle.marking_spec.proofs.Answered.{no-operation, unfit-words, looked-at}
use Rattle.marking_spec.proofs.Members.{both_equal}

-- ---- lines that meet no refusal
module _ (x y : ℕ) where
  pub fit_append : (earlier ls ms : List Claim) → Fit x y earlier ls → Fit x y (earlier ++ ls) ms → Fit x y earlier (ls ++ ms)
  unfolding Fit
  fit_append earlier [] ms f g = subst (λ (es : List Claim). Fit x y es ms) (append-nil earlier) g
  fit_append earlier (l ∷ ls) ms f g =
      (f.0, f.1, fit_append (earlier ++ (l ∷ [])) ls ms f.2 (subst (λ (es : List Claim). Fit x y es ms) (sym (append_snoc earlier l ls)) g))

  pub fit_none : (earlier : List Claim) → Fit x y earlier []
  unfolding Fit
  fit_none earlier = tt

  pub fit-one : (earlier : List Claim) (l : Claim) → allowed (known x y earlier) l ≡ true → is_true l ≡ true → Fit x y earlier (l ∷ [])
  unfolding Fit
  fit-one earlier l e f = (e, f, tt)

  module _ (o : Operation) where
    -- they are passed
    pub reaches : (earlier ls later : List Claim) → Fit x y earlier ls → in_order o x y earlier (ls ++ later) ≡ in_order o x y (earlier ++ ls) later
    unfolding Fit
    reaches earlier [] later f = ap (λ (es : List Claim). in_order o x y es later) (sym (append-nil earlier))
    reaches earlier (l ∷ ls) later f =
        passes o x y earlier l (ls ++ later) f.0 f.1 ∙ reaches (earlier ++ (l ∷ [])) ls later f.2
        ∙ ap (λ (es : List Claim). in_order o x y es later) (append_snoc earlier l ls)

    -- ---- what the lines lead to
    abbrev LinesSay : List Claim → Marked → Type 0
    LinesSay ls (refused_at refusal at) =
        ((refusal ≡ 14) × FirstFault x y ls at (λ earlier l. allowed (known x y earlier) l ≡ false))
        ⊎ ((refusal ≡ 15) × FirstFault x y ls at (λ earlier l. (allowed (known x y earlier) l ≡ true) × (is_true l ≡ false)))
    LinesSay ls (judged right) = Fit x y [] ls × (is_right o x y ls ≡ right)

    walk : (earlier later : List Claim) → Fit x y [] earlier → LinesSay (earlier ++ later) (in_order o x y earlier later)
    walk earlier [] f = subst (λ (es : List Claim). LinesSay es (in_order o x y earlier [])) (sym (append-nil earlier)) (subst (LinesSay earlier) (sym (all-passed o x y earlier)) (f, refl))
    walk earlier (l ∷ later) f = go (allowed (known x y earlier) l) refl (is_true l) refl (walk (earlier ++ (l ∷ [])) later)
      where
        go : (i : Bool) → allowed (known x y earlier) l ≡ i → (j : Bool) → is_true l ≡ j
            → (Fit x y [] (earlier ++ (l ∷ [])) → LinesSay ((earlier ++ (l ∷ [])) ++ later) (in_order o x y (earlier ++ (l ∷ [])) later))
            → LinesSay (earlier ++ (l ∷ later)) (in_order o x y earlier (l ∷ later))
        go false is j js on = subst (LinesSay (earlier ++ (l ∷ later))) (sym (fails-operands o x y earlier l later is)) (inl (refl, (earlier, l, later, refl, refl, f, is)))
        go true is false js on = subst (LinesSay (earlier ++ (l ∷ later))) (sym (fails-truth o x y earlier l later is js)) (inr (refl, (earlier, l, later, refl, refl, f, (is, js))))
        go true is true js on =
            subst (LinesSay (earlier ++ (l ∷ later))) (sym (passes o x y earlier l later is js))
            (subst (λ (es : List Claim). LinesSay es (in_order o x y (earlier ++ (l ∷ [])) later)) (append_snoc earlier l later)
            (on (fit_append [] earlier (l ∷ []) f (fit-one earlier l is js))))

    -- and the other way about
    led : (ls : List Claim) (answer : Marked) → LinesSay ls answer → in_order o x y [] ls ≡ answer
    led ls (refused_at refusal at) h = elim h [
      | inl g ↦
          let f = g.1 in
          ap (in_order o x y []) f.3 ∙ reaches [] f.0 (f.1 ∷ f.2) f.5 ∙ fails-operands o x y f.0 f.1 f.2 f.6 ∙ ap₂ refused_at (sym g.0) (sym f.4)
      | inr g ↦
          let f = g.1 in
          ap (in_order o x y []) f.3 ∙ reaches [] f.0 (f.1 ∷ f.2) f.5 ∙ fails-truth o x y f.0 f.1 f.2 f.6.0 f.6.1 ∙ ap₂ refused_at (sym g.0) (sym f.4)
    ]
    led ls (judged right) h = ap (in_order o x y []) (sym (append-nil ls)) ∙ reaches [] ls [] h.0 ∙ all-passed o x y ls ∙ ap judged h.1

-- ---- the claimed pair
ends-in-two : (ls : List Claim) → 2 ≤ length ls → (earlier : List Claim) × (k : Claim) × (l : Claim) × (ls ≡ earlier ++ (k ∷ l ∷ []))
ends-in-two [] h = absurd (omega arith)
ends-in-two (i ∷ []) h = absurd (omega arith)
ends-in-two (i ∷ j ∷ []) h = ([], i, j, refl)
ends-in-two (i ∷ j ∷ k ∷ ls) h =
    let e = ends-in-two (j ∷ k ∷ ls) (omega arith) in
    (i ∷ e.0, e.1, e.2, ap (λ (ms : List Claim). i ∷ ms) e.3)

module _ (o : Operation) (x y : ℕ) (ls : List Claim) where
  pub right-means : 2 ≤ length ls → (is_right o x y ls ≡ true) ↔ ClaimsPair o x y ls
  unfolding is_right
  right-means h =
      let p = direct_pair o binary32 x y in (
        λ r. let e = ends-in-two ls h in
            let q = (both_equal _ _ _ _).0 (sym (ap (last_two_are p.first p.second) e.3 ∙ claimed-ends p.first p.second e.0 e.1 e.2) ∙ r) in
            (e.0, e.1, e.2, e.3, q.0, q.1),
        λ e. ap (last_two_are p.first p.second) e.3 ∙ claimed-ends p.first p.second e.0 e.1 e.2 ∙ (both_equal _ _ _ _).1 (e.4, e.5),
      )

-- ---- the whole answer
operation-of : (n : ℕ) → 1 ≤ n → n ≤ 3 → (n ≡ operation_number (operation_of n))
operation-of n low high = go (eqb n 1) refl (eqb n 2) refl
  where
    go : (i : Bool) → eqb n 1 ≡ i → (j : Bool) → eqb n 2 ≡ j → n ≡ operation_number (operation_of n)
    go true is j js = rw is (eqb-true n 1 is)
    go false is true js = rw (is, js) (eqb-true n 2 js)
    go false is false js = let three : n ≡ 3 = omega (arith, eqb-false n 1 is, eqb-false n 2 js) in rw (is, js) three

pub number-of : (o : Operation) → (1 ≤ operation_number o) × (operation_number o ≤ 3) × (operation_of (operation_number o) ≡ o)
number-of sum = (omega arith, omega arith, refl)
number-of difference = (omega arith, omega arith, refl)
number-of product = (omega arith, omega arith, refl)

module _ (n x y : ℕ) (words : List ℕ) where
  enough : Markable (length words) → 2 ≤ length (claims words)
  enough m = omega (arith, m.0, m.1, claims-count (length words / line_size) words (omega (arith, m.0)))

  lines-said : 1 ≤ n → n ≤ 3 → Markable (length words) → (answer : Marked) → LinesSay x y (operation_of n) (claims words) answer → Says n x y words answer
  lines-said low high m (refused_at refusal at) h =
      elim h [ inl g ↦ inr (inr (inl (g.0, low, high, m, g.1))) | inr g ↦ inr (inr (inr (g.0, low, high, m, g.1))) ]
  lines-said low high m (judged right) h = (
    operation_of n,
    operation-of n low high,
    m,
    h.0,
    subst (λ (b : Bool). (b ≡ true) ↔ ClaimsPair (operation_of n) x y (claims words)) h.1 (right-means (operation_of n) x y (claims words) (enough m)),
  )

  outside : (n ≡ 0) ⊎ (3 < n) → Says n x y words (marking n x y words)
  outside h = subst (Says n x y words) (sym (no-operation n x y words h)) (inl (refl, refl, h))

  inside : 1 ≤ n → n ≤ 3 → Says n x y words (marking n x y words)
  inside low high = go (is_markable (length words)) refl
    where
      go : (b : Bool) → is_markable (length words) ≡ b → Says n x y words (marking n x y words)
      go true e =
          subst (Says n x y words) (sym (looked-at n x y words low high e))
          (lines-said low high (markable (length words) e) (in_order (operation_of n) x y [] (claims words)) (walk x y (operation_of n) [] (claims words) (fit_none x y [])))
      go false e =
          subst (Says n x y words) (sym (unfit-words n x y words low high e))
          (inr (inl (refl, refl, low, high, λ m. true≢false (sym (is-markable (length words) m) ∙ e))))

  said : Says n x y words (marking n x y words)
  said = elim (dec_le 1 n) [ no l ↦ outside (inl (omega arith)) | yes low ↦ elim (dec_le n 3) [ no h ↦ outside (inr (omega arith)) | yes high ↦ inside low high ] ]

  by_lines : 1 ≤ n → n ≤ 3 → Markable (length words) → (answer : Marked) → LinesSay x y (operation_of n) (claims words) answer → marking n x y words ≡ answer
  by_lines low high m answer h = looked-at n x y words low high (is-markable (length words) m) ∙ led x y (operation_of n) (claims words) answer h

  answered : (answer : Marked) → Says n x y words answer → marking n x y words ≡ answer
  answered (refused_at refusal at) h = elim h [
    | inl g ↦ no-operation n x y words g.2 ∙ ap₂ refused_at (sym g.0) (sym g.1)
    | inr g ↦ elim g [
      | inl k ↦ unfit-words n x y words k.2 k.3 (refute (is_markable (length words)) (λ e. k.4 (markable (length words) e))) ∙ ap₂ refused_at (sym k.0) (sym k.1)
      | inr k ↦ elim k [
        | inl l ↦ by_lines l.1 l.2 l.3 (refused_at refusal at) (inl (l.0, l.4))
        | inr l ↦ by_lines l.1 l.2 l.3 (refused_at refusal at) (inr (l.0, l.4))
      ]
    ]
  ]
  answered (judged right) h =
      let o = h.0 in
      let is : operation_of n ≡ o = ap operation_of h.1 ∙ (number-of o).2 in
      let m = h.2 in
      let means = right-means (operation_of n) x y (claims words) (enough m) in
      let pairs : (b : Operation) → b ≡ o → (right ≡ true) ↔ ClaimsPair b x y (claims words) = λ b e. subst (λ (a : Operation). (right ≡ true) ↔ ClaimsPair a x y (claims words)) (sym e) h.4 in
      let same : is_right (operation_of n) x y (claims words) ≡ right = alike _ right (λ r. (pairs (operation_of n) is).1 (means.0 r)) (λ r. means.1 ((pairs (operation_of n) is).0 r)) in
      by_lines (omega (arith, h.1, (number-of o).0)) (omega (arith, h.1, (number-of o).1)) m (judged right) (h.3, same)

pub marking-means : MarkingMeans
marking-means n x y words answer = (λ e. subst (Says n x y words) e (said n x y words), answered n x y words answer)

-- lines that meet no refusal are judged by their pair
pub right-exactly : RightExactly
right-exactly o x y words m f =
    let n = number-of o in
    let is : LinesSay x y (operation_of (operation_number o)) (claims words) (judged (is_right o x y (claims words))) = (f, ap (λ (a : Operation). is_right a x y (claims words)) n.2) in
    let e = by_lines (operation_number o) x y words n.0 n.1 m (judged (is_right o x y (claims words))) is in
    let means = right-means o x y (claims words) (enough (operation_number o) x y words m) in
    (λ p. e ∙ ap judged (means.1 p), λ q. e ∙ ap judged (refute (is_right o x y (claims words)) (λ r. q (means.0 r))))
