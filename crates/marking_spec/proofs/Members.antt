-- What is asked of a line, as statements: which operands are known, which lines are allowed, and which are true.
use mathlib.Core.Path.{◌≡◌, refl, sym, ap, ap₂, ◌∙◌}
use mathlib.Core.Logic.{◌⊎◌, inl, inr, ◌↔◌}
use mathlib.Core.Bool.{Bool, true, false, ◌&&◌, ◌||◌, true≢false}
use mathlib.Core.List.{List, [], ◌∷◌, ◌++◌}
use Prim.Native.Nat.{ℕ}
use native.Mathlib.Omega.{arith}
use borrow.Author.Tests.{eq-eqb, eqb-true, eqb-false, leb-true}
use lib.Dec.{eqb, leb}
use Rattle.pattern_spec.proofs.Truth.{both_of}
use Rattle.worksheet_spec.specs.declared.Step.{Step}
use Rattle.worksheet_spec.specs.declared.Step.TheVariants.{Add as add, Subtract as subtract, Multiply as multiply, Fused as fused}
use Rattle.worksheet_spec.specs.Steps.{step_number}
use Rattle.worksheet_spec.specs.Lines.{minus}
use Rattle.worksheet_spec.specs.Theorems.{Among}
use Rattle.marking_spec.specs.declared.Claim.{Claim}
use Rattle.marking_spec.specs.Marking.{claimed_results, is_step, step_of, constants, minus_zero, among, known, third_allowed, allowed, is_true}
use Rattle.marking_spec.specs.Theorems.{IsResult, MayStand, Third, AllowedMeans, TrueMeans}
use Rattle.marking_spec.proofs.Lookup.{either, among-append}

-- ---- members of lists
either-of : (a b : Bool) → a || b ≡ true → (a ≡ true) ⊎ (b ≡ true)
either-of true b e = inl refl
either-of false b e = inr e

one-true : (a b : Bool) → (a ≡ true) ⊎ (b ≡ true) → a || b ≡ true
one-true true b h = refl
one-true false b h = elim h [ inl e ↦ absurd (true≢false (sym e)) | inr e ↦ e ]

pub among-true : (p : ℕ) (ks : List ℕ) → among p ks ≡ true → Among p ks
unfolding among Among
among-true p [] e = absurd (true≢false (sym e))
among-true p (k ∷ ks) e =
    elim (either-of (either p k) (among p ks) e) [
      | inl h ↦ elim (either-of (eqb p k) (eqb p (minus k)) h) [ inl i ↦ inl (eqb-true p k i) | inr i ↦ inr (inl (eqb-true p (minus k) i)) ]
      | inr h ↦ inr (inr (among-true p ks h))
    ]

pub true-among : (p : ℕ) (ks : List ℕ) → Among p ks → among p ks ≡ true
unfolding among Among
true-among p [] h = absurd h
true-among p (k ∷ ks) h =
    elim h [
      | inl i ↦ one-true (either p k) (among p ks) (inl (one-true (eqb p k) (eqb p (minus k)) (inl (eq-eqb p k i))))
      | inr g ↦ elim g [
        | inl i ↦ one-true (either p k) (among p ks) (inl (one-true (eqb p k) (eqb p (minus k)) (inr (eq-eqb p (minus k) i))))
        | inr i ↦ one-true (either p k) (among p ks) (inr (true-among p ks i))
      ]
    ]

-- ---- results of lines
result-of : (ls : List Claim) (p : ℕ) → Among p (claimed_results ls) → IsResult ls p
unfolding Among
result-of [] p h = absurd h
result-of (l ∷ ls) p h =
    elim h [
      | inl e ↦ ([], l, ls, refl, inl e)
      | inr g ↦ elim g [
        | inl e ↦ ([], l, ls, refl, inr e)
        | inr i ↦ let r = result-of ls p i in (l ∷ r.0, r.1, r.2, ap (λ (ks : List Claim). l ∷ ks) r.3, r.4)
      ]
    ]

of-result : (before : List Claim) (l : Claim) (after : List Claim) (p : ℕ) → (p ≡ l.result) ⊎ (p ≡ minus l.result) → Among p (claimed_results (before ++ (l ∷ after)))
unfolding Among
of-result [] l after p h = elim h [ inl e ↦ inl e | inr e ↦ inr (inl e) ]
of-result (k ∷ before) l after p h = inr (inr (of-result before l after p h))

-- ---- what is known
module _ (x y p : ℕ) (earlier : List Claim) where
  abbrev asked : List ℕ
  asked = x ∷ y ∷ []

  abbrev fixed : List ℕ
  fixed = minus_zero ∷ constants

  abbrev found : List ℕ
  found = claimed_results earlier

  parts : among p (known x y earlier) ≡ among p asked || (among p fixed || among p found)
  parts = among-append p asked (fixed ++ found) ∙ ap (λ (b : Bool). among p asked || b) (among-append p fixed found)

  pub known-means : (among p (known x y earlier) ≡ true) ↔ MayStand x y earlier p
  known-means = (
    λ e. elim (either-of (among p asked) (among p fixed || among p found) (sym parts ∙ e)) [
      | inl h ↦ inl (among-true p asked h)
      | inr h ↦ elim (either-of (among p fixed) (among p found) h) [ inl i ↦ inr (inl (among-true p fixed i)) | inr i ↦ inr (inr (result-of earlier p (among-true p found i))) ]
    ],
    λ h. parts ∙ one-true (among p asked) (among p fixed || among p found) (elim h [
      | inl i ↦ inl (true-among p asked i)
      | inr i ↦ inr (one-true (among p fixed) (among p found) (elim i [ inl j ↦ inl (true-among p fixed j) | inr j ↦ inr (true-among p found (rw j.3 (of-result j.0 j.1 j.2 p j.4))) ]))
    ]),
  )

-- ---- steps by their numbers
pub step-of : (o : Step) → (is_step (step_number o) ≡ true) × (step_of (step_number o) ≡ o)
step-of add = (refl, refl)
step-of subtract = (refl, refl)
step-of multiply = (refl, refl)
step-of fused = (refl, refl)

pub number-of : (n : ℕ) → is_step n ≡ true → n ≡ step_number (step_of n)
number-of n e = go (eqb n 1) refl (eqb n 2) refl (eqb n 3) refl
  where
    go : (i : Bool) → eqb n 1 ≡ i → (j : Bool) → eqb n 2 ≡ j → (k : Bool) → eqb n 3 ≡ k → n ≡ step_number (step_of n)
    go true is j js k ks = rw is (eqb-true n 1 is)
    go false is true js k ks = rw (is, js) (eqb-true n 2 js)
    go false is false js true ks = rw (is, js, ks) (eqb-true n 3 ks)
    go false is false js false ks =
        let b = both_of (leb 1 n) (leb n 4) e in
        let four : n ≡ 4 = omega (arith, leb-true 1 n b.0, leb-true n 4 b.1, eqb-false n 1 is, eqb-false n 2 js, eqb-false n 3 ks) in
        rw (is, js, ks) four

-- ---- lines that are allowed
module _ (x y : ℕ) (earlier : List Claim) where
  abbrev ks : List ℕ
  ks = known x y earlier

  third-means : (o : Step) (z : ℕ) → (third_allowed ks o z ≡ true) ↔ Third x y earlier o z
  third-means add z = (eqb-true z 0, eq-eqb z 0)
  third-means subtract z = (eqb-true z 0, eq-eqb z 0)
  third-means multiply z = (eqb-true z 0, eq-eqb z 0)
  third-means fused z = known-means x y z earlier

  module _ (l : Claim) where
    pub allowed-parts : allowed ks l ≡ true
        → (is_step l.step ≡ true) × (among l.x ks ≡ true) × (among l.y ks ≡ true) × (third_allowed ks (step_of l.step) l.z ≡ true)
    unfolding allowed
    allowed-parts e =
        let a = both_of _ _ e in
        let b = both_of _ _ a.1 in
        let c = both_of _ _ b.1 in
        (a.0, b.0, c.0, c.1)

    pub parts-allowed : is_step l.step ≡ true → among l.x ks ≡ true → among l.y ks ≡ true → third_allowed ks (step_of l.step) l.z ≡ true → allowed ks l ≡ true
    unfolding allowed
    parts-allowed s e f g = ap₂ ◌&&◌ s (ap₂ ◌&&◌ e (ap₂ ◌&&◌ f g))

pub allowed-means : AllowedMeans
allowed-means x y earlier l = (
  λ e. let a = allowed-parts x y earlier l e in (
    step_of l.step,
    number-of l.step a.0,
    (known-means x y l.x earlier).0 a.1,
    (known-means x y l.y earlier).0 a.2,
    (third-means x y earlier (step_of l.step) l.z).0 a.3,
  ),
  λ h. let o = h.0 in
      let n = h.1 in
      parts-allowed x y earlier l (ap is_step n ∙ (step-of o).0) ((known-means x y l.x earlier).1 h.2) ((known-means x y l.y earlier).1 h.3)
      (ap (λ (i : ℕ). third_allowed (known x y earlier) (step_of i) l.z) n ∙ ap (λ (i : Step). third_allowed (known x y earlier) i l.z) (step-of o).1
      ∙ (third-means x y earlier o l.z).1 h.4),
)

-- ---- lines that are true
pub both_equal : (a b c d : ℕ) → (eqb a b && eqb c d ≡ true) ↔ ((a ≡ b) × (c ≡ d))
both_equal a b c d = (
  λ e. let h = both_of (eqb a b) (eqb c d) e in (eqb-true a b h.0, eqb-true c d h.1),
  λ h. ap₂ ◌&&◌ (eq-eqb a b h.0) (eq-eqb c d h.1),
)

pub true-means : TrueMeans
unfolding is_true
true-means l = (
  λ e. rw e (both_equal _ _ _ _),
  λ e. rw e (both_equal _ _ _ _),
  λ e. rw e (both_equal _ _ _ _),
  λ e. rw e (both_equal _ _ _ _),
)
