-- A model sheet with first + 80000000 and second + 80000000 behind it: each line is allowed and true, and they claim the pair.
use mathlib.Core.Path.{◌≡◌, refl, sym, ap, subst, ◌∙◌}
use mathlib.Core.Logic.{inl, inr}
use mathlib.Core.Bool.{Bool, true, false}
use mathlib.Core.List.{List, [], ◌∷◌, ◌++◌, append_assoc}
use Prim.Native.Nat.{ℕ}
use native.Mathlib.Omega.{arith}
use lib.ListN.{length, length-append}
use Rattle.binary32_spec.specs.Marks.{add_mark}
use Rattle.augmented_spec.specs.declared.Operation.{Operation}
use Rattle.augmented_spec.specs.Operations.{operation_number}
use Rattle.worksheet_spec.specs.Constants.{factors, smallest}
use Rattle.worksheet_spec.specs.declared.Step.{Step}
use Rattle.worksheet_spec.specs.declared.Step.TheVariants.{Add as add, Subtract as subtract, Multiply as multiply, Fused as fused}
use Rattle.worksheet_spec.specs.Steps.{step_number}
use Rattle.worksheet_spec.specs.Lines.{Line, Gives, minus}
use Rattle.worksheet_spec.specs.Sheets.{sheet_of}
use Rattle.worksheet_spec.specs.Filling.{lines_words}
use Rattle.worksheet_spec.specs.Theorems.{Among, Member, Drawn, Each, results}
use Rattle.worksheet_spec.specs.Theorems as sheets
use Rattle.worksheet_spec.proofs.Derivation.{here, there, left, right}
use Rattle.worksheet_spec.proofs.Filling.{words-length}
use Rattle.worksheet_spec.proofs.Theorems.{each_line, derived, line-count, foot-is-pair}
use Rattle.marking_spec.specs.declared.Claim.{Claim}
use Rattle.marking_spec.specs.Marking.{claims, claimed_results, constants, minus_zero, among, known, third_allowed, allowed, is_true, judged, marking}
use Rattle.marking_spec.specs.Theorems.{Markable, Fit, added_minus_zero}
use Rattle.marking_spec.proofs.Members.{true-among, step-of, parts-allowed, both_equal}
use Rattle.marking_spec.proofs.Said.{fit_append, marking-means}
use Rattle.marking_spec.proofs.MinusZero.{Stays, first-stays, second-stays}

-- ---- a sheet's lines as a candidate's
abbrev claim_of : Line → Claim
claim_of l = record { step = step_number l.step; x = l.x; y = l.y; z = l.z; result = l.result; mark = l.mark }

abbrev claims_of : List Line → List Claim
claims_of [] = []
claims_of (l ∷ ls) = claim_of l ∷ claims_of ls

claims-of : (ls : List Line) → claims (lines_words ls) ≡ claims_of ls
unfolding claims lines_words
claims-of [] = refl
claims-of (l ∷ ls) = ap (λ (ks : List Claim). claim_of l ∷ ks) (claims-of ls)

claims-of-append : (ls ms : List Line) → claims_of (ls ++ ms) ≡ claims_of ls ++ claims_of ms
claims-of-append [] ms = refl
claims-of-append (l ∷ ls) ms = ap (λ (ks : List Claim). claim_of l ∷ ks) (claims-of-append ls ms)

results-of : (ls : List Line) → claimed_results (claims_of ls) ≡ results ls
results-of [] = refl
results-of (l ∷ ls) = ap (λ (ps : List ℕ). l.result ∷ ps) (results-of ls)

results-append : (ks ls : List Claim) → claimed_results (ks ++ ls) ≡ claimed_results ks ++ claimed_results ls
results-append [] ls = refl
results-append (k ∷ ks) ls = ap (λ (ps : List ℕ). k.result ∷ ps) (results-append ks ls)

-- ---- what is known
module _ (x y : ℕ) (earlier : List Claim) where
  abbrev fixed : List ℕ
  fixed = minus_zero ∷ constants

  fixed-known : (p : ℕ) → Among p fixed → Among p (known x y earlier)
  fixed-known p h = right p (x ∷ y ∷ []) (fixed ++ claimed_results earlier) (left p fixed (claimed_results earlier) h)

  pub minus-zero-known : Among minus_zero (known x y earlier)
  minus-zero-known = fixed-known minus_zero (here minus_zero constants)

  member-among : (p : ℕ) (ks : List ℕ) → Member p ks → Among p ks
  unfolding Member Among
  member-among p [] h = h
  member-among p (k ∷ ks) h = elim h [ inl e ↦ inl e | inr i ↦ inr (inr (member-among p ks i)) ]

  factor-known : (p : ℕ) → Member p factors → Among p (known x y earlier)
  factor-known p h = fixed-known p (there minus_zero p constants (left p factors (smallest ∷ minus smallest ∷ []) (member-among p factors h)))

  smallest-known : (p : ℕ) → Among p (smallest ∷ []) → Among p (known x y earlier)
  smallest-known p h = fixed-known p (there minus_zero p constants (right p factors (smallest ∷ minus smallest ∷ []) (left p (smallest ∷ []) (minus smallest ∷ []) h)))

  result-known : (p : ℕ) → Among p (claimed_results earlier) → Among p (known x y earlier)
  result-known p h = right p (x ∷ y ∷ fixed) (claimed_results earlier) h

  -- a line's result is known after it, and nothing is forgotten
  module _ (l : Claim) where
    grows : known x y (earlier ++ (l ∷ [])) ≡ known x y earlier ++ (l.result ∷ [])
    grows = ap (λ (ps : List ℕ). x ∷ y ∷ fixed ++ ps) (results-append earlier (l ∷ [])) ∙ sym (append_assoc (x ∷ y ∷ fixed) (claimed_results earlier) (l.result ∷ []))

    kept : (p : ℕ) → Among p (known x y earlier) → Among p (known x y (earlier ++ (l ∷ [])))
    kept p h = subst (Among p) (sym grows) (left p (known x y earlier) (l.result ∷ []) h)

    gained : (p : ℕ) → Among p (l.result ∷ []) → Among p (known x y (earlier ++ (l ∷ [])))
    gained p h = subst (Among p) (sym grows) (right p (known x y earlier) (l.result ∷ []) h)

  -- ---- a line of the sheet is allowed
  module _ (ks : List ℕ) (sub : (p : ℕ) → Among p ks → Among p (known x y earlier)) where
    third-known : (o : Step) (a b z r m : ℕ) → Drawn ks o a b z → Gives o a b z r m → third_allowed (known x y earlier) o z ≡ true
    third-known add a b z r m d g = rw g.2
    third-known subtract a b z r m d g = rw g.2
    third-known multiply a b z r m d g = rw g.2
    third-known fused a b z r m d g = true-among z (known x y earlier) (sub z d.2)

    both-known : (o : Step) (a b z : ℕ) → Drawn ks o a b z → Among a (known x y earlier) × Among b (known x y earlier)
    both-known add a b z d = (sub a d.0, sub b d.1)
    both-known subtract a b z d = (sub a d.0, elim d.1 [ inl h ↦ sub b h | inr h ↦ smallest-known b h ])
    both-known multiply a b z d = (elim d.0 [ inl h ↦ sub a h | inr h ↦ factor-known a h ], sub b d.1)
    both-known fused a b z d = (sub a d.0, sub b d.1)

    line-allowed : (l : Line) → Drawn ks l.step l.x l.y l.z → Gives l.step l.x l.y l.z l.result l.mark → allowed (known x y earlier) (claim_of l) ≡ true
    line-allowed l d g =
        let b = both-known l.step l.x l.y l.z d in
        let o = step-of l.step in
        parts-allowed x y earlier (claim_of l) o.0 (true-among l.x (known x y earlier) b.0) (true-among l.y (known x y earlier) b.1)
        (ap (λ (i : Step). third_allowed (known x y earlier) i l.z) o.1 ∙ third-known l.step l.x l.y l.z l.result l.mark d g)

-- ---- and true
given-true : (o : Step) (a b z r m : ℕ) → Gives o a b z r m → is_true (record { step = step_number o; x = a; y = b; z = z; result = r; mark = m }) ≡ true
unfolding is_true
given-true add a b z r m g = (both_equal _ _ _ _).1 (g.0, g.1)
given-true subtract a b z r m g = (both_equal _ _ _ _).1 (g.0, g.1)
given-true multiply a b z r m g = (both_equal _ _ _ _).1 (g.0, g.1)
given-true fused a b z r m g = (both_equal _ _ _ _).1 (g.0, g.1)

fit-lines : (x y : ℕ) (ls : List Line) (ks : List ℕ) (earlier : List Claim) → ((p : ℕ) → Among p ks → Among p (known x y earlier))
    → sheets.Known ks ls → Each ls → Fit x y earlier (claims_of ls)
unfolding sheets.Known Each Fit Among
fit-lines x y [] ks earlier sub d e = tt
fit-lines x y (l ∷ ls) ks earlier sub d e =
    let c = claim_of l in (
      line-allowed x y earlier ks sub l d.0 e.0,
      given-true l.step l.x l.y l.z l.result l.mark e.0,
      fit-lines x y ls (l.result ∷ ks) (earlier ++ (c ∷ []))
          (λ p h. elim h [
            | inl i ↦ gained x y earlier c p (inl i)
            | inr g ↦ elim g [ inl i ↦ gained x y earlier c p (inr (inl i)) | inr i ↦ kept x y earlier c p (sub p i) ]
          ])
          d.1 e.1,
    )

-- ---- the two lines more
added_true : (i : Bool) (p : ℕ) → Stays p → is_true (claim_of (added_minus_zero i p)) ≡ true
added_true true p e = given-true add p minus_zero 0 p (add_mark p minus_zero) (sym e.0, refl, refl)
added_true false p e = given-true add minus_zero p 0 p (add_mark minus_zero p) (sym e.1, refl, refl)

added-allowed : (x y : ℕ) (earlier : List Claim) (i : Bool) (p : ℕ) → Among p (claimed_results earlier) → allowed (known x y earlier) (claim_of (added_minus_zero i p)) ≡ true
added-allowed x y earlier i p h =
    let found = true-among p (known x y earlier) (result-known x y earlier p h) in
    let fixed = true-among minus_zero (known x y earlier) (minus-zero-known x y earlier) in
    go i found fixed
  where
    go : (i : Bool) → among p (known x y earlier) ≡ true → among minus_zero (known x y earlier) ≡ true → allowed (known x y earlier) (claim_of (added_minus_zero i p)) ≡ true
    go true f g = parts-allowed x y earlier (claim_of (added_minus_zero true p)) refl f g refl
    go false f g = parts-allowed x y earlier (claim_of (added_minus_zero false p)) refl g f refl

-- their results
added-result : (i : Bool) (p : ℕ) → (claim_of (added_minus_zero i p)).result ≡ p
added-result true p = refl
added-result false p = refl

module _ (o : Operation) (x y : ℕ) (i j : Bool) where
  abbrev lines : List Line
  lines = (sheet_of o x y).lines

  abbrev body : List Claim
  body = claims_of lines

  abbrev more : List Line
  more = added_minus_zero i (sheet_of o x y).first ∷ added_minus_zero j (sheet_of o x y).second ∷ []

  abbrev one : Claim
  one = claim_of (added_minus_zero i (sheet_of o x y).first)

  first-known : Among (sheet_of o x y).first (claimed_results body)
  first-known = subst (Among (sheet_of o x y).first) (sym (results-of lines)) (derived o x y).1

  second-known : Among (sheet_of o x y).second (claimed_results (body ++ (one ∷ [])))
  second-known =
      subst (Among (sheet_of o x y).second) (sym (results-append body (one ∷ [])))
      (left (sheet_of o x y).second (claimed_results body) (one.result ∷ []) (subst (Among (sheet_of o x y).second) (sym (results-of lines)) (derived o x y).2))

  fit-body : Fit x y [] body
  fit-body = fit-lines x y lines (x ∷ y ∷ []) [] (λ p h. left p (x ∷ y ∷ []) (minus_zero ∷ constants ++ []) h) (derived o x y).0 (each_line o x y)

  fit-more : Fit x y body (claims_of more)
  unfolding Fit
  fit-more = (
    added-allowed x y body i (sheet_of o x y).first first-known,
    added_true i (sheet_of o x y).first (rw (foot-is-pair o x y).0 (first-stays o x y)),
    (added-allowed x y (body ++ (one ∷ [])) j (sheet_of o x y).second second-known, added_true j (sheet_of o x y).second (rw (foot-is-pair o x y).1 (second-stays o x y)), tt),
  )

  all-claims : claims (lines_words (lines ++ more)) ≡ body ++ claims_of more
  all-claims = claims-of (lines ++ more) ∙ claims-of-append lines more

  counted : Markable (length (lines_words (lines ++ more)))
  counted =
      let words = words-length (lines ++ more) in
      let all = length-append lines more in
      let least = (line-count o x y).0 in
      let most = (line-count o x y).1 in
      (omega arith, omega arith, omega arith)

  pub model-sheet-right : marking (operation_number o) x y (lines_words (lines ++ more)) ≡ judged true
  model-sheet-right =
      (marking-means (operation_number o) x y (lines_words (lines ++ more)) (judged true)).1 (
        o,
        refl,
        counted,
        rw all-claims (fit_append x y [] body (claims_of more) fit-body fit-more),
        (
          λ e. (
            body,
            one,
            claim_of (added_minus_zero j (sheet_of o x y).second),
            all-claims,
            added-result i (sheet_of o x y).first ∙ (foot-is-pair o x y).0,
            added-result j (sheet_of o x y).second ∙ (foot-is-pair o x y).1,
          ),
          λ h. refl,
        ),
      )
