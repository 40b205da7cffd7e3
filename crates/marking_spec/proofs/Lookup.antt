-- Looking a pattern up: either sign of a pattern is told by the magnitude, and a longer list by its parts.
use mathlib.Core.Path.{◌≡◌, refl, sym, ap, ap₂, ◌∙◌}
use mathlib.Core.Bool.{Bool, true, false, ◌&&◌, ◌||◌}
use mathlib.Core.List.{List, [], ◌∷◌, ◌++◌}
use mathlib.Core.Logic.{◌⊎◌, inl, inr}
use native.Mathlib.Decide.{ℕ_discrete}
use Prim.Native.Nat.{ℕ, zero, suc, ◌+◌, ◌-◌, ◌/◌, ◌%◌, ◌≤◌, ◌<◌}
use native.Mathlib.Omega.{arith}
use borrow.Author.Tests.{leb-true, leb-false, eq-eqb, ne_eqb, eqb-true, eqb-false}
use lib.Dec.{leb, eqb}
use lib.ListN.{length, drop, get_or, length-drop}
use Rattle.std.specs.Simd.{first_chunks}
use Rattle.std.specs.List.{list_any}
use Rattle.std.proofs.lemmas.List.{get_or-take}
use Rattle.pattern_spec.proofs.Truth.{both_of}
use Rattle.worksheet_spec.specs.Lines.{line_size, minus}
use Rattle.marking_spec.specs.declared.Claim.{Claim}
use Rattle.marking_spec.specs.Marking.{claims, claimed_results, constants, minus_zero, among, known}
use Rattle.marking_spec.proofs.Claims.{claims-at, claims-short}

-- ---- either sign
abbrev pub either : ℕ → ℕ → Bool
either p k = eqb p k || eqb p (minus k)

or_assoc : (a b c : Bool) → (a || b) || c ≡ a || (b || c)
or_assoc true b c = refl
or_assoc false b c = refl

module _ (p k : ℕ) (wide : p < 0x1_0000_0000) (narrow : k < 0x1_0000_0000) where
  either_same : p % 0x8000_0000 ≡ k % 0x8000_0000 → either p k ≡ true
  either_same e = go (eqb p k) refl (leb 0x8000_0000 k) refl
    where
      go : (b : Bool) → eqb p k ≡ b → (c : Bool) → leb 0x8000_0000 k ≡ c → either p k ≡ true
      go true i c j = rw i
      go false i true j =
          let high = leb-true 0x8000_0000 k j in
          let other = eqb-false p k i in
          rw (i, j, eq-eqb p (k - 0x8000_0000) (omega arith))
      go false i false j =
          let low = leb-false 0x8000_0000 k j in
          let other = eqb-false p k i in
          rw (i, j, eq-eqb p (k + 0x8000_0000) (omega arith))

  either-other : (p % 0x8000_0000 ≡ k % 0x8000_0000 → ⊥) → either p k ≡ false
  either-other n = go (leb 0x8000_0000 k) refl
    where
      go : (c : Bool) → leb 0x8000_0000 k ≡ c → either p k ≡ false
      go true j =
          let high = leb-true 0x8000_0000 k j in
          rw (ne_eqb p k (omega arith), j, ne_eqb p (k - 0x8000_0000) (omega arith))
      go false j =
          let low = leb-false 0x8000_0000 k j in
          rw (ne_eqb p k (omega arith), j, ne_eqb p (k + 0x8000_0000) (omega arith))

-- ---- lists
pub among-append : (p : ℕ) (ks ms : List ℕ) → among p (ks ++ ms) ≡ among p ks || among p ms
unfolding among
among-append p [] ms = refl
among-append p (k ∷ ks) ms = ap (λ (b : Bool). either p k || b) (among-append p ks ms) ∙ sym (or_assoc (either p k) (among p ks) (among p ms))

-- ---- by magnitudes
abbrev pub has_magnitude : ℕ → List ℕ → Bool
has_magnitude m [] = false
has_magnitude m (k ∷ ks) = eqb m (k % 0x8000_0000) || has_magnitude m ks

abbrev pub are_patterns : List ℕ → Bool
are_patterns [] = true
are_patterns (k ∷ ks) = leb k 0xffff_ffff && are_patterns ks

pub either_is : (p k : ℕ) → p < 0x1_0000_0000 → k < 0x1_0000_0000 → either p k ≡ eqb (p % 0x8000_0000) (k % 0x8000_0000)
either_is p k h l = go (eqb (p % 0x8000_0000) (k % 0x8000_0000)) refl
  where
    go : (b : Bool) → eqb (p % 0x8000_0000) (k % 0x8000_0000) ≡ b → either p k ≡ eqb (p % 0x8000_0000) (k % 0x8000_0000)
    go true e = either_same p k h l (eqb-true (p % 0x8000_0000) (k % 0x8000_0000) e) ∙ sym e
    go false e = either-other p k h l (eqb-false (p % 0x8000_0000) (k % 0x8000_0000) e) ∙ sym e

pub among-magnitudes : (p : ℕ) → p < 0x1_0000_0000 → (ks : List ℕ) → are_patterns ks ≡ true → among p ks ≡ has_magnitude (p % 0x8000_0000) ks
unfolding among
among-magnitudes p h [] e = refl
among-magnitudes p h (k ∷ ks) e =
    let b = both_of (leb k 0xffff_ffff) (are_patterns ks) e in
    ap₂ ◌||◌ (either_is p k h (omega (arith, leb-true k 0xffff_ffff b.0))) (among-magnitudes p h ks b.1)

-- one of them, or none
abbrev pub OneOf : ℕ → List ℕ → Type 0
OneOf m [] = ⊥
OneOf m (k ∷ ks) = (m ≡ k % 0x8000_0000) ⊎ OneOf m ks

abbrev pub NoneOf : ℕ → List ℕ → Type 0
NoneOf m [] = Unit {0}
NoneOf m (k ∷ ks) = (m ≡ k % 0x8000_0000 → ⊥) × NoneOf m ks

magnitude-cases : (m : ℕ) (ks : List ℕ) → ((has_magnitude m ks ≡ true) × OneOf m ks) ⊎ ((has_magnitude m ks ≡ false) × NoneOf m ks)
magnitude-cases m [] = inr (refl, tt)
magnitude-cases m (k ∷ ks) =
    elim (ℕ_discrete m (k % 0x8000_0000)) [
      | yes e ↦ inl (rw (eq-eqb m (k % 0x8000_0000) e), inl e)
      | no n ↦ elim (magnitude-cases m ks) [
        | inl t ↦ inl (rw (ne_eqb m (k % 0x8000_0000) n) t.0, inr t.1)
        | inr f ↦ inr (rw (ne_eqb m (k % 0x8000_0000) n) f.0, (n, f.1))
      ]
    ]

pub constant-cases : (p : ℕ) → p < 0x1_0000_0000 → let ks = minus_zero ∷ constants in
    ((among p ks ≡ true) × OneOf (p % 0x8000_0000) ks) ⊎ ((among p ks ≡ false) × NoneOf (p % 0x8000_0000) ks)
constant-cases p h =
    let same = among-magnitudes p h (minus_zero ∷ constants) refl in
    elim (magnitude-cases (p % 0x8000_0000) (minus_zero ∷ constants)) [
      | inl t ↦ inl (same ∙ t.0, t.1)
      | inr f ↦ inr (same ∙ f.0, f.1)
    ]

-- ---- among the results that words hold
pub result-more : (p : ℕ) (ws : List ℕ) (at : ℕ) → at + line_size ≤ length ws
    → among p (claimed_results (claims (drop at ws))) ≡ either p (get_or ws (at + 4) 0) || among p (claimed_results (claims (drop (at + line_size) ws)))
unfolding among
result-more p ws at h = ap (λ (ls : List Claim). among p (claimed_results ls)) (claims-at ws at h)

pub no_result : (p : ℕ) (ws : List ℕ) (at : ℕ) → length ws - at < line_size → among p (claimed_results (claims (drop at ws))) ≡ false
unfolding among
no_result p ws at h = ap (λ (ls : List Claim). among p (claimed_results ls)) (claims-short (drop at ws) (omega (arith, length-drop at ws)))

-- among those of words cut into lines
pub among-results : (k p : ℕ) (ws : List ℕ) → length ws / line_size ≡ k
    → list_any (λ (line : List ℕ). either p (get_or line 4 0)) (first_chunks line_size k ws) ≡ among p (claimed_results (claims ws))
among-results zero p ws h = sym (no_result p ws 0 (omega arith))
among-results (suc k) p ws h =
    ap₂ ◌||◌ (ap (either p) (get_or-take line_size ws 4 0 (omega arith))) (among-results k p (drop line_size ws) (omega (arith, length-drop line_size ws)))
    ∙ sym (result-more p ws 0 (omega arith))

-- ---- among what is known
pub known_is : (p x y : ℕ) (earlier : List Claim)
    → among p (known x y earlier) ≡ either p x || (either p y || (among p (minus_zero ∷ constants) || among p (claimed_results earlier)))
unfolding among
known_is p x y earlier = ap (λ (b : Bool). either p x || (either p y || b)) (among-append p (minus_zero ∷ constants) (claimed_results earlier))
