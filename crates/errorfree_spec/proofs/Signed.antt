-- Values as differences of two whole numbers, seen from one sign: so that signs of zeros do not matter and all is linear.
use mathlib.Core.Path.{◌≡◌, refl, sym, subst}
use mathlib.Core.Bool.{Bool, true, false, not, ◌&&◌, beq, ◌||◌}
use Prim.Native.Nat.{ℕ, ◌+◌, ◌-◌, ◌≤◌, ◌<◌}
use native.Mathlib.Nat.{add-zero, add_comm, le_of_lt}
use mathlib.Core.Logic.{inl, inr}
use native.Mathlib.Omega.{arith}
use lib.Dec.{T, eqb, eqb→eq, eqb_refl}
use Rattle.rounding_spec.specs.Nearest.{dist}
use Rattle.rounding_spec.specs.Value.{Value, nan, infinite, finite}
use Rattle.rounding_spec.proofs.Compare.{tri}
use Rattle.pattern_spec.specs.Exact.{negate, plus_finite, plus}
use Rattle.pattern_spec.proofs.Sums.{like?, like-eq, unlike-eq, sum_same, sum_left, sum-right, sum-none}
use Rattle.pattern_spec.specs.Comparisons.{same}

-- ---- s * m is the number p - n, where the sign r counts as plus
abbrev pub Rel : Bool → Bool → ℕ → ℕ → ℕ → Type 0
Rel false false m p n = m + n ≡ p
Rel false true m p n = m + p ≡ n
Rel true false m p n = m + p ≡ n
Rel true true m p n = m + n ≡ p

pub rel-own : (r : Bool) (m : ℕ) → Rel r r m m 0
rel-own false m = add-zero m
rel-own true m = add-zero m

-- the magnitude is the distance
pub rel-dist : (r s : Bool) (m p n : ℕ) → Rel r s m p n → m ≡ dist p n
rel-dist false false m p n h = omega arith
rel-dist false true m p n h = omega arith
rel-dist true false m p n h = omega arith
rel-dist true true m p n h = omega arith

pub rel-not : (r s : Bool) (m p n : ℕ) → Rel r s m p n → Rel r (not s) m n p
rel-not false false m p n h = h
rel-not false true m p n h = h
rel-not true false m p n h = h
rel-not true true m p n h = h

pub rel-other : (s : Bool) (m : ℕ) → Rel s (not s) m 0 m
rel-other s m = rel-not s s m m 0 (rel-own s m)

pub dist-shift : (p n p' n' : ℕ) → p + n' ≡ p' + n → dist p n ≡ dist p' n'
dist-shift p n p' n' e = omega arith

-- a rest below zero has the other sign
pub other-side : (s t : Bool) (m n f : ℕ) → Rel s t m n f → n < f → t ≡ not s
other-side false true m n f h k = refl
other-side true false m n f h k = refl
other-side false false m n f h k = absurd (omega arith)
other-side true true m n f h k = absurd (omega arith)

pub rel-shift : (r s : Bool) (m p n p' n' : ℕ) → Rel r s m p n → p + n' ≡ p' + n → Rel r s m p' n'
rel-shift false false m p n p' n' h e = omega arith
rel-shift false true m p n p' n' h e = omega arith
rel-shift true false m p n p' n' h e = omega arith
rel-shift true true m p n p' n' h e = omega arith

-- ---- the value x, finite, is p - n where r counts as plus
abbrev pub Is : Bool → Value → ℕ → ℕ → Type 0
Is r nan p n = ⊥
Is r (infinite s) p n = ⊥
Is r (finite s m) p n = Rel r s m p n

pub is-negate : (r : Bool) (x : Value) (p n : ℕ) → Is r x p n → Is r (negate x) n p
unfolding negate
is-negate r nan p n h = h
is-negate r (infinite s) p n h = h
is-negate r (finite s m) p n h = rel-not r s m p n h

pub is-shift : (r : Bool) (x : Value) (p n p' n' : ℕ) → Is r x p n → p + n' ≡ p' + n → Is r x p' n'
is-shift r nan p n p' n' h e = h
is-shift r (infinite s) p n p' n' h e = h
is-shift r (finite s m) p n p' n' h e = rel-shift r s m p n p' n' h e

-- ---- exact sums
rel-add : (r s : Bool) (a p n b p' n' : ℕ) → Rel r s a p n → Rel r s b p' n' → Rel r s (a + b) (p + p') (n + n')
rel-add false false a p n b p' n' x y = omega arith
rel-add false true a p n b p' n' x y = omega arith
rel-add true false a p n b p' n' x y = omega arith
rel-add true true a p n b p' n' x y = omega arith

rel-take : (r s : Bool) (a p n b p' n' : ℕ) → b ≤ a → Rel r s a p n → Rel r (not s) b p' n' → Rel r s (a - b) (p + p') (n + n')
rel-take false false a p n b p' n' h x y = omega arith
rel-take false true a p n b p' n' h x y = omega arith
rel-take true false a p n b p' n' h x y = omega arith
rel-take true true a p n b p' n' h x y = omega arith

-- nothing has every sign
rel-none : (r s : Bool) (m p n : ℕ) → m ≡ 0 → Rel r s m p n → Rel r false 0 p n
rel-none false false m p n z h = omega arith
rel-none false true m p n z h = omega arith
rel-none true false m p n z h = omega arith
rel-none true true m p n z h = omega arith

is_sum : (r s : Bool) (a p n : ℕ) (t : Bool) (b p' n' : ℕ) → Rel r s a p n → Rel r t b p' n' → Is r (plus_finite s a t b) (p + p') (n + n')
is_sum r s a p n t b p' n' x y =
    elim (like? s t) [
      | inl e ↦ rw (sum_same s a t b e) (rel-add r s a p n b p' n' x (subst (λ (u : Bool). Rel r u b p' n') (sym (like-eq s t e)) y))
      | inr e ↦
          let y' : Rel r (not s) b p' n' = subst (λ (u : Bool). Rel r u b p' n') (unlike-eq s t e) y in
          elim (tri a b) [
            | inl h ↦
                let x' : Rel r (not (not s)) a p n = subst (λ (u : Bool). Rel r u a p n) (sym (not-not s)) x in
                rw (sum-right s a t b e h, unlike-eq s t e, add_comm p p', add_comm n n') (rel-take r (not s) b p' n' a p n (le_of_lt h) y' x')
            | inr o ↦ elim o [
              | inl h ↦ rw (sum-none s a t b e h) (rel-none r s (a - b) (p + p') (n + n') (omega arith) (rel-take r s a p n b p' n' (omega arith) x y'))
              | inr h ↦ rw (sum_left s a t b e h) (rel-take r s a p n b p' n' (le_of_lt h) x y')
            ]
          ]
    ]
  where
    not-not : (s : Bool) → not (not s) ≡ s
    not-not false = refl
    not-not true = refl

pub is-plus : (r : Bool) (x y : Value) (p n p' n' : ℕ) → Is r x p n → Is r y p' n' → Is r (plus x y) (p + p') (n + n')
unfolding plus
is-plus r nan y p n p' n' h k = absurd h
is-plus r (infinite s) y p n p' n' h k = absurd h
is-plus r (finite s a) nan p n p' n' h k = absurd k
is-plus r (finite s a) (infinite t) p n p' n' h k = absurd k
is-plus r (finite s a) (finite t b) p n p' n' h k = is_sum r s a p n t b p' n' h k

-- ---- equality of numbers, where +0 equals -0
pub and_both : (x y : Bool) → T (x && y) → T x × T y
and_both true true h = (tt, tt)
and_both true false h = absurd h
and_both false y h = absurd h

pub and-make : (x y : Bool) → T x → T y → T (x && y)
and-make true true h k = tt
and-make true false h k = k
and-make false y h k = h

eq-eqb : (a b : ℕ) → a ≡ b → T (eqb a b)
eq-eqb a b e = subst (λ (z : ℕ). T (eqb a z)) e (eqb_refl a)

pub same-eq : (r : Bool) (x y : Value) (p n p' n' : ℕ) → Is r x p n → Is r y p' n' → T (same x y) → p + n' ≡ p' + n
unfolding same
same-eq r nan y p n p' n' h k t = absurd t
same-eq r (infinite s) y p n p' n' h k t = absurd h
same-eq r (finite s a) nan p n p' n' h k t = absurd t
same-eq r (finite s a) (infinite u) p n p' n' h k t = absurd t
same-eq r (finite s a) (finite u b) p n p' n' h k t =
    let c = and_both (eqb a b) (beq s u || eqb a 0) t in
    go r s u h k (eqb→eq a b c.0) (eqb a 0) (eqb→eq a 0) c.1
  where
    go : (r s u : Bool) → Rel r s a p n → Rel r u b p' n' → a ≡ b → (z : Bool) → (T z → a ≡ 0) → T (beq s u || z) → p + n' ≡ p' + n
    go false false false h k e z f g = omega arith
    go false true true h k e z f g = omega arith
    go true false false h k e z f g = omega arith
    go true true true h k e z f g = omega arith
    go false false true h k e z f g = omega (arith, f g)
    go false true false h k e z f g = omega (arith, f g)
    go true false true h k e z f g = omega (arith, f g)
    go true true false h k e z f g = omega (arith, f g)

pub eq-same : (r : Bool) (x y : Value) (p n p' n' : ℕ) → Is r x p n → Is r y p' n' → p + n' ≡ p' + n → T (same x y)
unfolding same
eq-same r nan y p n p' n' h k t = absurd h
eq-same r (infinite s) y p n p' n' h k t = absurd h
eq-same r (finite s a) nan p n p' n' h k t = absurd k
eq-same r (finite s a) (infinite u) p n p' n' h k t = absurd k
eq-same r (finite s a) (finite u b) p n p' n' h k t =
    and-make (eqb a b) (beq s u || eqb a 0) (eq-eqb a b (one r s u h k)) (two r s u h k)
  where
    one : (r s u : Bool) → Rel r s a p n → Rel r u b p' n' → a ≡ b
    one false false false h k = omega arith
    one false true true h k = omega arith
    one true false false h k = omega arith
    one true true true h k = omega arith
    one false false true h k = omega arith
    one false true false h k = omega arith
    one true false true h k = omega arith
    one true true false h k = omega arith

    two : (r s u : Bool) → Rel r s a p n → Rel r u b p' n' → T (beq s u || eqb a 0)
    two r false false h k = tt
    two r true true h k = tt
    two false false true h k = eq-eqb a 0 (omega arith)
    two false true false h k = eq-eqb a 0 (omega arith)
    two true false true h k = eq-eqb a 0 (omega arith)
    two true true false h k = eq-eqb a 0 (omega arith)
