-- Sums of magnitudes with signs: the four cases, exchange of the addends, and a common factor.
use mathlib.Core.Path.{◌≡◌, refl, ap, ap₂, ◌∙◌, sym}
use mathlib.Core.Logic.{◌⊎◌, inl, inr}
use mathlib.Core.Bool.{Bool, true, false, not, beq, cond}
use Prim.Native.Nat.{ℕ, ◌+◌, ◌-◌, ◌*◌, ◌^◌, ◌≤◌, ◌<◌}
use native.Mathlib.Nat.{le_of_lt, le_of_eq, add_comm, add-mul, zero-mul, mul-lt-mul_of_pos_right}
use native.Mathlib.Decide.{dec_le}
use native.Mathlib.Omega.{arith}
use lib.Dec.{ltb}
use lib.Pow.{pow_pos}
use borrow.Author.Tests.{lt-ltb, le-ltb}
use Rattle.rounding_spec.specs.Format.{Format, low}
use Rattle.rounding_spec.specs.Value.{finite}
use Rattle.rounding_spec.proofs.Compare.{tri}
use Rattle.rounding_spec.proofs.Multiple.{sub-mul}
use Rattle.pattern_spec.specs.Exact.{plus_finite, finer}

module _ (s : Bool) (a : ℕ) (t : Bool) (b : ℕ) where
  pub sum_same : beq s t ≡ true → plus_finite s a t b ≡ finite s (a + b)
  unfolding plus_finite
  sum_same e = rw e

  pub sum_left : beq s t ≡ false → b < a → plus_finite s a t b ≡ finite s (a - b)
  unfolding plus_finite
  sum_left e h = rw (e, lt-ltb b a h)

  pub sum-right : beq s t ≡ false → a < b → plus_finite s a t b ≡ finite t (b - a)
  unfolding plus_finite
  sum-right e h = rw (e, le-ltb b a (omega arith), lt-ltb a b h)

  pub sum-none : beq s t ≡ false → a ≡ b → plus_finite s a t b ≡ finite false 0
  unfolding plus_finite
  sum-none e h = rw (e, le-ltb b a (omega arith), le-ltb a b (omega arith))

pub like? : (s t : Bool) → (beq s t ≡ true) ⊎ (beq s t ≡ false)
like? true true = inl refl
like? true false = inr refl
like? false true = inr refl
like? false false = inl refl

pub like-eq : (s t : Bool) → beq s t ≡ true → s ≡ t
like-eq true true e = refl
like-eq true false e = sym e
like-eq false true e = e
like-eq false false e = refl

pub like-own : (s : Bool) → beq s s ≡ true
like-own true = refl
like-own false = refl

pub not-like : (s : Bool) → beq s (not s) ≡ false
not-like true = refl
not-like false = refl

pub unlike-eq : (s t : Bool) → beq s t ≡ false → t ≡ not s
unlike-eq true true e = e
unlike-eq true false e = refl
unlike-eq false true e = refl
unlike-eq false false e = sym e

like-swap : (s t : Bool) → beq t s ≡ beq s t
like-swap true true = refl
like-swap true false = refl
like-swap false true = refl
like-swap false false = refl

-- ---- the addends exchanged
pub sum-swap : (s : Bool) (a : ℕ) (t : Bool) (b : ℕ) → plus_finite t b s a ≡ plus_finite s a t b
sum-swap s a t b =
    elim (like? s t) [
      | inl e ↦ sum_same t b s a (like-swap s t ∙ e) ∙ ap₂ finite (sym (like-eq s t e)) (add_comm b a) ∙ sym (sum_same s a t b e)
      | inr e ↦
          let e' : beq t s ≡ false = like-swap s t ∙ e in
          elim (tri a b) [
            | inl h ↦ sum_left t b s a e' h ∙ sym (sum-right s a t b e h)
            | inr o ↦ elim o [
              | inl h ↦ sum-none t b s a e' (sym h) ∙ sym (sum-none s a t b e h)
              | inr h ↦ sum-right t b s a e' h ∙ sym (sum_left s a t b e h)
            ]
          ]
    ]

-- ---- as the code picks it: the larger magnitude first
module _ (a b : ℕ) where
  abbrev pub greater : ℕ
  greater = cond (ltb b a) a b

  abbrev pub lesser : ℕ
  lesser = cond (ltb b a) b a

  pub chosen-order : (lesser ≤ greater) × ((greater ≤ a + b) × (greater + lesser ≡ a + b))
  chosen-order =
      elim (dec_le a b) [
        | yes h ↦ rw (le-ltb b a h) (omega arith)
        | no h ↦ let l : b < a = omega arith in rw (lt-ltb b a l) (omega arith)
      ]

common-same : (s t : Bool) → beq s t ≡ true → cond s t false ≡ s
common-same true t e = like-eq t true (like-swap true t ∙ e)
common-same false t e = refl

common-other : (s t : Bool) → beq s t ≡ false → cond s t false ≡ false
common-other true true e = e
common-other true false e = refl
common-other false t e = refl

pub sum-chosen : (s : Bool) (a : ℕ) (t : Bool) (b : ℕ)
    → plus_finite s a t b ≡ finite (cond (ltb b a) s (cond (ltb a b) t (cond s t false))) (cond (beq s t) (greater a b + lesser a b) (greater a b - lesser a b))
sum-chosen s a t b =
    elim (tri a b) [
      | inl h ↦ rw (le-ltb b a (le_of_lt h), lt-ltb a b h)
          (elim (like? s t) [
            | inl e ↦ rw e (sum_same s a t b e ∙ ap₂ finite (like-eq s t e) (add_comm a b))
            | inr e ↦ rw e (sum-right s a t b e h)
          ])
      | inr o ↦ elim o [
        | inl h ↦ rw (le-ltb b a (le_of_eq h), le-ltb a b (le_of_eq (sym h)))
            (elim (like? s t) [
              | inl e ↦ rw e (sum_same s a t b e ∙ ap₂ finite (sym (common-same s t e)) (add_comm a b))
              | inr e ↦ rw e (sum-none s a t b e h ∙ ap₂ finite (sym (common-other s t e)) (omega arith))
            ])
        | inr h ↦ rw (lt-ltb b a h)
            (elim (like? s t) [ inl e ↦ rw e (sum_same s a t b e) | inr e ↦ rw e (sum_left s a t b e h) ])
      ]
    ]

-- ---- both magnitudes counted in a finer unit
pub sum-scale : (s : Bool) (a : ℕ) (t : Bool) (b G : ℕ) → 0 < G → (r : Bool) (c : ℕ) → plus_finite s a t b ≡ finite r c → plus_finite s (a * G) t (b * G) ≡ finite r (c * G)
sum-scale s a t b G pos r c q =
    elim (like? s t) [
      | inl e ↦ let z : finite s (a + b) ≡ finite r c = sym (sum_same s a t b e) ∙ q in
          sum_same s (a * G) t (b * G) e ∙ ap (finite s) (sym (add-mul a b G)) ∙ times s (a + b) z
      | inr e ↦ elim (tri a b) [
        | inl h ↦ sum-right s (a * G) t (b * G) e (mul-lt-mul_of_pos_right h pos) ∙ ap (finite t) (sym (sub-mul b a G)) ∙ times t (b - a) (sym (sum-right s a t b e h) ∙ q)
        | inr o ↦ elim o [
          | inl h ↦ sum-none s (a * G) t (b * G) e (ap (λ (x : ℕ). x * G) h) ∙ ap (finite false) (sym (zero-mul G)) ∙ times false 0 (sym (sum-none s a t b e h) ∙ q)
          | inr h ↦ sum_left s (a * G) t (b * G) e (mul-lt-mul_of_pos_right h pos) ∙ ap (finite s) (sym (sub-mul a b G)) ∙ times s (a - b) (sym (sum_left s a t b e h) ∙ q)
        ]
      ]
    ]
  where
    times : (u : Bool) (d : ℕ) → finite u d ≡ finite r c → finite u (d * G) ≡ finite r (c * G)
    times u d e = let x : u ≡ r = cc in let y : d ≡ c = cc in ap₂ finite x (ap (λ (k : ℕ). k * G) y)

-- a sum of finite values is finite
pub sum-finite : (s : Bool) (a : ℕ) (t : Bool) (b : ℕ) → (r : Bool) × (c : ℕ) × (plus_finite s a t b ≡ finite r c)
sum-finite s a t b =
    elim (like? s t) [
      | inl e ↦ (s, a + b, sum_same s a t b e)
      | inr e ↦ elim (tri a b) [
        | inl h ↦ (t, b - a, sum-right s a t b e h)
        | inr o ↦ elim o [ inl h ↦ (false, 0, sum-none s a t b e h) | inr h ↦ (s, a - b, sum_left s a t b e h) ]
      ]
    ]

pub finer-sum : (F : Format) (s : Bool) (a : ℕ) (t : Bool) (b : ℕ) → finer F (plus_finite s a t b) ≡ plus_finite s (a * 2 ^ low F) t (b * 2 ^ low F)
unfolding finer
finer-sum F s a t b =
    let c = sum-finite s a t b in
    ap (finer F) c.2 ∙ sym (sum-scale s a t b (2 ^ low F) (pow_pos (low F)) c.0 c.1 c.2)
