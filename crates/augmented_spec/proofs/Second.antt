-- The pair of an exact number, by its sign and magnitude: first is what RN0 gives, second the rounded left-over on its side.
use mathlib.Core.Path.{◌≡◌, refl, sym, ap, ap₂, ◌∙◌}
use mathlib.Core.Logic.{◌⊎◌, inl, inr}
use mathlib.Core.Bool.{Bool, true, false, not, cond, ◌&&◌}
use Prim.Native.Nat.{ℕ, suc, ◌+◌, ◌-◌, ◌*◌, ◌^◌, ◌≤◌, ◌<◌}
use native.Mathlib.Nat.{le_trans, le_of_lt, le_of_eq, lt_of_le_of_lt, zero-mul}
use native.Mathlib.Omega.{arith}
use lib.Dec.{ltb, eqb}
use lib.Ieee.{unlike}
use lib.Pow.{pow_pos}
use borrow.Author.Tests.{lt-ltb, le-ltb, ne_eqb}
use Rattle.rounding_spec.specs.declared.Ties.TheVariants.{ToZero}
use Rattle.rounding_spec.specs.Format.{Format, low, limit}
use Rattle.rounding_spec.specs.Round.{rounded, left_over, rounded_up}
use Rattle.rounding_spec.specs.Nearest.{dist}
use Rattle.rounding_spec.specs.Value.{Value, infinite, finite, round, round_finite, is_finite, is_zero}
use Rattle.rounding_spec.proofs.Compare.{tri}
use Rattle.rounding_spec.proofs.Representable.{rep_zero}
use Rattle.rounding_spec.proofs.Rounded.{rounded-near, rounded-none, rounded-mono}
use Rattle.rounding_spec.proofs.RoundValue.{round-below, round-above}
use Rattle.pattern_spec.specs.Exact.{negate, plus_finite, plus, finer}
use Rattle.pattern_spec.proofs.Sums.{like?, not-like, sum_same, sum_left, sum-right, sum-none}
use Rattle.augmented_spec.specs.Pairs.{rest, zero_takes, second_of, pair_of, adds_up, underflowed}

pub unlike-true : (s : Bool) → unlike s true ≡ not s
unlike-true true = refl
unlike-true false = refl

pub unlike-false : (s : Bool) → unlike s false ≡ s
unlike-false true = refl
unlike-false false = refl

-- ---- a number less another of its sign
module _ (s : Bool) (N A : ℕ) where
  -- the sign of what is left, and its magnitude
  pub less-is : (N ≡ A → ⊥) → plus_finite s N (not s) A ≡ finite (unlike s (ltb N A)) (dist A N)
  less-is n =
      elim (tri N A) [
        | inl h ↦ sum-right s N (not s) A (not-like s) h ∙ ap₂ finite (sym (unlike-true s) ∙ ap (unlike s) (sym (lt-ltb N A h))) (omega arith)
        | inr o ↦ elim o [
          | inl e ↦ absurd (n e)
          | inr h ↦ sum_left s N (not s) A (not-like s) h ∙ ap₂ finite (sym (unlike-false s) ∙ ap (unlike s) (sym (le-ltb N A (le_of_lt h)))) (omega arith)
        ]
      ]

-- ---- the second half
none-rounds : (F : Format) (r : Bool) → round_finite ToZero F r 0 ≡ finite r 0
unfolding limit
none-rounds F r =
    let z = rounded-none ToZero F.fraction (low F) in
    round-below ToZero F r 0 (le_trans (le_of_eq (ap suc z)) (pow_pos (suc F.emax + low F))) ∙ ap (finite r) z

module _ (F : Format) (s : Bool) (N a : ℕ) where
  abbrev pub side : Bool
  side = unlike s (ltb N (a * 2 ^ low F))

  abbrev pub gap : ℕ
  gap = dist (a * 2 ^ low F) N

  -- what is left of N units of u * u when a units of u are taken away
  pub rest-is : (N ≡ a * 2 ^ low F → ⊥) → rest F (finite s N) (finite s a) ≡ finite side gap
  unfolding rest negate finer plus
  rest-is n = less-is s N (a * 2 ^ low F) n

  pub rest-none : N ≡ a * 2 ^ low F → rest F (finite s N) (finite s a) ≡ finite false 0
  unfolding rest negate finer plus
  rest-none e = sum-none s N (not s) (a * 2 ^ low F) (not-like s) e

  pub second_is : second_of F (finite s N) (finite s a) ≡ zero_takes s (round_finite ToZero F side gap)
  unfolding second_of round zero_takes
  second_is =
      elim (tri N (a * 2 ^ low F)) [
        | inl h ↦ ap (λ (v : Value). zero_takes s (round ToZero F v)) (rest-is (λ e. omega arith))
        | inr o ↦ elim o [
          | inl e ↦
              let g : gap ≡ 0 = omega arith in
              ap (λ (v : Value). zero_takes s (round ToZero F v)) (rest-none e) ∙ ap (zero_takes s) (none-rounds F false)
              ∙ sym (ap (λ (x : ℕ). zero_takes s (round_finite ToZero F side x)) g ∙ ap (zero_takes s) (none-rounds F side))
          | inr h ↦ ap (λ (v : Value). zero_takes s (round ToZero F v)) (rest-is (λ e. omega arith))
        ]
      ]

-- ---- the pair of a number, by its magnitude N
module _ (F : Format) (s : Bool) (N : ℕ) where
  abbrev pub head : ℕ
  head = rounded ToZero F.fraction (low F) N

  abbrev pub left : ℕ
  left = left_over ToZero F.fraction (low F) N

  abbrev pub up : Bool
  up = rounded_up ToZero F.fraction (low F) N

  abbrev pub tail : ℕ
  tail = rounded ToZero F.fraction (low F) left

  -- zero is a number of the format, so what is left is not more than N
  left_le : left ≤ N
  left_le = omega (arith, (rounded-near ToZero F.fraction (low F) N).best 0 rep_zero)

  pub tail-le : tail ≤ head
  tail-le = rounded-mono ToZero F.fraction (low F) left N left_le

  -- the second half is finite where the first is
  pub second-finite : head < limit F → second_of F (finite s N) (finite s head) ≡ finite (cond (eqb tail 0) s (unlike s up)) tail
  unfolding zero_takes
  second-finite h = second_is F s N head ∙ ap (zero_takes s) (round-below ToZero F (unlike s up) left (lt_of_le_of_lt tail-le h))

  pub first-finite : head < limit F → (pair_of F (finite s N)).first ≡ finite s head
  unfolding pair_of round
  first-finite h = round-below ToZero F s N h

  pub pair-second : head < limit F → (pair_of F (finite s N)).second ≡ finite (cond (eqb tail 0) s (unlike s up)) tail
  unfolding pair_of round
  pair-second h = ap (second_of F (finite s N)) (round-below ToZero F s N h) ∙ second-finite h

  pub first-infinite : limit F ≤ head → (pair_of F (finite s N)).first ≡ infinite s
  unfolding pair_of round
  first-infinite h = round-above ToZero F s N h

  pub second-infinite : limit F ≤ head → (pair_of F (finite s N)).second ≡ infinite s
  unfolding pair_of round second_of
  second-infinite h = ap (second_of F (finite s N)) (round-above ToZero F s N h)

-- ---- whether the pair adds up
-- nothing is left exactly where the distance is none
zero_rest : (F : Format) (r : Bool) (M a : ℕ) → is_zero (rest F (finite r M) (finite r a)) ≡ eqb (dist (a * 2 ^ low F) M) 0
zero_rest F r M a =
    elim (tri M (a * 2 ^ low F)) [
      | inl h ↦ ap is_zero (rest-is F r M a (λ e. omega arith))
      | inr o ↦ elim o [
        | inl e ↦ let g : dist (a * 2 ^ low F) M ≡ 0 = omega arith in ap is_zero (rest-none F r M a e) ∙ sym (ap (λ (x : ℕ). eqb x 0) g)
        | inr h ↦ ap is_zero (rest-is F r M a (λ e. omega arith))
      ]
    ]

zero-sum : (r : Bool) (M : ℕ) (t : Bool) (b : ℕ) → b ≡ 0 → is_zero (plus_finite r M t b) ≡ eqb M 0
zero-sum r M t b z =
    elim (like? r t) [
      | inl e ↦ ap is_zero (sum_same r M t b e) ∙ ap (λ (x : ℕ). eqb x 0) (let q : M + b ≡ M = omega arith in q)
      | inr e ↦ elim (tri M b) [
        | inl h ↦ absurd (omega arith)
        | inr o ↦ elim o [
          | inl h ↦ ap is_zero (sum-none r M t b e h) ∙ sym (ap (λ (x : ℕ). eqb x 0) (h ∙ z))
          | inr h ↦ ap is_zero (sum_left r M t b e h) ∙ ap (λ (x : ℕ). eqb x 0) (let q : M - b ≡ M = omega arith in q)
        ]
      ]
    ]

-- a half that is zero takes nothing away
zero-taken : (F : Format) (r : Bool) (M : ℕ) (q : Bool) (a : ℕ) → a ≡ 0 → is_zero (rest F (finite r M) (finite q a)) ≡ eqb (dist (a * 2 ^ low F) M) 0
unfolding rest negate finer plus
zero-taken F r M q a z =
    let g : a * 2 ^ low F ≡ 0 = ap (λ (x : ℕ). x * 2 ^ low F) z ∙ zero-mul (2 ^ low F) in
    zero-sum r M (not q) (a * 2 ^ low F) g ∙ ap (λ (x : ℕ). eqb x 0) (let e : M ≡ dist (a * 2 ^ low F) M = omega arith in e)

module _ (F : Format) (s : Bool) (N : ℕ) (h : head F s N < limit F) where
  abbrev M : ℕ
  M = left F s N

  abbrev b : ℕ
  b = tail F s N

  abbrev second : Value
  second = finite (cond (eqb b 0) s (unlike s (up F s N))) b

  -- with what is left of N, whatever the sign of nothing is
  taken : (r : Bool) → (M ≡ 0 ⊎ (r ≡ unlike s (up F s N))) → is_zero (rest F (finite r M) second) ≡ eqb (dist (b * 2 ^ low F) M) 0
  taken r c =
      elim (tri b 0) [
        | inl l ↦ absurd (omega arith)
        | inr o ↦ elim o [
          | inl e ↦ zero-taken F r M _ b e
          | inr l ↦ rw (ne_eqb b 0 (λ (e : b ≡ 0). omega arith)) (elim c [
            | inl z ↦ absurd (let e : b ≡ 0 = ap (rounded ToZero F.fraction (low F)) z ∙ rounded-none ToZero F.fraction (low F) in omega arith)
            | inr e ↦ rw e (zero_rest F (unlike s (up F s N)) M b)
          ])
        ]
      ]

  pub adds-up-is : adds_up F (finite s N) (pair_of F (finite s N)) ≡ eqb (left_over ToZero F.fraction (low F) M) 0
  unfolding adds_up
  adds-up-is =
      ap₂ (λ (v w : Value). is_zero (rest F (rest F (finite s N) v) w)) (first-finite F s N h) (pair-second F s N h)
      ∙ elim (tri N (head F s N * 2 ^ low F)) [
        | inl l ↦ ap (λ (v : Value). is_zero (rest F v second)) (rest-is F s N (head F s N) (λ e. omega arith)) ∙ taken (unlike s (up F s N)) (inr refl)
        | inr o ↦ elim o [
          | inl e ↦
              let z : M ≡ 0 = omega arith in
              ap (λ (v : Value). is_zero (rest F v second)) (rest-none F s N (head F s N) e ∙ ap (finite false) (sym z)) ∙ taken false (inl z)
          | inr l ↦ ap (λ (v : Value). is_zero (rest F v second)) (rest-is F s N (head F s N) (λ e. omega arith)) ∙ taken (unlike s (up F s N)) (inr refl)
        ]
      ]

  pub underflowed-is : underflowed F (finite s N) (pair_of F (finite s N)) ≡ not (eqb (left_over ToZero F.fraction (low F) M) 0)
  unfolding underflowed
  underflowed-is = ap₂ (λ (v w : Value). is_finite v && is_finite w && not (adds_up F (finite s N) (pair_of F (finite s N)))) (first-finite F s N h) (pair-second F s N h) ∙ ap not adds-up-is
