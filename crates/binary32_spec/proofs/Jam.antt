-- A fused sum: the smaller addend brought to the larger one's exponent, made odd where something is cut off, rounds alike, with the same
-- mark.
use mathlib.Core.Path.{◌≡◌, refl, ap, ap₂, ◌∙◌, sym, subst}
use mathlib.Core.Logic.{◌⊎◌, inl, inr}
use mathlib.Core.Bool.{Bool, cond}
use Prim.Native.Nat.{ℕ, suc, ◌+◌, ◌-◌, ◌*◌, ◌/◌, ◌%◌, ◌^◌, ◌≤◌, ◌<◌}
use native.Mathlib.Nat.{le_trans, le_of_eq, lt_of_le_of_lt, mul-one, add-mul, mul-le-mul_left, mul-le-mul_right, mul-lt-mul_of_pos_right, pow-succ', mod-eq_of_lt, mod-lt, div-add-mod', div-eq_of_lt}
use native.Mathlib.Nat.{zero-mul, eq-zero-or-pos, sub-add_cancel}
use native.Mathlib.Decide.{dec_le, ℕ_discrete}
use native.Mathlib.Omega.{arith}
use borrow.Author.Tests.{lt-ltb, le-ltb, lt-leb, le-leb, eq-eqb, ne_eqb}
use lib.Dec.{ltb, leb, eqb}
use lib.Pow.{pow_pos, pow_mono}
use Rattle.rounding_spec.specs.declared.Ties.TheVariants.{ToEven}
use Rattle.rounding_spec.specs.Round.{rounded}
use Rattle.rounding_spec.specs.Value.{Value, finite, round_finite, round}
use Rattle.rounding_spec.proofs.Remainder.{shifted_back}
use Rattle.rounding_spec.proofs.Sticky.{between-lost, odd}
use Rattle.pattern_spec.specs.Exact.{plus_finite}
use Rattle.binary32_spec.specs.declared.Outcome.{Outcome}
use Rattle.binary32_spec.specs.Inner.{outcome, Reaches}
use Rattle.binary32_spec.proofs.Marks.{same_outcome, lost-mark}
use Rattle.pattern_spec.specs.Inner.{Jammed}
use Rattle.pattern_spec.proofs.Sums.{like?, sum_same, sum_left}
use Rattle.rounding_spec.proofs.Multiple.{joined}

-- ---- what the code makes of b / 2 ^ g
module _ (b g : ℕ) where
  jam-far : 0 < b → b ≤ 2 ^ g → Jammed b g 1
  jam-far p h = let q = pow_pos g in inr (record { odd = refl; over = omega arith; under = omega arith })

  jam-odd : (b / 2 ^ g * 2 ^ g ≡ b → ⊥) → Jammed b g (b / 2 ^ g - b / 2 ^ g % 2 + 1)
  jam-odd n =
      let s = div-add-mod' b (2 ^ g) in
      let l = mod-lt b (pow_pos g) in
      elim (dec_le 1 (b / 2 ^ g % 2)) [
        | yes e ↦
            let q : b / 2 ^ g - b / 2 ^ g % 2 + 1 ≡ b / 2 ^ g = omega arith in
            rw q (inr (record { odd = omega arith; over = omega arith; under = omega arith }))
        | no e ↦
            let q : b / 2 ^ g - b / 2 ^ g % 2 + 1 ≡ b / 2 ^ g + 1 = omega arith in
            rw q (inr (record { odd = omega arith; over = omega arith; under = omega arith }))
      ]

  -- shifted in a word, and made odd unless the shift back gives b again
  near-jam : b < 2 ^ 64 → Jammed b g (cond (eqb (b / 2 ^ g * 2 ^ g % 2 ^ 64) b) (b / 2 ^ g) (b / 2 ^ g - b / 2 ^ g % 2 + 1))
  near-jam h =
      elim (ℕ_discrete (b / 2 ^ g * 2 ^ g % 2 ^ 64) b) [
        | yes e ↦ rw (eq-eqb (b / 2 ^ g * 2 ^ g % 2 ^ 64) b e) (inl (sym (shifted_back b g h) ∙ e))
        | no n ↦ rw (ne_eqb (b / 2 ^ g * 2 ^ g % 2 ^ 64) b n) (jam-odd (λ (e : b / 2 ^ g * 2 ^ g ≡ b). n (shifted_back b g h ∙ e)))
      ]

  -- it is no larger than b
  pub jam-le : (r : ℕ) → Jammed b g r → r ≤ b
  jam-le r (inl e) = le_trans (le_trans (le_of_eq (sym (mul-one r))) (mul-le-mul_left r (pow_pos g))) (le_of_eq e)
  jam-le r (inr o) =
      let p = r - 1 in
      let e : r ≡ p + 1 = omega (arith, o.odd) in
      let v : r * 2 ^ g ≡ p * 2 ^ g + 1 * 2 ^ g = ap (λ (x : ℕ). x * 2 ^ g) e ∙ add-mul p 1 (2 ^ g) in
      let m : p * 1 ≤ p * 2 ^ g = mul-le-mul_left p (pow_pos g) in
      omega (arith, o.under)

-- nothing is cut off by no shift
jam_none : (b r : ℕ) → Jammed b 0 r → r ≡ b
jam_none b r (inl e) = sym (mul-one r) ∙ e
jam_none b r (inr o) = let x = o.over in let y = o.under in omega arith

-- beyond 48 places it is as at 48: nothing is left but whether b is 0
far-jam : (b g : ℕ) → b < 2 ^ 48 → 48 ≤ g → Jammed b g (cond (eqb (b / 2 ^ 48 * 2 ^ 48 % 2 ^ 64) b) (b / 2 ^ 48) (b / 2 ^ 48 - b / 2 ^ 48 % 2 + 1))
far-jam b g h l =
    let big : 2 ^ 48 ≤ 2 ^ g = pow_mono {i = 48} l in
    elim (eq-zero-or-pos b) [
      | inl e ↦ rw e (inl (zero-mul (2 ^ g)))
      | inr p ↦ rw (div-eq_of_lt h, ne_eqb (0 * 2 ^ 48 % 2 ^ 64) b (λ (e : 0 * 2 ^ 48 % 2 ^ 64 ≡ b). omega arith)) (jam-far b g p (omega arith))
    ]

-- the shift of the code
pub jam-shift : (g h : ℕ) → h ≡ cond (ltb 48 g) 48 g → h < 64
jam-shift g h at =
    elim (dec_le g 48) [
      | yes l ↦ let e : h ≡ g = at ∙ rw (le-ltb 48 g l) in omega arith
      | no l ↦ let e : h ≡ 48 = at ∙ rw (lt-ltb 48 g (let z : 48 < g = omega arith in z)) in omega arith
    ]

pub jam-is : (b g h r : ℕ) → b < 2 ^ 48 → h ≡ cond (ltb 48 g) 48 g → r ≡ cond (eqb (b / 2 ^ h * 2 ^ h % 2 ^ 64) b) (b / 2 ^ h) (b / 2 ^ h - b / 2 ^ h % 2 + 1) → Jammed b g r
jam-is b g h r small at is =
    elim (dec_le g 48) [
      | yes l ↦ let e : h ≡ g = at ∙ rw (le-ltb 48 g l) in rw (is, e) (near-jam b g (omega arith))
      | no l ↦ let e : h ≡ 48 = at ∙ rw (lt-ltb 48 g (let z : 48 < g = omega arith in z)) in rw (is, e) (far-jam b g small (omega arith))
    ]

-- ---- a number near an odd one rounds as that one
halves : (a r : ℕ) → a % 2 ≡ 0 → r % 2 ≡ 1 → r ≤ a → (2 * ((a + r) / 2) + 1 ≡ a + r) × (2 * ((a - r) / 2) + 1 + r ≡ a)
halves a r ea er l = omega arith

module _ (s : Bool) (k a r Y A : ℕ) (big : 2 ^ 24 ≤ A) (lo : Y < r * 2 ^ k + 2 ^ k) (hi : r * 2 ^ k < Y + 2 ^ k) where
  result-same : (N M : ℕ) → rounded ToEven 23 149 N ≡ rounded ToEven 23 149 M → (outcome (finite s N)).result ≡ (outcome (finite s M)).result
  unfolding outcome round round_finite
  result-same N M e = rw e

  -- numbers between the same neighbouring multiples of 2 ^ suc k round alike, and both lose something
  alike : (N M : ℕ) → A * 2 ^ suc k < N → N < A * 2 ^ suc k + 2 ^ suc k → A * 2 ^ suc k < M → M < A * 2 ^ suc k + 2 ^ suc k
      → outcome (finite s N) ≡ outcome (finite s M)
  alike N M nl nu ml mu =
      let e = odd ToEven 23 149 k A N big nl nu ∙ sym (odd ToEven 23 149 k A M big ml mu) in
      same_outcome (outcome (finite s N)) (outcome (finite s M)) (result-same N M e)
      (lost-mark s N (between-lost ToEven 23 149 (suc k) A N big nl nu) ∙ sym (lost-mark s M (between-lost ToEven 23 149 (suc k) A M big ml mu)))

  plus-odd : 2 * A + 1 ≡ a + r → outcome (finite s (a * 2 ^ k + r * 2 ^ k)) ≡ outcome (finite s (a * 2 ^ k + Y))
  plus-odd e =
      let p : 2 ^ suc k ≡ 2 * 2 ^ k = pow-succ' 2 k in
      let v : (2 * A + 1) * 2 ^ k ≡ a * 2 ^ k + r * 2 ^ k = ap (λ (x : ℕ). x * 2 ^ k) e ∙ add-mul a r (2 ^ k) in
      alike (a * 2 ^ k + r * 2 ^ k) (a * 2 ^ k + Y) (rw p (omega arith)) (rw p (omega arith)) (rw p (omega arith)) (rw p (omega arith))

  less-odd : 2 * A + 1 + r ≡ a → outcome (finite s (a * 2 ^ k - r * 2 ^ k)) ≡ outcome (finite s (a * 2 ^ k - Y))
  less-odd e =
      let p : 2 ^ suc k ≡ 2 * 2 ^ k = pow-succ' 2 k in
      let v : (2 * A + 1) * 2 ^ k + r * 2 ^ k ≡ a * 2 ^ k = sym (add-mul (2 * A + 1) r (2 ^ k)) ∙ ap (λ (x : ℕ). x * 2 ^ k) e in
      alike (a * 2 ^ k - r * 2 ^ k) (a * 2 ^ k - Y) (rw p (omega arith)) (rw p (omega arith)) (rw p (omega arith)) (rw p (omega arith))

-- ---- both addends at the exponent k; the first is even there, and far above the second
abbrev rounds : Bool → ℕ → Bool → ℕ → Outcome
rounds s a t b = outcome (plus_finite s a t b)

module _ (s : Bool) (a k : ℕ) (t : Bool) (r Y : ℕ) (even : a % 2 ≡ 0) (far : r + 2 ^ 26 ≤ a) where
  odd-sum : r % 2 ≡ 1 → Y < r * 2 ^ k + 2 ^ k → r * 2 ^ k < Y + 2 ^ k → rounds s (a * 2 ^ k) t (r * 2 ^ k) ≡ rounds s (a * 2 ^ k) t Y
  odd-sum er lo hi =
      let h = halves a r even er (omega arith) in
      let first : (r + 1) * 2 ^ k ≤ a * 2 ^ k = mul-le-mul_right (2 ^ k) (let z : r + 1 ≤ a = omega arith in z) in
      let one : (r + 1) * 2 ^ k ≡ r * 2 ^ k + 1 * 2 ^ k = add-mul r 1 (2 ^ k) in
      let pos = pow_pos k in
      let step : (v w : Value) → plus_finite s (a * 2 ^ k) t (r * 2 ^ k) ≡ v → plus_finite s (a * 2 ^ k) t Y ≡ w → outcome v ≡ outcome w
      → rounds s (a * 2 ^ k) t (r * 2 ^ k) ≡ rounds s (a * 2 ^ k) t Y =
      λ v w e f g. ap outcome e ∙ g ∙ sym (ap outcome f)
      in
      elim (like? s t) [
        | inl e ↦ step (finite s (a * 2 ^ k + r * 2 ^ k)) (finite s (a * 2 ^ k + Y)) (sum_same s (a * 2 ^ k) t (r * 2 ^ k) e) (sum_same s (a * 2 ^ k) t Y e)
            (plus-odd s k a r Y ((a + r) / 2) (omega arith) lo hi h.0)
        | inr e ↦ step (finite s (a * 2 ^ k - r * 2 ^ k)) (finite s (a * 2 ^ k - Y)) (sum_left s (a * 2 ^ k) t (r * 2 ^ k) e (omega arith)) (sum_left s (a * 2 ^ k) t Y e (omega arith))
            (less-odd s k a r Y ((a - r) / 2) (omega arith) lo hi h.1)
      ]

-- b * 2 ^ j brought to the exponent g + j
pub jammed-sum : (s : Bool) (a k : ℕ) (t : Bool) (b g j r : ℕ) → g + j ≡ k → a % 2 ≡ 0 → 2 * b + 2 ^ 26 ≤ a → Jammed b g r → rounds s (a * 2 ^ k) t (r * 2 ^ k) ≡ rounds s (a * 2 ^ k) t (b * 2 ^ j)
jammed-sum s a k t b g j r at even far (inl e) = ap (rounds s (a * 2 ^ k) t) (sym (joined r g j k at) ∙ ap (λ (x : ℕ). x * 2 ^ j) e)
jammed-sum s a k t b g j r at even far (inr o) =
    let le = jam-le b g r (inr o) in
    let over : b * 2 ^ j < (r + 1) * 2 ^ k = rw (joined (r + 1) g j k at) at (mul-lt-mul_of_pos_right o.over (pow_pos j)) in
    let under : r * 2 ^ k < b * 2 ^ j + 1 * 2 ^ k =
    omega (arith, mul-lt-mul_of_pos_right {n = b + 2 ^ g} o.under (pow_pos j), joined r g j k at, add-mul b (2 ^ g) (2 ^ j), joined 1 g j k at)
    in
    odd-sum s a k t r (b * 2 ^ j) even (omega arith) o.odd (omega (arith, add-mul r 1 (2 ^ k))) (omega arith)

-- ---- as the code has it: the first goes up by all or by some of the way
even-shift : (a w : ℕ) → 0 < w → a * 2 ^ w % 2 ≡ 0
even-shift a w h =
    let p : 2 ^ w ≡ 2 * 2 ^ (w - 1) = ap (λ (x : ℕ). 2 ^ x) (let z : w ≡ suc (w - 1) = omega arith in z) ∙ pow-succ' 2 (w - 1) in
    let q : a * 2 ^ w ≡ 2 * (a * 2 ^ (w - 1)) = ap (λ (x : ℕ). a * x) p ∙ omega arith in
    omega arith

module _ (s : Bool) (a i : ℕ) (t : Bool) (b j room : ℕ) (o : Reaches a i b j room) where
  -- a left shift in a word, by at most `room`
  shifted : (w : ℕ) → w ≤ room → (a * 2 ^ w % 2 ^ 64 ≡ a * 2 ^ w) × (a * 2 ^ w < 2 ^ 63)
  shifted w h =
      let l : a * 2 ^ w < 2 ^ 63 = lt_of_le_of_lt (mul-le-mul_left a (pow_mono h)) o.high in
      (mod-eq_of_lt (omega arith), l)

  whole-way : (r : ℕ) → Jammed b 0 r → rounds s (a * 2 ^ (i - j) * 2 ^ j) t (r * 2 ^ j) ≡ rounds s (a * 2 ^ i) t (b * 2 ^ j)
  whole-way r jam = ap₂ (λ (x y : ℕ). rounds s x t y) (joined a (i - j) j i (sub-add_cancel o.order)) (ap (λ (x : ℕ). x * 2 ^ j) (jam_none b r jam))

  some-way : (r : ℕ) → room < i - j → Jammed b (i - j - room) r → rounds s (a * 2 ^ room * 2 ^ (i - room)) t (r * 2 ^ (i - room)) ≡ rounds s (a * 2 ^ i) t (b * 2 ^ j)
  some-way r h jam =
      let k = i - room in
      jammed-sum s (a * 2 ^ room) k t b (i - j - room) j r (omega arith) (even-shift a room o.steps.0) (o.first h) jam
      ∙ ap (λ (x : ℕ). rounds s x t (b * 2 ^ j)) (joined a room k i (omega arith))

  -- by how many places the first goes up, and what comes of it
  module _ (up : ℕ) (is : up ≡ cond (leb (i - j) room) (i - j) room) where
    up-cases : ((i - j ≤ room) × (up ≡ i - j)) ⊎ ((room < i - j) × (up ≡ room))
    up-cases =
        elim (dec_le (i - j) room) [
          | yes h ↦ inl (h, is ∙ rw (le-leb (i - j) room h))
          | no h ↦ let l : room < i - j = omega arith in inr (l, is ∙ rw (lt-leb (i - j) room l))
        ]

    pub up_le : (up ≤ room) × (up ≤ i - j)
    up_le = elim up-cases [ inl c ↦ omega (arith, c.0, c.1) | inr c ↦ omega (arith, c.0, c.1) ]

    pub first_fits_lem : a * 2 ^ up % 2 ^ 64 < 2 ^ 63
    first_fits_lem = rw (shifted up up_le.0).0 (shifted up up_le.0).1

    pub aligned_sum : (r : ℕ) → Jammed b (i - j - up) r → rounds s (a * 2 ^ up % 2 ^ 64 * 2 ^ (i - up)) t (r * 2 ^ (i - up)) ≡ rounds s (a * 2 ^ i) t (b * 2 ^ j)
    aligned_sum r jam =
        ap (λ (x : ℕ). rounds s (x * 2 ^ (i - up)) t (r * 2 ^ (i - up))) (shifted up up_le.0).0
        ∙ elim up-cases [
          | inl c ↦
              let z : i - j - up ≡ 0 = omega (arith, c.1) in
              let k : i - up ≡ j = omega (arith, c.1, o.order) in
              ap₂ (λ (x y : ℕ). rounds s (a * 2 ^ x * 2 ^ y) t (r * 2 ^ y)) c.1 k ∙ whole-way r (subst (λ (x : ℕ). Jammed b x r) z jam)
          | inr c ↦
              ap (λ (x : ℕ). rounds s (a * 2 ^ x * 2 ^ (i - x)) t (r * 2 ^ (i - x))) c.1 ∙ some-way r c.0 (subst (λ (x : ℕ). Jammed b (i - j - x) r) c.1 jam)
        ]
