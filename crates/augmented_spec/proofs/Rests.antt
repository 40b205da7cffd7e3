-- Pairs of finite operands as the code makes them, from a rounded number and what it left over.
use mathlib.Core.Path.{◌≡◌, refl, sym, ap, ap₂, ◌∙◌}
use mathlib.Core.Bool.{Bool, true, false, not, cond}
use mathlib.Core.List.{List, []}
use Prim.Native.Nat.{ℕ, suc, ◌+◌, ◌-◌, ◌*◌, ◌^◌, ◌≤◌, ◌<◌}
use native.Mathlib.Nat.{le_trans, le_of_eq, le_of_lt, lt_of_le_of_lt, lt_of_lt_of_le, lt_of_mul-lt-mul_right, eq_of_mul-eq-mul_right, mul-one}
use native.Mathlib.Decide.{dec_le}
use native.Mathlib.Omega.{arith}
use lib.Dec.{eqb}
use lib.Ieee.{unlike}
use lib.Pow.{pow-add, pow_pos, pow-lt, pow_mono, shl_lt}
use borrow.Author.Tests.{eq-eqb, ne_eqb}
use Rattle.rounding_spec.specs.declared.Ties.TheVariants.{ToZero}
use Rattle.rounding_spec.specs.Format.{binary32, limit}
use Rattle.rounding_spec.specs.Round.{last_place, rounded, left_over, rounded_up}
use Rattle.rounding_spec.specs.Nearest.{dist}
use Rattle.rounding_spec.specs.Value.{Value, finite, decode, encode, round_finite, round, is_finite, is_infinite}
use Rattle.rounding_spec.proofs.Multiple.{joined, mult-dist}
use Rattle.rounding_spec.proofs.LastPlace.{place-le}
use Rattle.rounding_spec.proofs.Bounds.{rounded-le}
use Rattle.rounding_spec.proofs.NearLaws.{near-mult}
use Rattle.rounding_spec.proofs.Rounded.{rounded-near, rounded-half, rounded-exact}
use Rattle.rounding_spec.proofs.Scaled.{rounded-rep}
use Rattle.rounding_spec.proofs.Codec.{decode-encode}
use Rattle.rounding_spec.proofs.RoundValue.{round-fits, round-below, round-above}
use Rattle.pattern_spec.specs.Classes.{zero_pattern}
use Rattle.pattern_spec.proofs.Products.{none, some_left}
use Rattle.augmented_spec.specs.declared.Halves.{Halves as Patterns}
use Rattle.augmented_spec.specs.declared.Pair.{Pair}
use Rattle.binary32_spec.proofs.Result.{result-number}
use Rattle.augmented_spec.specs.Pairs.{zero_takes, pair_of, underflowed, flags_of}
use Rattle.augmented_spec.specs.Inner.{both, patterns_of, finite_answer, product_answer, ShortRest}
use Rattle.augmented_spec.proofs.Second.{head, left, up, tail, tail-le, first-finite, pair-second, first-infinite, second-infinite, underflowed-is}
use Rattle.augmented_spec.proofs.Patterns.{finite-shows, infinite-shows, zero_pattern_lem}
use Rattle.augmented_spec.proofs.Answered.{same-pair, first-number, second-number}
use Rattle.augmented_spec.proofs.FlagSets.{underflow-none}

-- ---- a number of u * u, by its magnitude N
module _ (s : Bool) (N : ℕ) where
  -- first overflows, or both halves are finite
  pub over-infinite : limit binary32 ≤ head binary32 s N → is_infinite (decode binary32 (encode binary32 (round_finite ToZero binary32 s N))) ≡ true
  over-infinite h = ap (λ (v : Value). is_infinite (decode binary32 (encode binary32 v))) (round-above ToZero binary32 s N h) ∙ infinite-shows s

  pub over-finite : head binary32 s N < limit binary32 → is_infinite (decode binary32 (encode binary32 (round_finite ToZero binary32 s N))) ≡ false
  over-finite h =
      ap (λ (v : Value). is_infinite (decode binary32 (encode binary32 v))) (round-below ToZero binary32 s N h) ∙ finite-shows s (head binary32 s N) (rounded-rep ToZero 23 149 N) h

  first-encodes : encode binary32 (round_finite ToZero binary32 s N) ≡ encode binary32 (pair_of binary32 (finite s N)).first
  first-encodes =
      elim (dec_le (limit binary32) (head binary32 s N)) [
        | yes h ↦ ap (encode binary32) (round-above ToZero binary32 s N h ∙ sym (first-infinite binary32 s N h))
        | no h ↦ let l : head binary32 s N < limit binary32 = omega arith in ap (encode binary32) (round-below ToZero binary32 s N l ∙ sym (first-finite binary32 s N l))
      ]

  -- c and d are the patterns of both halves, and `over` says whether first is infinite
  pub record Halved (c d : ℕ) (over : Bool) : Type 0 where
    pub first : c ≡ encode binary32 (pair_of binary32 (finite s N)).first
    pub second : d ≡ encode binary32 (pair_of binary32 (finite s N)).second
    pub infinite : over ≡ is_infinite (pair_of binary32 (finite s N)).first

  halved-infinite : limit binary32 ≤ head binary32 s N → (c : ℕ) → c ≡ encode binary32 (round_finite ToZero binary32 s N) → Halved c c true
  halved-infinite h c e =
      let c' = e ∙ ap (encode binary32) (round-above ToZero binary32 s N h) in
      let a = first-infinite binary32 s N h in
      record { first = c' ∙ sym (ap (encode binary32) a); second = c' ∙ sym (ap (encode binary32) (second-infinite binary32 s N h)); infinite = sym (ap is_infinite a) }

  halved-finite : head binary32 s N < limit binary32 → (c d : ℕ) → c ≡ encode binary32 (round_finite ToZero binary32 s N)
      → d ≡ encode binary32 (finite (cond (eqb (tail binary32 s N) 0) s (unlike s (up binary32 s N))) (tail binary32 s N)) → Halved c d false
  halved-finite h c d e g =
      record { first = e ∙ first-encodes; second = g ∙ sym (ap (encode binary32) (pair-second binary32 s N h)); infinite = sym (ap is_infinite (first-finite binary32 s N h)) }

  -- as a pair with flags, and without
  pub halved-pair : {c d : ℕ} {over : Bool} (u : Bool) → Halved c d over → record { first = c; second = d; flags = flags_of false over u } ≡ finite_answer (pair_of binary32 (finite s N)) u
  halved-pair u h = same-pair h.first h.second (ap (λ (o : Bool). flags_of false o u) h.infinite)

  pub halved-patterns : {c d : ℕ} {over : Bool} → Halved c d over → (operands : List ℕ) → both c d ≡ patterns_of operands (pair_of binary32 (finite s N))
  halved-patterns h operands =
      ap₂ both (h.first ∙ sym (result-number binary32 operands _ (first-number binary32 s N)))
      (h.second ∙ sym (result-number binary32 operands _ (second-number binary32 s N)))

  pub plain-patterns : (h : Patterns) → ((operands : List ℕ) → h ≡ patterns_of operands (pair_of binary32 (finite s N)))
      → (h.first ≡ encode binary32 (pair_of binary32 (finite s N)).first) × (h.second ≡ encode binary32 (pair_of binary32 (finite s N)).second)
  plain-patterns h e = (
    ap (λ (k : Patterns). k.first) (e []) ∙ result-number binary32 [] _ (first-number binary32 s N),
    ap (λ (k : Patterns). k.second) (e []) ∙ result-number binary32 [] _ (second-number binary32 s N),
  )

  pub first-shows : is_infinite (decode binary32 (encode binary32 (pair_of binary32 (finite s N)).first)) ≡ is_infinite (pair_of binary32 (finite s N)).first
  unfolding pair_of round
  first-shows = ap is_infinite (decode-encode binary32 (omega arith) (round_finite ToZero binary32 s N) (round-fits ToZero binary32 (finite s N)))

  pub infinite-loses-nothing : limit binary32 ≤ head binary32 s N → underflowed binary32 (finite s N) (pair_of binary32 (finite s N)) ≡ false
  infinite-loses-nothing h = underflow-none binary32 (finite s N) (pair_of binary32 (finite s N)) (ap is_finite (first-infinite binary32 s N h))

dist-none : {a b : ℕ} → a ≡ b → dist a b ≡ 0
dist-none e = omega arith

small-below : (n : ℕ) → n < 2 ^ 24 → n < limit binary32
unfolding limit
small-below n h = lt_of_lt_of_le h (pow_mono {i = 24} {j = 277} (omega arith))

-- ---- what is left over is a number of the format
module _ (s : Bool) (m e : ℕ) (short : ShortRest m e) (rest : ℕ) (rest-is : rest * 2 ^ e ≡ left_over ToZero 23 149 (m * 2 ^ e)) where
  abbrev N : ℕ
  N = m * 2 ^ e

  rest_lt : rest < 2 ^ 24
  rest_lt = lt_of_mul-lt-mul_right (2 ^ e) (le_trans (le_of_eq (ap suc rest-is)) short.left)

  tail-exact : tail binary32 s N * 2 ^ 149 ≡ left binary32 s N
  tail-exact = rounded-exact ToZero 23 149 (left binary32 s N) (record { e = e; m = rest; low = short.unit; small = rest_lt; is = sym rest-is })

  tail-is : tail binary32 s N ≡ rest * 2 ^ (e - 149)
  tail-is =
      eq_of_mul-eq-mul_right (2 ^ 149) (pow_pos 149) (tail binary32 s N) (rest * 2 ^ (e - 149))
      (tail-exact ∙ sym rest-is ∙ sym (joined rest (e - 149) 149 e (let b = short.unit in omega arith)))

  tail_none : eqb (tail binary32 s N) 0 ≡ eqb rest 0
  tail_none =
      ap (λ (x : ℕ). eqb x 0) tail-is
      ∙ elim (dec_le rest 0) [
        | yes h ↦ let z : rest ≡ 0 = omega arith in none rest (e - 149) z ∙ sym (eq-eqb rest 0 z)
        | no h ↦ let z : rest ≡ 0 → ⊥ = λ (q : rest ≡ 0). omega arith in some_left rest (e - 149) z ∙ sym (ne_eqb rest 0 z)
      ]

  counted-loses-nothing : underflowed binary32 (finite s N) (pair_of binary32 (finite s N)) ≡ false
  counted-loses-nothing =
      elim (dec_le (limit binary32) (head binary32 s N)) [
        | yes h ↦ infinite-loses-nothing s N h
        | no h ↦ underflowed-is binary32 s N (omega arith) ∙ ap (λ (x : ℕ). not (eqb x 0)) (dist-none tail-exact)
      ]

  module _ (c : ℕ) (over : Bool) (is : c ≡ encode binary32 (round_finite ToZero binary32 s N)) (shows : over ≡ is_infinite (decode binary32 c)) where
    when-infinite : limit binary32 ≤ head binary32 s N → over ≡ true
    when-infinite h = shows ∙ ap (λ (x : ℕ). is_infinite (decode binary32 x)) is ∙ over-infinite s N h

    when-finite : head binary32 s N < limit binary32 → over ≡ false
    when-finite h = shows ∙ ap (λ (x : ℕ). is_infinite (decode binary32 x)) is ∙ over-finite s N h

    module _ (unit : ℕ) (unit-is : unit ≡ cond over 0 (e - 149)) where
      pub rest-fits : (rest < 2 ^ 24) × (rest * 2 ^ unit < limit binary32)
      rest-fits = (
        rest_lt,
        elim (dec_le (limit binary32) (head binary32 s N)) [
          | yes h ↦ let z : unit ≡ 0 = rw (when-infinite h) at unit-is in rw (z, mul-one rest) (small-below rest rest_lt)
          | no h ↦
              let l : head binary32 s N < limit binary32 = omega arith in
              let z : unit ≡ e - 149 = rw (when-finite l) at unit-is in
              rw (z, ← tail-is) (lt_of_le_of_lt (tail-le binary32 s N) l)
        ],
      )

      pub with-rest-is : (v : Bool) → v ≡ rounded_up ToZero 23 149 N → (d half : ℕ) → d ≡ encode binary32 (finite (cond (eqb rest 0) s (unlike s v)) (rest * 2 ^ unit)) → half ≡ cond over c d
          → Halved s N c half over
      with-rest-is v v-is d half d-is half_is =
          elim (dec_le (limit binary32) (head binary32 s N)) [
            | yes h ↦ rw (half_is, when-infinite h) (halved-infinite s N h c is)
            | no h ↦
                let l : head binary32 s N < limit binary32 = omega arith in
                let z : unit ≡ e - 149 = rw (when-finite l) at unit-is in
                rw (half_is, when-finite l) (halved-finite s N l c d is (d-is ∙ rw (v-is, z, ← tail-is, ← tail_none) refl))
          ]

-- what is left over of a multiple of 2 ^ e is one
rest-counted : (m e : ℕ) → (r : ℕ) × (r * 2 ^ e ≡ left_over ToZero 23 149 (m * 2 ^ e))
rest-counted m e =
    let k = mult-dist e (rounded ToZero 23 149 (m * 2 ^ e) * 2 ^ 149) (m * 2 ^ e) (near-mult e (rounded-near ToZero 23 149 (m * 2 ^ e)) (m, refl)) (m, refl) in
    (k.0, sym k.1)

pub short-loses-nothing : (s : Bool) (m e : ℕ) → ShortRest m e → underflowed binary32 (finite s (m * 2 ^ e)) (pair_of binary32 (finite s (m * 2 ^ e))) ≡ false
short-loses-nothing s m e short = let r = rest-counted m e in counted-loses-nothing s m e short r.0 r.1

-- a product at an exponent from 149 on is of that kind: half a unit of its last place has at most 24 digits
pub product-short : (m e : ℕ) → m < 2 ^ 48 → 149 ≤ e → ShortRest m e
product-short m e h l =
    let k : m * 2 ^ e < 2 ^ (24 + (24 + e)) = le_trans (shl_lt 48 e h) (pow_mono (let z : 48 + e ≤ 24 + (24 + e) = omega arith in z)) in
    let p : 2 ^ last_place 23 149 (m * 2 ^ e) ≤ 2 ^ 24 * 2 ^ e = le_trans (pow_mono (place-le 23 149 (24 + e) (m * 2 ^ e) (omega arith) k)) (le_of_eq (pow-add 2 24 e)) in
    record { unit = l; left = half_lt (le_trans (rounded-half ToZero 23 149 (m * 2 ^ e)) p) (pow_pos e) }
  where
    half_lt : {a b : ℕ} → 2 * a ≤ 2 ^ 24 * b → 0 < b → a < 2 ^ 24 * b
    half_lt g q = omega arith

-- and one below it does not overflow
pub product_small : (s : Bool) (m e : ℕ) → m < 2 ^ 48 → e < 149 → head binary32 s (m * 2 ^ e) < limit binary32
unfolding limit
product_small s m e h l =
    let k : m * 2 ^ e ≤ 2 ^ (48 + 149) = le_of_lt (lt_of_lt_of_le (shl_lt 48 e h) (pow_mono (let z : 48 + e ≤ 48 + 149 = omega arith in z))) in
    lt_of_le_of_lt (rounded-le ToZero 23 149 (m * 2 ^ e) 1 48 (omega arith) k) (pow-lt {i = 48} {j = 277} (omega arith))

-- ---- what is left over is rounded again
module _ (s : Bool) (N : ℕ) (c : ℕ) (is : c ≡ encode binary32 (round_finite ToZero binary32 s N)) where
  differ : {a b : Bool} → a ≡ true → b ≡ false → a ≡ b → ⊥
  differ p q e = let k : ◌≡◌ {A = ℕ} 0 1 = ap (λ (b : Bool). cond b 0 1) (sym p ∙ e ∙ q) in omega arith

  pub shown-infinite : is_infinite (decode binary32 c) ≡ true → limit binary32 ≤ head binary32 s N
  shown-infinite e =
      elim (dec_le (limit binary32) (head binary32 s N)) [
        | yes h ↦ h
        | no h ↦ absurd (differ e (over-finite s N (let l : head binary32 s N < limit binary32 = omega arith in l)) (ap (λ (x : ℕ). is_infinite (decode binary32 x)) is))
      ]

  pub shown-finite : is_infinite (decode binary32 c) ≡ false → head binary32 s N < limit binary32
  shown-finite e =
      elim (dec_le (limit binary32) (head binary32 s N)) [
        | yes h ↦ absurd (differ (over-infinite s N h) e (sym (ap (λ (x : ℕ). is_infinite (decode binary32 x)) is)))
        | no h ↦ omega arith
      ]

  pub twice-infinite : (r : Pair) → r ≡ record { first = c; second = c; flags = flags_of false true false } → limit binary32 ≤ head binary32 s N
      → r ≡ product_answer s N
  twice-infinite r e h = e ∙ halved-pair s N false (halved-infinite s N h c is) ∙ ap (finite_answer (pair_of binary32 (finite s N))) (sym (infinite-loses-nothing s N h))

  module _ (e rest : ℕ) (v : Bool) (rest-is : rest * 2 ^ e ≡ left_over ToZero 23 149 N) (up_is : v ≡ rounded_up ToZero 23 149 N) (h : head binary32 s N < limit binary32) where
    second-pattern : (d half : ℕ) → d ≡ encode binary32 (round_finite ToZero binary32 (unlike s v) (rest * 2 ^ e)) → half ≡ zero_pattern s d
        → half ≡ encode binary32 (finite (cond (eqb (tail binary32 s N) 0) s (unlike s (up binary32 s N))) (tail binary32 s N))
    unfolding zero_takes
    second-pattern d half d-is half_is =
        let l : tail binary32 s N < limit binary32 = lt_of_le_of_lt (tail-le binary32 s N) h in
        let q = unlike s (up binary32 s N) in
        half_is
        ∙ ap (zero_pattern s) (d-is ∙ ap₂ (λ (b : Bool) (x : ℕ). encode binary32 (round_finite ToZero binary32 (unlike s b) x)) up_is rest-is
        ∙ ap (encode binary32) (round-below ToZero binary32 q (left binary32 s N) l))
        ∙ zero_pattern_lem s q (tail binary32 s N) (rounded-rep ToZero 23 149 (left binary32 s N)) l

    pub lost-is : (k : ℕ) → k * 2 ^ e ≡ left_over ToZero 23 149 (rest * 2 ^ e) → not (eqb k 0) ≡ underflowed binary32 (finite s N) (pair_of binary32 (finite s N))
    lost-is k k-is =
        ap not (counted ∙ ap (λ (x : ℕ). eqb x 0) (k-is ∙ ap (left_over ToZero 23 149) rest-is)) ∙ sym (underflowed-is binary32 s N h)
      where
        counted : eqb k 0 ≡ eqb (k * 2 ^ e) 0
        counted =
            elim (dec_le k 0) [
              | yes g ↦ let z : k ≡ 0 = omega arith in eq-eqb k 0 z ∙ sym (none k e z)
              | no g ↦ let z : k ≡ 0 → ⊥ = λ (q : k ≡ 0). omega arith in ne_eqb k 0 z ∙ sym (some_left k e z)
            ]

    pub twice-is : (d half k : ℕ) (r : Pair) → d ≡ encode binary32 (round_finite ToZero binary32 (unlike s v) (rest * 2 ^ e)) → half ≡ zero_pattern s d
        → k * 2 ^ e ≡ left_over ToZero 23 149 (rest * 2 ^ e) → r ≡ record { first = c; second = half; flags = flags_of false false (not (eqb k 0)) }
        → r ≡ product_answer s N
    twice-is d half k r d-is half_is k-is r-is =
        r-is ∙ halved-pair s N (not (eqb k 0)) (halved-finite s N h c half is (second-pattern d half d-is half_is)) ∙ ap (finite_answer (pair_of binary32 (finite s N))) (lost-is k k-is)
