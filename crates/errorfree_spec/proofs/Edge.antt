-- The edge of overflow: RNe of a number is infinite, and its half, split, tells whether RN0 is infinite too.
use mathlib.Core.Path.{◌≡◌, refl, sym, ap, ap₂, ◌∙◌}
use mathlib.Core.Bool.{Bool, true, false, not, cond, ◌&&◌}
use Prim.Native.Nat.{ℕ, suc, ◌+◌, ◌-◌, ◌*◌, ◌^◌, ◌≤◌, ◌<◌}
use native.Mathlib.Nat.{le_refl, le_trans, le_of_eq, le_antisymm, mul_assoc, mul_left_comm, mul_right_comm, mul-le-mul_right, mul-lt-mul_of_pos_right, le_of_mul-le-mul_right, one-mul, pow-succ'}
use native.Mathlib.Nat.{suc-add, add-mul}
use native.Mathlib.Decide.{dec_le}
use native.Mathlib.Omega.{arith}
use borrow.Author.Tests.{ne_eqb}
use lib.Dec.{T, eqb}
use lib.Ieee.{unlike}
use lib.Pow.{pow-add, pow_pos, pow_mono}
use Rattle.rounding_spec.specs.declared.Ties.TheVariants.{ToEven, ToZero}
use Rattle.rounding_spec.specs.Format.{Format, Proper, low, limit, edge}
use Rattle.rounding_spec.specs.Nearest.{dist, Rep}
use Rattle.rounding_spec.specs.Value.{Value, nan, infinite, finite, round_finite}
use Rattle.rounding_spec.proofs.Multiple.{sub-mul}
use Rattle.rounding_spec.proofs.NearLaws.{near-ge, near_le}
use Rattle.rounding_spec.proofs.Representable.{rep-le, rep-pow}
use Rattle.rounding_spec.proofs.Predecessor.{Upper, below-best}
use Rattle.rounding_spec.proofs.RoundValue.{under-edge, over-edge, zero-at-edge}
use Rattle.rounding_spec.proofs.Halfway.{even_up}
use Rattle.binary32_spec.specs.Steps.{mul_value}
use Rattle.augmented_spec.specs.Pairs.{pair_of}
use Rattle.augmented_spec.proofs.Second.{first-infinite, second-infinite}
use Rattle.pattern_spec.specs.Comparisons.{same}
use Rattle.errorfree_spec.specs.Constants.{Roomy}
use Rattle.errorfree_spec.proofs.Factors.{kappa, minus_two}
use Rattle.errorfree_spec.proofs.Signed.{Rel, Is, rel-own, rel-dist, same-eq, eq-same, and_both, and-make, rel-other, other-side}
use Rattle.errorfree_spec.proofs.Steps.{to_even, to_zero, even-at, zero-at, round_whole, mul-positive, mul-finite}
use Rattle.errorfree_spec.proofs.Split.{Split0, finished-first, finished-second}

-- ---- the numbers at the edge, in units of u: 2 ^ 127 and 2 ^ 102 in binary32
unfoldable pub half_limit : Format → ℕ
half_limit F = 2 ^ (F.emax + low F)

unfoldable pub edge_rest : Format → ℕ
edge_rest F = 2 ^ (F.emax + low F - suc (suc F.fraction))

module _ (F : Format) (room : Roomy F) where
  j : ℕ
  j = F.emax + low F - suc (suc F.fraction)

  half_is : half_limit F ≡ 2 ^ suc F.fraction * 2 ^ suc j
  unfolding j half_limit
  half_is = ap (λ (z : ℕ). 2 ^ z) (let z : F.emax + low F ≡ suc F.fraction + suc j = omega arith in z) ∙ pow-add 2 (suc F.fraction) (suc j)

  pub limit-twice : limit F ≡ 2 * half_limit F
  unfolding limit half_limit
  limit-twice = ap (λ (z : ℕ). 2 ^ z) (suc-add F.emax (low F)) ∙ pow-succ' 2 (F.emax + low F)

  q-pos : 0 < edge_rest F
  unfolding edge_rest
  q-pos = pow_pos (F.emax + low F - suc (suc F.fraction))

  -- the largest finite number
  pub last : ℕ
  last = (2 ^ suc F.fraction - 1) * 2 ^ suc (suc j)

  four : 2 ^ suc (suc j) ≡ 4 * edge_rest F
  unfolding edge_rest j
  four = omega arith

  top-is : limit F ≡ 2 ^ suc F.fraction * 2 ^ suc (suc j)
  top-is = limit-twice ∙ ap (λ (z : ℕ). 2 * z) half_is ∙ mul_left_comm 2 (2 ^ suc F.fraction) (2 ^ suc j) ∙ ap (λ (z : ℕ). 2 ^ suc F.fraction * z) (sym (pow-succ' 2 (suc j)))

  pub last-add : last + 4 * edge_rest F ≡ limit F
  unfolding last
  last-add =
      let D = 2 ^ suc F.fraction in
      let K = 2 ^ suc (suc j) in
      omega (arith, sub-mul D 1 K, one-mul K, four, top-is, mul-le-mul_right K (pow_pos (suc F.fraction)))

  last-rep : Rep (suc F.fraction) 0 last
  unfolding last
  last-rep = rep-le F.fraction 0 (2 ^ suc F.fraction - 1) (suc (suc j)) (omega arith) (omega arith)

  edge-is : edge F + 2 * edge_rest F * 2 ^ low F ≡ limit F * 2 ^ low F
  unfolding edge limit edge_rest
  edge-is =
      let e = F.emax + 2 * low F - suc F.fraction in
      let x : 2 * 2 ^ (F.emax + low F - suc (suc F.fraction)) * 2 ^ low F ≡ 2 ^ e =
      ap (λ (z : ℕ). z * 2 ^ low F) (sym (pow-succ' 2 (F.emax + low F - suc (suc F.fraction))))
      ∙ sym (pow-add 2 (suc (F.emax + low F - suc (suc F.fraction))) (low F))
      ∙ ap (λ (z : ℕ). 2 ^ z) (let z : suc (F.emax + low F - suc (suc F.fraction)) + low F ≡ e = omega arith in z)
      in
      let y : 2 ^ (suc F.emax + low F) * 2 ^ low F ≡ 2 ^ (suc F.emax + 2 * low F) =
      sym (pow-add 2 (suc F.emax + low F) (low F)) ∙ ap (λ (z : ℕ). 2 ^ z) (let z : suc F.emax + low F + low F ≡ suc F.emax + 2 * low F = omega arith in z)
      in
      omega (arith, x, y, pow_mono (let z : e ≤ suc F.emax + 2 * low F = omega arith in z))

  two-rep : Rep (suc F.fraction) 0 (2 * edge_rest F)
  unfolding edge_rest
  two-rep = record {
    e = suc (F.emax + low F - suc (suc F.fraction));
    m = 1;
    low = omega arith;
    small = omega (arith, pow_pos F.fraction);
    is = sym (pow-succ' 2 (F.emax + low F - suc (suc F.fraction))) ∙ sym (one-mul (2 ^ suc (F.emax + low F - suc (suc F.fraction))));
  }

  abbrev top-upper : Upper F.fraction 0 (limit F)
  top-upper = record {
    f = suc (suc j);
    m = 2 ^ suc F.fraction;
    low = omega arith;
    pos = pow_pos (suc F.fraction);
    above = λ h. omega (arith, pow_pos F.fraction);
    top = le_refl (2 ^ suc F.fraction);
    is = top-is;
  }

  -- no number of the format lies between it and the limit
  pub last-best : (m : ℕ) → Rep (suc F.fraction) 0 m → m < limit F → m ≤ last
  last-best m r h = le_trans (below-best top-upper m r h) (let z = four in omega (arith, last-add))

  module _ (ok : Proper F) where
    -- RNe is infinite from the edge on
    pub over-ge : (n : ℕ) → limit F ≤ to_even F (n * 2 ^ low F) → limit F ≤ n + 2 * edge_rest F
    over-ge n h =
        elim (dec_le (edge F) (n * 2 ^ low F)) [
          | yes g ↦ le_of_mul-le-mul_right {k = 2 ^ low F} (le_trans (le_of_eq (sym edge-is))
              (le_trans (let z : edge F + 2 * edge_rest F * 2 ^ low F ≤ n * 2 ^ low F + 2 * edge_rest F * 2 ^ low F = omega arith in z) (le_of_eq (sym (add-mul n (2 * edge_rest F) (2 ^ low F))))))
              (pow_pos (low F))
          | no g ↦ absurd (omega (arith, under-edge F ok ToEven (n * 2 ^ low F) (omega arith)))
        ]

    -- at the edge RN0 is the largest finite number, and twice `edge_rest` is left
    at_edge_lem : (s : Bool) (n : ℕ) → n + 2 * edge_rest F ≡ limit F → Split0 F s n last (finite s last) (finite s (2 * edge_rest F))
    at_edge_lem s n e =
        let x : n * 2 ^ low F ≡ edge F = omega (arith, add-mul n (2 * edge_rest F) (2 ^ low F), ap (λ (z : ℕ). z * 2 ^ low F) e, edge-is) in
        let less : to_zero F (n * 2 ^ low F) < limit F = zero-at-edge F ok (n * 2 ^ low F) (le_of_eq x) in
        let near = zero-at F n in
        let ge = near-ge near.near last-rep (omega (arith, last-add)) in
        let f : to_zero F (n * 2 ^ low F) ≡ last = le_antisymm (last-best (to_zero F (n * 2 ^ low F)) near.near.rep less) ge in
        let d : dist n last ≡ 2 * edge_rest F = omega (arith, last-add) in
        record { is = refl; near = rw (← f) near; fine = omega (arith, last-add, q-pos); error = rw d two-rep; rest = own s n e }
      where
        own : (s : Bool) (n : ℕ) → n + 2 * edge_rest F ≡ limit F → Rel s s (2 * edge_rest F) n last
        own false n e = omega (arith, last-add)
        own true n e = omega (arith, last-add)

    -- above it RN0 is infinite
    past-edge : (n : ℕ) → limit F < n + 2 * edge_rest F → limit F ≤ to_zero F (n * 2 ^ low F)
    past-edge n h =
        over-edge F ok ToZero (n * 2 ^ low F)
        (let z = mul-lt-mul_of_pos_right h (pow_pos (low F)) in omega (arith, add-mul n (2 * edge_rest F) (2 ^ low F), edge-is))

  -- ---- the half of the edge is a tie below 2 ^ emax, and ties to even goes up to it
  pub half-even : (n : ℕ) → n + edge_rest F ≡ half_limit F → to_even F (n * 2 ^ low F) ≡ half_limit F
  unfolding edge_rest j
  half-even n e =
      let i = F.emax + low F - suc (suc F.fraction) + low F in
      let D = 2 ^ suc F.fraction in
      let next-is : half_limit F * 2 ^ low F ≡ D * 2 ^ suc i =
      ap (λ (z : ℕ). z * 2 ^ low F) half_is ∙ mul_assoc D (2 ^ suc (F.emax + low F - suc (suc F.fraction))) (2 ^ low F)
      ∙ ap (λ (z : ℕ). D * z) (sym (pow-add 2 (suc (F.emax + low F - suc (suc F.fraction))) (low F)) ∙ ap (λ (z : ℕ). 2 ^ z) (suc-add (F.emax + low F - suc (suc F.fraction)) (low F)))
      in
      let rest-is : 2 ^ (F.emax + low F - suc (suc F.fraction)) * 2 ^ low F ≡ 2 ^ i = sym (pow-add 2 (F.emax + low F - suc (suc F.fraction)) (low F)) in
      let sum : n * 2 ^ low F + 2 ^ i ≡ D * 2 ^ suc i = omega (arith, add-mul n (2 ^ (F.emax + low F - suc (suc F.fraction))) (2 ^ low F), ap (λ (z : ℕ). z * 2 ^ low F) e, next-is, rest-is) in
      let tie-is : (D - 1) * 2 ^ suc i + 2 ^ i ≤ n * 2 ^ low F = omega
      (arith, sub-mul D 1 (2 ^ suc i), one-mul (2 ^ suc i), pow-succ' 2 i, sum, mul-le-mul_right (2 ^ suc i) (pow_pos (suc F.fraction))) in
      let ge = even_up F.fraction (low F) i (omega arith) (n * 2 ^ low F) tie-is in
      let up : half_limit F ≤ to_even F (n * 2 ^ low F) = le_of_mul-le-mul_right {k = 2 ^ low F} (le_trans (le_of_eq next-is) ge) (pow_pos (low F)) in
      le_antisymm (near_le (even-at F n) (half-rep F.fraction 0) (omega arith)) up
    where
      half-rep : (p l : ℕ) → Rep (suc F.fraction) 0 (half_limit F)
      half-rep p l = rw half_is (rep-pow F.fraction 0 (suc j) (omega arith))

  -- ---- the two factors
  pub kappa-is : (s : Bool) → mul_value F (kappa F) (finite s (half_limit F)) ≡ finite s last
  unfolding half_limit last j
  kappa-is s =
      let D = 2 ^ suc F.fraction in
      let k = suc (suc (F.emax + low F - suc (suc F.fraction))) in
      let x : 2 ^ (low F - F.fraction) * 2 ^ (F.emax + low F) ≡ 2 ^ k * 2 ^ low F =
      sym (pow-add 2 (low F - F.fraction) (F.emax + low F)) ∙ ap (λ (z : ℕ). 2 ^ z) (let z : low F - F.fraction + (F.emax + low F) ≡ k + low F = omega arith in z) ∙ pow-add 2 k (low F)
      in
      mul-positive F ((D - 1) * 2 ^ (low F - F.fraction)) s (2 ^ (F.emax + low F))
      ∙ ap (round_finite ToEven F s) (mul_assoc (D - 1) (2 ^ (low F - F.fraction)) (2 ^ (F.emax + low F)) ∙ ap (λ (z : ℕ). (D - 1) * z) x ∙ sym (mul_assoc (D - 1) (2 ^ k) (2 ^ low F)))
      ∙ round_whole ToEven F s last last-rep (omega (arith, last-add, q-pos))

  pub minus_is : (s : Bool) → mul_value F (minus_two F) (finite (not s) (edge_rest F)) ≡ finite s (2 * edge_rest F)
  minus_is s =
      mul-finite F true (2 ^ suc (low F)) (not s) (edge_rest F)
      ∙ ap₂ (λ (r : Bool) (z : ℕ). round_finite ToEven F r z) (sign s) (ap (λ (z : ℕ). z * edge_rest F) (pow-succ' 2 (low F)) ∙ mul_right_comm 2 (2 ^ low F) (edge_rest F))
      ∙ round_whole ToEven F s (2 * edge_rest F) two-rep (omega (arith, last-add, q-pos))
    where
      sign : (s : Bool) → unlike true (not s) ≡ s
      sign false = refl
      sign true = refl

  -- ---- the test, and the pair
  -- b is what is left of n units with the sign s when A of them are taken away
  module _ (s : Bool) (n A : ℕ) (b : Value) (i : Is s b n A) where
    abbrev pub at_edge : Bool
    at_edge = same (finite s A) (finite s (half_limit F)) && same b (finite (not s) (edge_rest F))

    test-true : T at_edge → (A ≡ half_limit F) × (n + edge_rest F ≡ half_limit F)
    test-true t =
        let c = and_both (same (finite s A) (finite s (half_limit F))) (same b (finite (not s) (edge_rest F))) t in
        let x : A + 0 ≡ half_limit F + 0 = same-eq s (finite s A) (finite s (half_limit F)) A 0 (half_limit F) 0 (rel-own s A) (rel-own s (half_limit F)) c.0 in
        let y : n + edge_rest F ≡ 0 + A = same-eq s b (finite (not s) (edge_rest F)) n A 0 (edge_rest F) i (rel-other s (edge_rest F)) c.1 in
        (omega arith, omega arith)

    test-make : A ≡ half_limit F → n + edge_rest F ≡ half_limit F → T at_edge
    test-make x y =
        and-make (same (finite s A) (finite s (half_limit F))) (same b (finite (not s) (edge_rest F)))
        (eq-same s (finite s A) (finite s (half_limit F)) A 0 (half_limit F) 0 (rel-own s A) (rel-own s (half_limit F)) (omega arith))
        (eq-same s b (finite (not s) (edge_rest F)) n A 0 (edge_rest F) i (rel-other s (edge_rest F)) (omega arith))

  -- a number below what is taken from it leaves a value of the other sign
  below-is : (s : Bool) (b : Value) (n A : ℕ) → Is s b n A → n < A → b ≡ finite (not s) (A - n)
  below-is s nan n A i h = absurd i
  below-is s (infinite t) n A i h = absurd i
  below-is s (finite t m) n A i h =
      let d = rel-dist s t m n A i in
      ap₂ (λ (r : Bool) (k : ℕ). finite r k) (other-side s t m n A i h) (omega arith)

  module _ (ok : Proper F) (s : Bool) (n : ℕ) (b : Value) (over : limit F ≤ to_even F (2 * n * 2 ^ low F)) (i : Is s b n (to_even F (n * 2 ^ low F))) where
    abbrev A : ℕ
    A = to_even F (n * 2 ^ low F)

    pub edge-pair : (cond (at_edge s n A b i) (mul_value F (kappa F) (finite s A)) (infinite s) ≡ (pair_of F (finite s (2 * n * 2 ^ low F))).first)
        × (cond (at_edge s n A b i) (mul_value F (minus_two F) b) (infinite s) ≡ (pair_of F (finite s (2 * n * 2 ^ low F))).second)
    edge-pair = go (at_edge s n A b i) (test-true s n A b i) (λ (e : n + edge_rest F ≡ half_limit F). test-make s n A b i (half-even n e) e)
      where
        go : (c : Bool) → (T c → (A ≡ half_limit F) × (n + edge_rest F ≡ half_limit F)) → (n + edge_rest F ≡ half_limit F → T c)
            → (cond c (mul_value F (kappa F) (finite s A)) (infinite s) ≡ (pair_of F (finite s (2 * n * 2 ^ low F))).first)
            × (cond c (mul_value F (minus_two F) b) (infinite s) ≡ (pair_of F (finite s (2 * n * 2 ^ low F))).second)
        go true x y =
            let k = x tt in
            let h = at_edge_lem ok s (2 * n) (omega (arith, k.1, limit-twice)) in
            let e : b ≡ finite (not s) (edge_rest F) = below-is s b n A i (omega (arith, k.0, k.1, q-pos)) ∙ ap (finite (not s)) (omega (arith, k.0, k.1)) in
            let z : eqb (2 * edge_rest F) 0 ≡ false = ne_eqb (2 * edge_rest F) 0 (λ (w : 2 * edge_rest F ≡ 0). omega (arith, q-pos)) in (
              ap (λ (m : ℕ). mul_value F (kappa F) (finite s m)) k.0 ∙ kappa-is s ∙ finished-first F s (2 * n) last (finite s last) (finite s (2 * edge_rest F)) h,
              ap (mul_value F (minus_two F)) e ∙ minus_is s ∙ (rw z at (finished-second F s (2 * n) last (finite s last) (finite s (2 * edge_rest F)) h)),
            )
        go false x y =
            let past : limit F < 2 * n + 2 * edge_rest F = elim (dec_le (2 * n + 2 * edge_rest F) (limit F)) [
              | yes k ↦ absurd (y (omega (arith, over-ge ok (2 * n) over, limit-twice)))
              | no k ↦
                  omega arith
            ] in
            let inf = past-edge ok (2 * n) past in
            (sym (first-infinite F s (2 * n * 2 ^ low F) inf), sym (second-infinite F s (2 * n * 2 ^ low F) inf))
