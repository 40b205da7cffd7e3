-- A product that is small, but not among the smallest: one factor is scaled up, the product is split, and the pair is scaled down again.
use mathlib.Core.Path.{◌≡◌, refl, sym, ap, ap₂, ◌∙◌, subst}
use mathlib.Core.Logic.{◌≢◌, inl, inr}
use mathlib.Core.Bool.{Bool, true, false, not, cond, ◌&&◌}
use Prim.Native.Nat.{ℕ, suc, ◌+◌, ◌*◌, ◌^◌, ◌≤◌, ◌<◌}
use native.Mathlib.Nat.{le_trans, le_of_eq, lt_of_le_of_lt, mul_comm, mul_assoc, mul_right_comm, mul-zero, mul-pos, zero-add, add_comm, pow-succ', mul-le-mul_right, le-mul_of_pos_right}
use native.Mathlib.Nat.{eq_of_mul-eq-mul_right, eq-zero-or-pos}
use native.Mathlib.Decide.{dec_le}
use native.Mathlib.Omega.{arith}
use lib.Dec.{ltb}
use lib.Ieee.{unlike}
use lib.Pow.{pow-add, pow_pos, pow-lt}
use Rattle.rounding_spec.specs.declared.Ties.TheVariants.{ToEven, ToZero}
use Rattle.rounding_spec.specs.Format.{Format, low, limit}
use Rattle.rounding_spec.specs.Round.{rounded_up}
use Rattle.rounding_spec.specs.Nearest.{dist, Rep, Near0}
use Rattle.rounding_spec.specs.Value.{Value, nan, infinite, finite, is_zero}
use Rattle.rounding_spec.proofs.NearLaws.{near-exact, near0-one}
use Rattle.rounding_spec.proofs.Representable.{rep_zero}
use Rattle.rounding_spec.proofs.Rounded.{rounded-near0}
use Rattle.rounding_spec.proofs.RoundValue.{round-below}
use Rattle.rounding_spec.proofs.Scaled.{rep-up, rounded-rep, rep-shift}
use Rattle.rounding_spec.proofs.Rescaled.{dist-mul, near0-up, near0-raise}
use Rattle.rounding_spec.proofs.TieDown.{error-le}
use Rattle.pattern_spec.specs.Exact.{negate}
use Rattle.binary32_spec.specs.Steps.{sub_value, mul_value, fma_value}
use Rattle.augmented_spec.specs.Pairs.{pair_of}
use Rattle.augmented_spec.proofs.Second.{tail, first-finite}
use Rattle.pattern_spec.specs.Comparisons.{same}
use Rattle.errorfree_spec.specs.Constants.{Roomy}
use Rattle.errorfree_spec.proofs.Factors.{scale, unscale, zero}
use Rattle.errorfree_spec.proofs.Signed.{Rel, Is, rel-dist}
use Rattle.errorfree_spec.proofs.Steps.{to_even, to_zero, mul-finite}
use Rattle.errorfree_spec.proofs.Split.{Split, Split0, zero-finish, side-of, ltb-scale}
use Rattle.errorfree_spec.proofs.ProductSplit.{whole, product-split}
use Rattle.errorfree_spec.proofs.Powers.{pow-le-of, pow-ge-of, up_step, down_step}
use Rattle.errorfree_spec.proofs.MiddleSecond.{stepped, small, scaled-down, stepped-is, stepped-nonzero}

-- the product of a and b with the sign r, 2 ^ suc F.fraction times larger, is n units of u, and a' and b' are what it is split into
pub record Scaled (F : Format) (a b : ℕ) (r : Bool) (a' b' : Value) : Type 0 where
  pub n : ℕ
  pub A : ℕ
  pub product : a * b * 2 ^ suc F.fraction ≡ n * 2 ^ low F
  pub is : a' ≡ finite r A
  pub split : Split F r n A b'

-- c is finite, of the sign t; stepped down where it is a tie that went up, and finished, it is the second of the pair of N
pub record Finished (F : Format) (s : Bool) (N : ℕ) (first c r : Value) : Type 0 where
  pub t : Bool
  pub e : ℕ
  pub is : c ≡ finite t e
  pub finished : cond (is_zero (stepped F t c r)) (mul_value F zero (mul_value F (unscale F) first)) (stepped F t c r) ≡ (pair_of F (finite s N)).second
  -- what was stepped down is no zero
  pub nonzero : not (is_zero c) && same r (finite t (2 ^ F.fraction)) ≡ true → is_zero (stepped F t c r) ≡ false

-- m with the sign u is q where t counts as plus
own_sign : (t u : Bool) (m q : ℕ) → Rel t u m q 0 → (m ≡ q) × (m ≢ 0 → u ≡ t)
own_sign false false m q h = (omega arith, λ z. refl)
own_sign true true m q h = (omega arith, λ z. refl)
own_sign false true m q h = (omega arith, λ z. absurd (z (omega arith)))
own_sign true false m q h = (omega arith, λ z. absurd (z (omega arith)))

module _ (F : Format) (room : Roomy F) (a b : ℕ) (ar : Rep (suc F.fraction) 0 a) (br : Rep (suc F.fraction) 0 b)
    (lo : 2 ^ suc F.fraction ≤ to_even F (a * b)) (hi : to_even F (a * b) ≤ 2 ^ suc (F.fraction + F.fraction)) where
  abbrev K : ℕ
  K = suc F.fraction

  abbrev U : ℕ
  U = 2 ^ low F

  wide : K ≤ low F
  wide = omega arith

  pub lower : 2 ^ F.fraction * U ≤ a * b
  lower = elim (dec_le (2 ^ F.fraction * U) (a * b)) [ yes g ↦ g | no g ↦ absurd (omega (arith, pow-le-of F (a * b) F.fraction (omega arith), pow_pos F.fraction)) ]

  higher : a * b ≤ 2 ^ suc (suc (F.fraction + F.fraction)) * U
  higher =
      elim (dec_le (a * b) (2 ^ suc (suc (F.fraction + F.fraction)) * U)) [
        | yes g ↦ g
        | no g ↦ absurd (omega (
          arith,
          pow-ge-of F (a * b) (suc (suc (F.fraction + F.fraction))) (omega arith),
          pow-succ' 2 (suc (F.fraction + F.fraction)),
          pow_pos (suc (F.fraction + F.fraction)),
        ))
      ]

  -- ---- the scaled product
  moved : a * 2 ^ K * b ≡ a * b * 2 ^ K
  moved = mul_right_comm a (2 ^ K) b

  scaled-high : a * b * 2 ^ K ≤ 2 ^ (K + K + K) * U
  scaled-high =
      le_trans (mul-le-mul_right (2 ^ K) higher)
      (le_of_eq (mul_right_comm (2 ^ suc (suc (F.fraction + F.fraction))) U (2 ^ K)
      ∙ ap (λ (z : ℕ). z * U) (sym (pow-add 2 (suc (suc (F.fraction + F.fraction))) K)
      ∙ ap (λ (z : ℕ). 2 ^ z) (let z : suc (suc (F.fraction + F.fraction)) + K ≡ K + K + K = omega arith in z))))

  top_fine : 2 ^ (K + K + K) * U < limit F
  unfolding limit
  top_fine = lt_of_le_of_lt (le_of_eq (sym (pow-add 2 (K + K + K) (low F)))) (pow-lt (let z : K + K + K + low F < suc F.emax + low F = omega arith in z))

  b-pos : 0 < b
  b-pos = elim (eq-zero-or-pos b) [ inl z ↦ absurd (omega (arith, lower, ap (λ (z : ℕ). a * z) z ∙ mul-zero a, mul-pos (pow_pos F.fraction) (pow_pos (low F)))) | inr z ↦ z ]

  pub factor-fine : a * 2 ^ K < limit F
  factor-fine = lt_of_le_of_lt (le_trans (le-mul_of_pos_right (a * 2 ^ K) b-pos) (le_trans (le_of_eq moved) scaled-high)) top_fine

  pub factor-rep : Rep K 0 (a * 2 ^ K)
  factor-rep = rep-shift K ar

  pub big : 2 ^ suc (F.fraction + F.fraction) * U ≤ a * 2 ^ K * b
  big =
      le_trans (le_of_eq (ap (λ (z : ℕ). z * U) (ap (λ (z : ℕ). 2 ^ z) (let z : suc (F.fraction + F.fraction) ≡ F.fraction + K = omega arith in z) ∙ pow-add 2 F.fraction K)
      ∙ mul_right_comm (2 ^ F.fraction) (2 ^ K) U))
      (le_trans (mul-le-mul_right (2 ^ K) lower) (le_of_eq (sym moved)))

  pub fine : to_even F (a * 2 ^ K * b) < limit F
  fine = lt_of_le_of_lt (le_trans (pow-le-of F (a * 2 ^ K * b) (K + K + K) (le_trans (le_of_eq moved) scaled-high)) (le-mul_of_pos_right (2 ^ (K + K + K)) (pow_pos (low F)))) top_fine

  -- one factor scaled up, and the scaled product split
  pub middle-split : (s t : Bool) (m a' b' : Value) → m ≡ mul_value F (scale F) (finite s a) → a' ≡ mul_value F m (finite t b) → b' ≡ fma_value F m (finite t b) (negate a')
      → Scaled F a b (unlike s t) a' b'
  middle-split s t m a' b' m-eq a-eq b-eq =
      let A = to_even F (a * 2 ^ K * b) in
      let w = whole F (a * 2 ^ K) b factor-rep br big in
      let m-is : m ≡ finite s (a * 2 ^ K) = m-eq ∙ up_step F s a K factor-rep factor-fine in
      let a-is : a' ≡ finite (unlike s t) A = a-eq ∙ ap (λ (v : Value). mul_value F v (finite t b)) m-is ∙ mul-finite F s (a * 2 ^ K) t b ∙ round-below ToEven F (unlike s t) (a * 2 ^ K * b) fine in
      let b-is : b' ≡ fma_value F (finite s (a * 2 ^ K)) (finite t b) (negate (finite (unlike s t) A)) = b-eq ∙ ap₂ (λ (v w : Value). fma_value F v (finite t b) (negate w)) m-is a-is in
      record {
        n = w.0;
        A = A;
        product = sym moved ∙ w.1;
        is = a-is;
        split = rw b-is (product-split F (a * 2 ^ K) b factor-rep br big s t fine);
      }

  -- ---- the pair with ties to zero of the scaled product, scaled down again
  module _ (s : Bool) (n f : ℕ) (first second : Value) (product : a * b * 2 ^ K ≡ n * U) (h : Split0 F s n f first second) where
    abbrev head : ℕ
    head = to_zero F (a * b)

    -- far from the lowest exponent, rounding and scaling can change places
    pub scaled-head : f ≡ head * 2 ^ K
    scaled-head =
        let x : Near0 K (low F + K) (a * b * 2 ^ K) (head * U * 2 ^ K) = near0-up K (rounded-near0 F.fraction (low F) (a * b)) in
        let y0 : Near0 K (low F) (n * U) (f * U) = rw zero-add at (near0-up (low F) h.near) in
        let y : Near0 K (low F + K) (n * U) (f * U) =
        near0-raise (low F + K) (let z : low F ≤ low F + K = omega arith in z)
        (le_trans (le_of_eq (ap (λ (z : ℕ). 2 ^ F.fraction * z) (pow-add 2 (low F) K) ∙ sym (mul_assoc (2 ^ F.fraction) U (2 ^ K)))) (le_trans (mul-le-mul_right (2 ^ K) lower) (le_of_eq product)))
        y0 in
        eq_of_mul-eq-mul_right U (pow_pos (low F)) f (head * 2 ^ K) (near0-one y (subst (λ (z : ℕ). Near0 K (low F + K) z (head * U * 2 ^ K)) product x) ∙ mul_right_comm head U (2 ^ K))

    head-rep : Rep K 0 head
    head-rep = rounded-rep ToZero F.fraction (low F) (a * b)

    head-fine : head < limit F
    head-fine = lt_of_le_of_lt (le-mul_of_pos_right head (pow_pos K)) (lt_of_le_of_lt (le_of_eq (sym scaled-head)) h.fine)

    pub first-is : mul_value F (unscale F) first ≡ finite s head
    first-is = ap (mul_value F (unscale F)) (h.is ∙ ap (finite s) scaled-head) ∙ down_step F wide s head head-rep head-fine

    pub middle-first : mul_value F (unscale F) first ≡ (pair_of F (finite s (a * b))).first
    middle-first = first-is ∙ sym (first-finite F s (a * b) head-fine)

    scaled : head * U * 2 ^ K ≡ f * U
    scaled = mul_right_comm head U (2 ^ K) ∙ ap (λ (z : ℕ). z * U) (sym scaled-head)

    -- the left-over of the product is on the side of the scaled one's
    side-is : ltb n f ≡ rounded_up ToZero F.fraction (low F) (a * b)
    side-is = sym (ltb-scale n f U (pow_pos (low F))) ∙ ap₂ ltb (sym product) (sym scaled) ∙ ltb-scale (a * b) (head * U) (2 ^ K) (pow_pos K)

    tail-is : (d q : ℕ) → d ≡ dist n f → Near0 K K d (q * 2 ^ K) → q ≡ tail F s (a * b)
    tail-is d q e near =
        let X = dist (head * U) (a * b) in
        let R = to_zero F X in
        let x : Near0 K (low F + K) (X * 2 ^ K) (R * U * 2 ^ K) = near0-up K (rounded-near0 F.fraction (low F) X) in
        let y : Near0 K (K + low F) (d * U) (q * 2 ^ K * U) = near0-up (low F) near in
        let k : X * 2 ^ K ≡ d * U = sym (dist-mul (head * U) (a * b) (2 ^ K)) ∙ ap₂ dist scaled product ∙ dist-mul f n U ∙ ap (λ (z : ℕ). z * U) (let z : dist f n ≡ d = omega arith in z) in
        let y' : Near0 K (low F + K) (X * 2 ^ K) (q * 2 ^ K * U) = rw (k, add_comm (low F) K) y in
        sym (eq_of_mul-eq-mul_right (U * 2 ^ K) (mul-pos (pow_pos (low F)) (pow_pos K)) R q
        (sym (mul_assoc R U (2 ^ K)) ∙ near0-one x y' ∙ mul_assoc q (2 ^ K) U ∙ ap (λ (z : ℕ). q * z) (mul_comm (2 ^ K) U)))

    -- a finished second of the sign t, that of a left-over which is not zero where it is not
    finish : (t : Bool) (d q : ℕ) (v : Value) → Rel s t d n f → Near0 K K d (q * 2 ^ K) → Is t v q 0 → cond (is_zero v) (mul_value F zero (finite s head)) v ≡ (pair_of F (finite s (a * b))).second
    finish t d q nan rel near i = absurd i
    finish t d q (infinite u) rel near i = absurd i
    finish t d q (finite u m) rel near i =
        let o = own_sign t u m q i in
        let some : m ≢ 0 → d ≢ 0 =
        λ z k. z (o.0 ∙ nothing (near-exact (subst (λ (x : ℕ). Near0 K K x (q * 2 ^ K)) k near).near rep_zero)) in
        zero-finish F s (a * b) head-fine u m (o.0 ∙ tail-is d q (rel-dist s t d n f rel) near) (λ z. o.1 z ∙ side-of s t d n f rel (some z) ∙ ap (unlike s) side-is)
      where
        nothing : q * 2 ^ K ≡ 0 → q ≡ 0
        nothing e = omega (arith, le-mul_of_pos_right q (pow_pos K))

    -- second is a number of the format, and not more than first, which is still one when it is scaled down
    pub second-sizes : (t : Bool) (d : ℕ) → Is s (finite t d) n f → Rep K 0 d × Rep K K f × (d ≤ f)
    second-sizes t d rel =
        let e : d ≡ dist n f = rel-dist s t d n f rel in
        (rw e h.error, rw scaled-head (rw zero-add at (rep-up K head-rep)), omega (arith, error-le h.near.near))

    -- c is second scaled down, g is c scaled up again, and r what that is off by
    pub middle-second : (c g r : Value) → c ≡ mul_value F (unscale F) second → g ≡ mul_value F (scale F) c → r ≡ sub_value F g second → Finished F s (a * b) first c r
    middle-second c g r = go second h.rest
      where
        go : (v : Value) → Is s v n f → c ≡ mul_value F (unscale F) v → g ≡ mul_value F (scale F) c → r ≡ sub_value F g v → Finished F s (a * b) first c r
        go nan rel c-is g-is r-is = absurd rel
        go (infinite t) rel c-is g-is r-is = absurd rel
        go (finite t d) rel c-is g-is r-is =
            let o = second-sizes t d rel in
            let w = stepped-is F wide t d o.0 f o.1 o.2 h.fine c g r c-is g-is r-is in
            record {
              t = t;
              e = small F wide t d o.0 f o.1 o.2 h.fine;
              is = scaled-down F wide t d o.0 f o.1 o.2 h.fine c g r c-is g-is r-is;
              finished = rw first-is (finish t d w.0 (stepped F t c r) rel w.2 w.1);
              nonzero = stepped-nonzero F wide t d o.0 f o.1 o.2 h.fine c g r c-is g-is r-is;
            }
