-- A tie between the largest significand and the next power of two, and which numbers lie above it.
-- With the last place 2 ^ suc j, `last` is the largest significand of suc f digits there, `next` the number behind it, and `tie` is halfway.
use mathlib.Core.Path.{◌≡◌, sym, ap, ◌∙◌}
use Prim.Native.Nat.{ℕ, suc, ◌+◌, ◌-◌, ◌*◌, ◌%◌, ◌^◌, ◌≤◌, ◌<◌}
use native.Mathlib.Nat.{le_of_eq, le_trans, mul-le-mul_right, suc-mul, pow-succ'}
use native.Mathlib.Decide.{dec_le}
use native.Mathlib.Omega.{arith}
use lib.Arith.{digits_div, digits_mod}
use lib.Pow.{pow-add, pow_pos, pow-lt}
use Rattle.rounding_spec.specs.declared.Ties.{Ties}
use Rattle.rounding_spec.specs.declared.Ties.TheVariants.{ToEven, ToZero}
use Rattle.rounding_spec.specs.Round.{tied, keep, last_place, rounded}
use Rattle.rounding_spec.specs.Nearest.{Rep, Near}
use Rattle.rounding_spec.proofs.LastPlace.{place_is}
use Rattle.rounding_spec.proofs.Keep.{keep-eq}
use Rattle.rounding_spec.proofs.Representable.{rep-pow, rep-le, rep-unit}
use Rattle.rounding_spec.proofs.NearLaws.{near_le, near-ge}
use Rattle.rounding_spec.proofs.Rounded.{rounded-keep, rounded-mono}

module _ (f j : ℕ) where
  abbrev pub last : ℕ
  last = (2 ^ suc f - 1) * 2 ^ suc j

  abbrev pub next : ℕ
  next = 2 ^ suc f * 2 ^ suc j

  abbrev pub tie : ℕ
  tie = (2 ^ suc f - 1) * 2 ^ suc j + 2 ^ j

pub last-next : (f j : ℕ) → last f j + 2 * 2 ^ j ≡ next f j
last-next f j =
    let p : 2 ^ suc j ≡ 2 * 2 ^ j = pow-succ' 2 j in
    let q : 2 ^ suc f ≡ suc (2 ^ suc f - 1) = omega (arith, pow_pos (suc f)) in
    sym (ap (λ (x : ℕ). x * 2 ^ suc j) q ∙ suc-mul (2 ^ suc f - 1) (2 ^ suc j) ∙ omega arith)

module _ (f L j : ℕ) (le : L ≤ suc j) where
  rep-last : Rep (suc f) L (last f j)
  rep-last = rep-le f L (2 ^ suc f - 1) (suc j) le (omega arith)

  rep_next : Rep (suc f) L (next f j)
  rep_next = rep-pow f L (suc j) le

  -- nothing lies between the two
  no-between : (m : ℕ) → Rep (suc f) L m → last f j < m → next f j ≤ m
  no-between m r h =
      let P = 2 ^ suc f in
      let K = 2 ^ suc j in
      let low : 2 ^ f * K ≤ m = le_trans (mul-le-mul_right K (let z : 2 ^ f ≤ P - 1 = omega (arith, pow_pos f, pow-succ' 2 f) in z)) (let z : last f j ≤ m = omega arith in z) in
      let c = rep-unit {k = suc j} r (λ g. low) in
      elim (dec_le P c.0) [
        | yes g ↦ le_trans (mul-le-mul_right K g) (le_of_eq (sym c.1))
        | no g ↦ absurd (omega (arith, c.1, mul-le-mul_right K (let z : c.0 ≤ P - 1 = omega arith in z)))
      ]

  -- ---- below and above the tie both rules agree
  pub below-tie : {N a : ℕ} → Near (suc f) L N a → N < tie f j → a ≤ last f j
  below-tie {N} {a} h g =
      elim (dec_le N (last f j)) [
        | yes b ↦ near_le h rep-last b
        | no b ↦
            let c = h.best (last f j) rep-last in
            elim (dec_le a (last f j)) [ yes k ↦ k | no k ↦ absurd (omega (arith, no-between a h.rep (omega arith), last-next f j)) ]
      ]

  pub above-tie : {N a : ℕ} → Near (suc f) L N a → tie f j < N → next f j ≤ a
  above-tie {N} {a} h g =
      elim (dec_le (next f j) N) [
        | yes b ↦ near-ge h rep_next b
        | no b ↦
            let c = h.best (next f j) rep_next in
            elim (dec_le a (last f j)) [ yes k ↦ absurd (omega (arith, last-next f j)) | no k ↦ no-between a h.rep (omega arith) ]
      ]

  -- ---- at the tie
  place-tie : last_place f L (tie f j) ≡ suc j
  place-tie =
      let up : tie f j < 2 ^ (suc f + suc j) = rw (pow-add 2 (suc f) (suc j)) (omega (arith, last-next f j, pow_pos j)) in
      let down : L < suc j → 2 ^ (f + suc j) ≤ tie f j = λ g.
      rw (pow-add 2 f (suc j)) (let z = mul-le-mul_right (2 ^ suc j) (let z : 2 ^ f ≤ 2 ^ suc f - 1 = omega (arith, pow_pos f, pow-succ' 2 f) in z) in omega arith)
      in
      place_is f L (suc j) (tie f j) le up down

  at-tie : (t : Ties) → rounded t f L (tie f j) * 2 ^ L ≡ tied t (2 ^ suc f - 1) * 2 ^ suc j
  at-tie t =
      let lt : 2 ^ j < 2 ^ suc j = pow-lt (omega arith) in
      let half : 2 * (tie f j % 2 ^ suc j) ≡ 2 ^ suc j = ap (λ (x : ℕ). 2 * x) (digits_mod (2 ^ suc f - 1) lt) ∙ sym (pow-succ' 2 j) in
      let k : keep t (suc j) (tie f j) ≡ tied t (2 ^ suc f - 1) = keep-eq t (suc j) (tie f j) half ∙ ap (tied t) (digits_div (2 ^ suc f - 1) lt) in
      rounded-keep t f L (tie f j) ∙ ap (λ (x : ℕ). keep t x (tie f j) * 2 ^ x) place-tie ∙ ap (λ (x : ℕ). x * 2 ^ suc j) k

  odd-last : tied ToEven (2 ^ suc f - 1) ≡ 2 ^ suc f
  odd-last = let p = pow-succ' 2 f in let q = pow_pos f in omega arith

  -- ties to even: up from the tie on
  pub even_up : (N : ℕ) → tie f j ≤ N → next f j ≤ rounded ToEven f L N * 2 ^ L
  even_up N h =
      let m = mul-le-mul_right (2 ^ L) (rounded-mono ToEven f L (tie f j) N h) in
      omega (arith, at-tie ToEven, ap (λ (x : ℕ). x * 2 ^ suc j) odd-last)

  -- ties to the smaller magnitude: down up to the tie
  pub zero-down : (N : ℕ) → N ≤ tie f j → rounded ToZero f L N * 2 ^ L ≤ last f j
  zero-down N h =
      let m = mul-le-mul_right (2 ^ L) (rounded-mono ToZero f L N (tie f j) h) in
      omega (arith, at-tie ToZero)
