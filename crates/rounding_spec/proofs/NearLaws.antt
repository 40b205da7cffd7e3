-- What follows from being nearest: exact on representable numbers, within bounds, a multiple, monotone, and where the two tie rules part.
use mathlib.Core.Path.{◌≡◌, sym}
use mathlib.Core.Logic.{◌⊎◌, inl, inr}
use Prim.Native.Nat.{ℕ, suc, ◌+◌, ◌*◌, ◌^◌, ◌≤◌, ◌<◌}
use native.Mathlib.Decide.{dec_le}
use native.Mathlib.Omega.{arith}
use Rattle.rounding_spec.specs.Nearest.{dist, Rep, Near, Near0}
use Rattle.rounding_spec.proofs.Multiple.{Mult, mult-down}
use Rattle.rounding_spec.proofs.Representable.{rep-mult, rep-pow, rep-lt, rep-top}

pub near-exact : {p l n a : ℕ} → Near p l n a → Rep p l n → a ≡ n
near-exact {n = n} {a = a} h r = omega (arith, h.best n r)

pub near-ge : {p l n a : ℕ} → Near p l n a → {m : ℕ} → Rep p l m → m ≤ n → m ≤ a
near-ge h {m} r g = omega (arith, h.best m r)

pub near_le : {p l n a : ℕ} → Near p l n a → {m : ℕ} → Rep p l m → n ≤ m → a ≤ m
near_le h {m} r g = omega (arith, h.best m r)

-- a multiple of 2 ^ g is rounded to a multiple of 2 ^ g
pub near-mult : {p l n a : ℕ} (g : ℕ) → Near (suc p) l n a → Mult g n → Mult g a
near-mult {p} {l} {n} {a} g h c =
    let r = h.rep in
    elim (dec_le g r.e) [
      | yes k ↦ mult-down a k (rep-mult r)
      | no k ↦ elim (dec_le (2 ^ suc p * 2 ^ r.e) n) [
        | yes b ↦ absurd (omega (arith, near-ge h (rep-pow p l r.e r.low) b, rep-top r))
        | no b ↦ rw (near-exact h (rep-lt r.e n r.low (mult-down n (omega arith) c) (omega arith))) c
      ]
    ]

-- the nearest number with ties to the smaller one is unique
pub near0-one : {p l n a b : ℕ} → Near0 p l n a → Near0 p l n b → a ≡ b
near0-one {n = n} {a = a} {b = b} h k =
    let x = h.near.best b k.near.rep in
    let y = k.near.best a h.near.rep in
    let e : dist b n ≡ dist a n = omega arith in
    omega (arith, h.tie b k.near.rep e, k.tie a h.near.rep (sym e))

-- the two tie rules agree, or n is halfway and the other rule went up
pub near-near0 : {p l n a b : ℕ} → Near p l n a → Near0 p l n b → (a ≡ b) ⊎ ((n < a) × (b + a ≡ 2 * n))
near-near0 {n = n} {a = a} {b = b} h k =
    let x = h.best b k.near.rep in
    let y = k.near.best a h.rep in
    let z = k.tie a h.rep (omega arith) in
    elim (dec_le a b) [ yes g ↦ inl (omega arith) | no g ↦ inr (omega arith, omega arith) ]

-- ---- order
mid-up : (a b n : ℕ) → n < a → b < n → dist a n ≤ dist b n → a + b ≤ 2 * n
mid-up a b n x y c = omega arith

mid-down : (a b n : ℕ) → n < a → b < n → dist b n ≤ dist a n → 2 * n ≤ a + b
mid-down a b n x y c = omega arith

halfway : (a b n m : ℕ) → n ≤ m → a + b ≤ 2 * n → 2 * m ≤ a + b → n ≡ m
halfway a b n m w e f = omega arith

-- a nearest number of n is not above one of a larger m, or n and m are one number
pub near-order : {p l n m a b : ℕ} → n ≤ m → Near p l n a → Near p l m b → (a ≤ b) ⊎ (n ≡ m)
near-order {n = n} {m = m} {a = a} {b = b} h x y =
    elim (dec_le a b) [
      | yes g ↦ inl g
      | no g ↦ elim (dec_le a m) [
        | yes k ↦ inl (near-ge y x.rep k)
        | no k ↦ elim (dec_le n b) [
          | yes j ↦ inl (near_le x y.rep j)
          | no j ↦
              let u = mid-up a b n (omega arith) (omega arith) (x.best b y.rep) in
              let v = mid-down a b m (omega arith) (omega arith) (y.best a x.rep) in
              inr (halfway a b n m h u v)
        ]
      ]
    ]
