-- What `compare` says of two numbers, and which of the three cases holds.
use mathlib.Core.Path.{◌≡◌, refl, ap, sym, ◌∙◌, subst}
use mathlib.Core.Logic.{◌⊎◌, inl, inr}
use mathlib.Core.Bool.{not}
use Prim.Native.Nat.{ℕ, ◌*◌, ◌≤◌, ◌<◌, compare, Ordering}
use native.Mathlib.Nat.{mul-lt-mul_of_pos_right}
use native.Mathlib.Omega.{arith}
use lib.Arith.{lt_of_le-ne}
use lib.Dec.{T, is_le, compare_is_eq, eqb, leb→le, nleb→lt, eqb→eq, eqb_refl}

eqb_of : {a b : ℕ} → a ≡ b → T (eqb a b)
eqb_of {a} e = subst (λ (x : ℕ). T (eqb a x)) e (eqb_refl a)

pub tri : (a b : ℕ) → (a < b) ⊎ ((a ≡ b) ⊎ (b < a))
tri a b = go (compare a b) (leb→le a b) (nleb→lt a b) (eqb→eq a b) (λ (e : a ≡ b). eqb_of e)
  where
    go : (o : Ordering) → (T (is_le o) → a ≤ b) → (T (not (is_le o)) → b < a) → (T (compare_is_eq o) → a ≡ b) → (a ≡ b → T (compare_is_eq o)) → (a < b) ⊎ ((a ≡ b) ⊎ (b < a))
    go Ordering.lt h k e n = inl (lt_of_le-ne (h tt) n)
    go Ordering.eq h k e n = inr (inl (e tt))
    go Ordering.gt h k e n = inr (inr (k tt))

pub cmp-lt : (a b : ℕ) → a < b → compare a b ≡ Ordering.lt
cmp-lt a b h = go (compare a b) (nleb→lt a b) (eqb→eq a b)
  where
    go : (o : Ordering) → (T (not (is_le o)) → b < a) → (T (compare_is_eq o) → a ≡ b) → o ≡ Ordering.lt
    go Ordering.lt k e = refl
    go Ordering.eq k e = let q = e tt in absurd (omega arith)
    go Ordering.gt k e = let q = k tt in absurd (omega arith)

pub cmp-eq : (a b : ℕ) → a ≡ b → compare a b ≡ Ordering.eq
cmp-eq a b h = go (compare a b) (eqb_of h)
  where
    go : (o : Ordering) → T (compare_is_eq o) → o ≡ Ordering.eq
    go Ordering.lt e = absurd e
    go Ordering.eq e = refl
    go Ordering.gt e = absurd e

pub cmp-gt : (a b : ℕ) → b < a → compare a b ≡ Ordering.gt
cmp-gt a b h = go (compare a b) (leb→le a b)
  where
    go : (o : Ordering) → (T (is_le o) → a ≤ b) → o ≡ Ordering.gt
    go Ordering.lt k = let q = k tt in absurd (omega arith)
    go Ordering.eq k = let q = k tt in absurd (omega arith)
    go Ordering.gt k = refl

pub cmp-scale : (a b c : ℕ) → 0 < c → compare (a * c) (b * c) ≡ compare a b
cmp-scale a b c p =
    elim (tri a b) [
      | inl h ↦ cmp-lt (a * c) (b * c) (mul-lt-mul_of_pos_right h p) ∙ sym (cmp-lt a b h)
      | inr o ↦ elim o [
        | inl h ↦ cmp-eq (a * c) (b * c) (ap (λ (x : ℕ). x * c) h) ∙ sym (cmp-eq a b h)
        | inr h ↦ cmp-gt (a * c) (b * c) (mul-lt-mul_of_pos_right h p) ∙ sym (cmp-gt a b h)
      ]
    ]
