-- Which lists are allowed, call by call.
use mathlib.Core.Path.{◌≡◌, refl}
use mathlib.Core.Logic.{◌⊎◌, ◌↔◌, inl, inr}
use mathlib.Core.Bool.{Bool, true, false, ◌&&◌}
use mathlib.Core.List.{List, [], ◌∷◌, ◌++◌}
use Prim.Native.Nat.{◌^◌, ◌<◌}
use Rattle.accumulator_spec.specs.Totals.{most_terms, count, Term, of_pattern, of_product, finite_operands}
use Rattle.conservation_spec.specs.Lists.{Posed, Totals, Side, total_on, Event, asks, reads, adds, after_event, after_events}
use Rattle.conservation_spec.specs.Theorems.{AllowedNow, Allowed, AllowedNext}

-- ---- one call
pub asks-allowed : (t : Totals) (q : Posed) → (q.x < 2 ^ 32) × (q.y < 2 ^ 32) → AllowedNow t (asks q)
asks-allowed t q h = h

pub asks-only : (t : Totals) (q : Posed) → AllowedNow t (asks q) → (q.x < 2 ^ 32) × (q.y < 2 ^ 32)
asks-only t q h = h

pub reads-allowed : (t : Totals) (side : Side) → AllowedNow t (reads side)
reads-allowed t side = tt

pub adds-allowed : (t : Totals) (side : Side) (x : Term) → (finite_operands x ≡ false) ⊎ (count (total_on side t) ≡ most_terms) → AllowedNow t (adds side x)
adds-allowed t side x h = h

pub adds-only : (t : Totals) (side : Side) (x : Term) → AllowedNow t (adds side x) → (finite_operands x ≡ false) ⊎ (count (total_on side t) ≡ most_terms)
adds-only t side x h = h

-- ---- lists in two parts
pub allowed-first : (t : Totals) (e : Event) (es : List Event) → AllowedNow t e → Allowed (after_event t e) es → Allowed t (e ∷ es)
unfolding Allowed
allowed-first t e es h k = (h, k)

pub allowed-parts : (t : Totals) (es fs : List Event) → Allowed t (es ++ fs) → Allowed t es × Allowed (after_events t es) fs
unfolding Allowed after_events
allowed-parts t [] fs h = (tt, h)
allowed-parts t (e ∷ es) fs h = let k = allowed-parts (after_event t e) es fs h.1 in ((h.0, k.0), k.1)

pub allowed-append : (t : Totals) (es fs : List Event) → Allowed t es → Allowed (after_events t es) fs → Allowed t (es ++ fs)
unfolding Allowed after_events
allowed-append t [] fs h k = k
allowed-append t (e ∷ es) fs h k = (h.0, allowed-append (after_event t e) es fs h.1 k)

-- the part before a call, and the call
pub allowed-here : (t : Totals) (es fs : List Event) (e : Event) → Allowed t (es ++ (e ∷ fs)) → Allowed t es × AllowedNow (after_events t es) e
unfolding Allowed
allowed-here t es fs e h = let k = allowed-parts t es (e ∷ fs) h in (k.0, k.1.0)

-- one call more
pub allowed-more : (t : Totals) (es : List Event) (e : Event) → Allowed t es → AllowedNow (after_events t es) e → Allowed t (es ++ (e ∷ []))
unfolding Allowed
allowed-more t es e h k = allowed-append t es (e ∷ []) h (k, tt)

more-is : (t : Totals) (es : List Event) (e : Event) (C : Type 0) → AllowedNow (after_events t es) e ↔ C → Allowed t (es ++ (e ∷ [])) ↔ (Allowed t es × C)
more-is t es e C i = (
  λ h. let k = allowed-here t es [] e h in (k.0, i.0 k.1),
  λ h. allowed-more t es e h.0 (i.1 h.1),
)

-- ---- a product has an operand that is not finite where either factor is not
module _ {C : Type 0} where
  either-special : (a b : Bool) → (a && b ≡ false) ⊎ C → (a ≡ false) ⊎ (b ≡ false) ⊎ C
  either-special true b (inl e) = inr (inl e)
  either-special false b (inl e) = inl refl
  either-special a b (inr c) = inr (inr c)

  special-either : (a b : Bool) → (a ≡ false) ⊎ (b ≡ false) ⊎ C → (a && b ≡ false) ⊎ C
  special-either a b (inl e) = inl (rw e)
  special-either true b (inr (inl e)) = inl e
  special-either false b (inr (inl e)) = inl refl
  special-either a b (inr (inr c)) = inr c

pub allowed-next : AllowedNext
unfolding Allowed
allowed-next t es = (
  tt,
  λ q. let i = more-is t es (asks q) _ (asks-only (after_events t es) q, asks-allowed (after_events t es) q) in (λ h. let k = i.0 h in (k.0, k.1.0, k.1.1), λ h. i.1 (h.0, (h.1, h.2))),
  λ side. (λ h. (allowed-here t es [] (reads side) h).0, λ h. allowed-more t es (reads side) h (reads-allowed (after_events t es) side)),
  λ side x. more-is t es (adds side (of_pattern x)) _ (adds-only (after_events t es) side (of_pattern x), adds-allowed (after_events t es) side (of_pattern x)),
  λ side x y. more-is t es (adds side (of_product x y)) _ (
    λ h. either-special _ _ (adds-only (after_events t es) side (of_product x y) h),
    λ h. adds-allowed (after_events t es) side (of_product x y) (special-either _ _ h),
  ),
)
