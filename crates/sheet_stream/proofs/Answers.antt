-- What a read's answer leads to.
use mathlib.Core.Path.{◌≡◌, refl, sym, ap, ◌∙◌, subst}
use mathlib.Core.Bool.{Bool, true, false, not}
use mathlib.Core.List.{List}
use Prim.Native.Nat.{ℕ, zero, suc, ◌≤◌, min}
use native.Mathlib.Omega.{arith}
use native.Mathlib.Decide.{dec_le}
use lib.ListN.{length, take}
use lib.Seq.{take_all}
use Rattle.std.specs.Prelude.{Option, Result, Ok}
use Rattle.std.specs.declared.ops.ControlFlow.{ControlFlow}
use Rattle.transcript_spec.specs.Texts.{line_room}
use Rattle.sheet_spec.specs.States.{State, take_bytes, bytes_text}
use Rattle.sheet_spec.specs.Positions.{goes_on, state_of}
use Rattle.sheet_spec.specs.declared.Position.{Position}
use Rattle.sheet_stream.specs.Inner.{AfterRead, another}
use Rattle.sheet_stream.specs.Written.{Wrote, PassWrites}
use Rattle.sheet_stream.proofs.Writing.{wrote_none, wrote_at}

-- so many bytes as there are
pub take-least : (k : ℕ) (bytes : List ℕ) → take (min k (length bytes)) bytes ≡ take k bytes
take-least k bytes =
    elim (dec_le k (length bytes)) [
      | yes h ↦ let e : min k (length bytes) ≡ k = omega (arith, h) in ap (λ (n : ℕ). take n bytes) e
      | no h ↦
          let e : min k (length bytes) ≡ length bytes = omega (arith, h) in
          ap (λ (n : ℕ). take n bytes) e ∙ take_all (length bytes) bytes (omega arith) ∙ sym (take_all k bytes (omega (arith, h)))
    ]

-- whether the run goes on
not_stopped : (p : Position) (line total : List ℕ) → goes_on p ≡ not (state_of p line total).stopped
unfolding state_of
not_stopped p line total = by (goes_on p)
  where
    by : (b : Bool) → b ≡ not (not b)
    by true = refl
    by false = refl

module _ {E : Type 0} (got : Result ℕ E) (n : ℕ) (is : got ≡ Ok n) (bytes : List ℕ) (room : ℕ) where
  -- bytes that were taken, with all that they print written
  pub taken : {A B : Type 0} (s : State) (p : Position) (line total : List ℕ) (k : ℕ) → k ≡ min n (length bytes) → (n ≡ 0 → ⊥) → (flow : ControlFlow A B) → another flow ≡ goes_on p
      → (line_room ≤ room → state_of p line total ≡ take_bytes s (take k bytes)) → AfterRead got bytes room s (Ok flow) (state_of p line total)
  taken s p line total k least z flow going t = subst (λ (g : Result ℕ E). AfterRead g bytes room s (Ok flow) (state_of p line total)) (sym is) (by n z e)
    where
      e : take k bytes ≡ take n bytes
      e = ap (λ (m : ℕ). take m bytes) least ∙ take-least n bytes

      by : (m : ℕ) → (m ≡ 0 → ⊥) → take k bytes ≡ take m bytes → AfterRead {E = E} (Ok m) bytes room s (Ok flow) (state_of p line total)
      by zero z f = absurd (z refl)
      by (suc m) z f = (going ∙ not_stopped p line total, λ h. t h ∙ ap (λ (l : List ℕ). take_bytes s l) f)

  module _ (s : State) (w v : Option (List ℕ)) (whole : Bool) where
    pub wrote_so-many : (k : ℕ) → k ≡ min n (length bytes) → (line_room ≤ room → Wrote w v whole (bytes_text s (take k bytes))) → PassWrites got bytes room s w v whole
    wrote_so-many k e h =
        subst (λ (g : Result ℕ E). PassWrites g bytes room s w v whole) (sym is)
        (λ f. wrote_at w v whole (bytes_text s (take k bytes)) (bytes_text s (take n bytes)) (ap (bytes_text s) (ap (λ (n : ℕ). take n bytes) e ∙ take-least n bytes)) (h f))

  pub wrote_none-read : (s : State) (w : Option (List ℕ)) → n ≡ 0 → PassWrites got bytes room s w w true
  unfolding bytes_text
  wrote_none-read s w e =
      subst (λ (g : Result ℕ E). PassWrites g bytes room s w w true) (sym (is ∙ ap {B = Result ℕ E} (λ (k : ℕ). Ok k) e)) (λ f. wrote_none w)
