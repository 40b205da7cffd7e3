-- What a call that carries over answers, and leaves.
use mathlib.Core.Path.{◌≡◌, refl, sym, ap, ◌∙◌}
use mathlib.Core.Bool.{Bool, true, false, cond}
use mathlib.Core.List.{List, [], ◌∷◌, ◌++◌}
use Prim.Native.Nat.{ℕ}
use native.Mathlib.Decide.{ℕ_discrete}
use native.Mathlib.Nat.{le_of_eq}
use native.Mathlib.Omega.{arith}
use lib.Dec.{eqb}
use lib.ListN.{length, take, set, drop_of_length-le}
use lib.Seq.{set_split}
use Rattle.std.proofs.Common.{Ok, Err}
use Rattle.pattern_spec.specs.Answer.{refused, done}
use Rattle.accumulator_spec.specs.declared.NotDone.{NotDone}
use Rattle.accumulator_spec.specs.Answers.{refusal_number, answer_of}
use Rattle.accumulator_spec.specs.Totals.{total_size, count, within_limits}
use Rattle.accumulator_spec.specs.Carrying.{old_size, carrying, Carries}
use Rattle.accumulator_spec.proofs.Carried.{old-length, new-length, old-unfit, carries, carry-refused, carry-done}

module _ (old new : List ℕ) where
  abbrev pub Sound : Type 0
  Sound = (length old ≡ old_size) × (length new ≡ total_size) × (carrying old new ≡ done tt)

  by_answer : {G : Type 0} → (carrying old new ≡ refused 5 → G) → (carrying old new ≡ refused 6 → G) → (Sound → G) → G
  by_answer {G} five six none =
      elim (ℕ_discrete (length old) old_size) [
        | no n ↦ five (old-length old new n)
        | yes full ↦ elim (ℕ_discrete (length new) total_size) [ no n ↦ five (new-length old new n) | yes room ↦ go full room (within_limits old) refl ]
      ]
    where
      go : length old ≡ old_size → length new ≡ total_size → (b : Bool) → within_limits old ≡ b → G
      go full room true e = none (full, room, carries old new full room e)
      go full room false e = six (old-unfit old new full room e)

  -- refused, which leaves the words
  pub refuses : (e : NotDone) → answer_of (Err e) ≡ carrying old new → Carries old new (answer_of (Err e)) new
  refuses e is = (is, sym (carry-refused old new (refusal_number e) (sym is)))

  pub sound : answer_of (Ok tt) ≡ carrying old new → Sound
  sound is = by_answer (λ e. absurd cc) (λ e. absurd cc) (λ s. s)

  -- carried out: the words of the old one, and a word behind them
  pub carried-out : Sound → (after : List ℕ) → length after ≡ total_size → take old_size after ≡ old → (w : ℕ) → w ≡ cond (eqb (count old) 0) 0 1
      → Carries old new (done tt) (set after old_size w)
  carried-out s after l e w is = (
    sym s.2,
    set_split after old_size w (omega (arith, l)) ∙ ap (λ (xs : List ℕ). take old_size after ++ w ∷ xs) (drop_of_length-le after (le_of_eq l))
        ∙ ap (λ (xs : List ℕ). xs ++ (w ∷ [])) e ∙ ap (λ (v : ℕ). old ++ (v ∷ [])) is ∙ sym (carry-done old new s.2),
  )
