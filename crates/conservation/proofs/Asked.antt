-- One question of those that are asked: its words fit, and settling it leaves what is left to ask.
use mathlib.Core.Path.{◌≡◌, ap, subst, ◌∙◌}
use mathlib.Core.Bool.{true}
use mathlib.Core.List.{List, ◌++◌}
use Prim.Native.Nat.{ℕ, ◌+◌, ◌≤◌, ◌<◌}
use native.Mathlib.Omega.{arith}
use lib.ListN.{length, take, drop, get_or}
use Rattle.conservation_spec.specs.Lists.{Totals}
use Rattle.conservation_spec.specs.Inner.{Settles}
use Rattle.conservation_spec.specs.Replay.{all_within}
use Rattle.conservation_spec.proofs.Events.{left_from, next-question}
use Rattle.conservation_spec.proofs.Misfits.{within-at}
use Rattle.conservation.specs.declared.questions.Questions.{Questions}
use Rattle.conservation.specs.declared.questions.Question.{Question}
use Rattle.conservation.specs.Inner.{asking, Equal, posed}

module _ (q : Questions) (i : ℕ) (equal : Equal q) (inside : i < length q.operations.now) (r : Question)
    (is : r ≡ record { operation = get_or q.operations.now i 0; x = get_or q.xs.now i 0; y = get_or q.ys.now i 0; count = get_or q.counts.now i 0 }) where
  pub count-fits : (most : ℕ) → all_within q.counts.now most ≡ true → r.count ≤ most
  count-fits most w = omega (arith, ap (λ (k : Question). k.count) is, within-at q.counts.now most i w (omega arith))

  pub settled : (words part : List ℕ) (before after : Totals)
      → Settles (posed r (take r.count words)) before part after
      → left_from (asking q) (i + 1) (record { words = part ++ drop r.count words; totals = after }) ≡ left_from (asking q) i (record { words = words; totals = before })
  settled words part before after s =
      let P : Question → Type 0 = λ k.
      Settles (posed k (take k.count words)) before part after in
      ap (λ (k : Question). left_from (asking q) (i + 1) (record { words = part ++ drop k.count words; totals = after })) is
      ∙ next-question (asking q) i inside equal.0 equal.1 equal.2 words part before after (subst P is s)
