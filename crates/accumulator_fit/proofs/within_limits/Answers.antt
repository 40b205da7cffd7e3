use Rattle.std.proofs.Common.{ℕ, ◌*◌, leb, get_or, take, sym, refl, ap, ◌∙◌, true≢false, eqb-true, leb-true, arith}
use borrow.Author.Tests.{eqb-false}
use Rattle.accumulator_spec.specs.Totals.{count}
use Rattle.accumulator_spec.proofs.Fitness.{unfit-count, over-top, over-next}
use Rattle.accumulator_fit.specs.Inner.{below_limit}
use Rattle.accumulator_fit.proofs.Limit.{within-fit}
use Rattle.accumulator_fit.proofs.within_limits.Goals as goal
use Rattle.accumulator_fit.proofs.within_limits.Goals.{then-n-le-MOST_TERMS, else-n-le-MOST_TERMS, then-turned-eq0, else-turned-eq0}

pub returns-then-turned-eq0-2 : goal.returns-then-turned-eq0-2
returns-then-turned-eq0-2 c =
    elim c.if-turned-eq0.branch [
      | then-turned-eq0 w ↦
          elim c.if-n-le-MOST_TERMS.branch [
            | then-n-le-MOST_TERMS v ↦
                let t = c.args.total.now in let z = sym v.turned.ensures ∙ eqb-true _ _ (sym v.value-is ∙ w.if-turned-eq0.true) in
                let y = sym w.turned-then-turned-eq0.ensures ∙ eqb-true _ _ (sym w.value-is ∙ c.if-turned-eq0-2.true) in
                c.within.ensures ∙ ap (λ (n : ℕ). below_limit (take 17 t) (leb 2147483648 (get_or t 19 0)) n (count t * 1024)) c.turned-then-turned-eq0-2.ensures
                ∙ within-fit t c.requires (λ i. (c.type_inv.total i).fits) v.if-n-le-MOST_TERMS.true _ refl z y
            | else-n-le-MOST_TERMS v ↦ absurd (omega (arith, v.if-n-le-MOST_TERMS.false, leb-true _ _ (sym v.value-is ∙ w.if-turned-eq0.true)))
          ]
      | else-turned-eq0 w ↦ absurd (true≢false (sym c.if-turned-eq0-2.true ∙ w.value-is ∙ w.if-turned-eq0.false))
    ]

pub returns-else-turned-eq0-2 : goal.returns-else-turned-eq0-2
returns-else-turned-eq0-2 c =
    let t = c.args.total.now in c.if-turned-eq0-2.false
    ∙ elim c.if-turned-eq0.branch [
      | then-turned-eq0 w ↦
          elim c.if-n-le-MOST_TERMS.branch [
            | then-n-le-MOST_TERMS v ↦
                over-next t c.requires (λ i. (c.type_inv.total i).fits) v.if-n-le-MOST_TERMS.true _ refl
                (λ z. eqb-false _ _ (sym w.value-is ∙ c.if-turned-eq0-2.false) (w.turned-then-turned-eq0.ensures ∙ z))
            | else-n-le-MOST_TERMS v ↦ absurd (omega (arith, v.if-n-le-MOST_TERMS.false, leb-true _ _ (sym v.value-is ∙ w.if-turned-eq0.true)))
          ]
      | else-turned-eq0 w ↦
          elim c.if-n-le-MOST_TERMS.branch [
            | then-n-le-MOST_TERMS v ↦
                over-top t c.requires (λ i. (c.type_inv.total i).fits) v.if-n-le-MOST_TERMS.true _ refl
                (λ z. eqb-false _ _ (sym v.value-is ∙ w.if-turned-eq0.false) (v.turned.ensures ∙ z))
            | else-n-le-MOST_TERMS v ↦ unfit-count t v.if-n-le-MOST_TERMS.false
          ]
    ]
