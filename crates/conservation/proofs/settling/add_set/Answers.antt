use mathlib.Core.Path.{sym, ap, ◌∙◌}
use Rattle.augmented_spec.specs.declared.Operation.{Operation}
use Rattle.accumulator_spec.specs.Columns.{column}
use Rattle.conservation_spec.specs.Lists.{set_terms}
use Rattle.conservation_spec.proofs.Settled.{one-term, product-asked}
use Rattle.conservation.proofs.settling.add_set.Goals as goal

pub returns-in-Product : goal.returns-in-Product
returns-in-Product c =
    let a = c.args in
    one-term _ _ _ c.add_product.ensures.1
    ∙ ap (λ (o : Operation). column a.total.now (set_terms o a.x a.y))
    (sym (product-asked a.operation c.try_from.result c.try_from.ensures (sym c.unwrap_or.ensures ∙ c.in-Product.is)))
