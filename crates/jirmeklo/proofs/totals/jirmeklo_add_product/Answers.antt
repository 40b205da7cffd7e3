use Rattle.jirmeklo.proofs.totals.jirmeklo_add_product.Goals as goal

pub returns : goal.returns
returns c = c.add_product.ensures
