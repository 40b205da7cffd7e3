use Rattle.jirmeklo.proofs.jirmeklo_product.Goals as goal

pub returns : goal.returns
returns c = c.product.ensures
