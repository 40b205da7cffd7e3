use Rattle.worksheet_spec.specs.Sheets.{product_by}
use Rattle.worksheet_rules.proofs.ProductLines.{by-branch}
use Rattle.worksheet_rules.proofs.products.product.Goals as goal

pub returns-in-NotANumber : goal.returns-in-NotANumber
unfolding product_by
returns-in-NotANumber c = by-branch _ _ _ _ c.mul-a.ensures c.in-NotANumber.ensures (c.first_line.ensures _)

pub returns-in-Infinite : goal.returns-in-Infinite
unfolding product_by
returns-in-Infinite c = by-branch _ _ _ _ c.mul-a.ensures c.in-Infinite.ensures c.infinite.ensures

pub returns-in-Zero : goal.returns-in-Zero
unfolding product_by
returns-in-Zero c = by-branch _ _ _ _ c.mul-a.ensures c.in-Zero.ensures (c.first_line-in-Zero.ensures _)

pub returns-in-Tiny : goal.returns-in-Tiny
unfolding product_by
returns-in-Tiny c = by-branch _ _ _ _ c.mul-a.ensures c.in-Tiny.ensures c.tiny.ensures

pub returns-in-Middle : goal.returns-in-Middle
unfolding product_by
returns-in-Middle c = by-branch _ _ _ _ c.mul-a.ensures c.in-Middle.ensures c.middle.ensures

pub returns-in-Other : goal.returns-in-Other
unfolding product_by
returns-in-Other c = by-branch _ _ _ _ c.mul-a.ensures c.in-Other.ensures c.other.ensures
