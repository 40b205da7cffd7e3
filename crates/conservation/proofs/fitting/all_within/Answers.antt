use mathlib.Core.Path.{◌∙◌}
use Prim.Native.Nat.{ℕ}
use lib.Dec.{leb}
use Rattle.std.proofs.Common.{rules}
use Rattle.std.proofs.lemmas.Iterator.{YieldsList-from_slice}
use Rattle.std.proofs.lemmas.Iterator.Search.{all_from_yields_List}
use Rattle.conservation_spec.proofs.Misfits.{within-is}
use Rattle.conservation.proofs.fitting.all_within.Goals as goal

pub returns : goal.returns
returns c =
    let a = c.args in
    all_from_yields_List (λ (n : ℕ). leb n a.most) _ _ _ c.all.ensures.ran (YieldsList-from_slice a.counts.now cc) (λ x b q k. search rules)
    ∙ within-is a.counts.now a.most
