use mathlib.Core.Path.{refl, ap, ◌∙◌}
use mathlib.Core.List.{List}
use Prim.Native.Nat.{ℕ, ◌/◌}
use lib.ListN.{length, get_or}
use Rattle.std.proofs.Common.{rules}
use Rattle.std.specs.List.{list_any}
use Rattle.worksheet_spec.specs.Lines.{line_size}
use Rattle.std.proofs.lemmas.Iterator.{YieldsList-from_slice}
use Rattle.std.proofs.lemmas.Iterator.Search.{any_from_yields_List}
use Rattle.marking_spec.proofs.Lookup.{either, among-results}
use Rattle.marking_lines.proofs.operands.is_result.Goals as goal

pub returns : goal.returns
returns c =
    let p = c.args.p in
    any_from_yields_List (λ (line : List ℕ). either p (get_or line 4 0)) _ _ _ c.any.ensures.ran
    (YieldsList-from_slice c.as_chunks.result.0.now cc) (λ x b q k. search rules)
    ∙ ap (list_any (λ (line : List ℕ). either p (get_or line 4 0))) c.as_chunks.ensures.front
    ∙ among-results (length c.args.earlier.now / line_size) p c.args.earlier.now refl
