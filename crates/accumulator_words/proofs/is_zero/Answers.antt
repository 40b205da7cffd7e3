use Rattle.std.proofs.Common.{rules, ◌≡◌, ℕ, List, [], ◌∷◌, ◌&&◌, eqb, refl, ap, ◌∙◌}
use Rattle.std.specs.List.{list_all}
use Rattle.std.proofs.lemmas.Iterator.{YieldsList-from_slice}
use Rattle.std.proofs.lemmas.Iterator.Search.{all_from_yields_List}
use Rattle.std.proofs.Common.{rules, tests, arith}
use Rattle.accumulator_spec.specs.Words.{all_zero}
use Rattle.accumulator_words.proofs.is_zero.Goals as goal

each-zero : (ws : List ℕ) → list_all (λ (w : ℕ). eqb w 0) ws ≡ all_zero ws
unfolding all_zero
each-zero [] = refl
each-zero (w ∷ ws) = ap (λ b. eqb w 0 && b) (each-zero ws)

pub returns : goal.returns
returns c =
    let t = c.args.words.now in
    all_from_yields_List (λ (w : ℕ). eqb w 0) _ _ c.all.result c.all.ensures.ran (YieldsList-from_slice t cc) (λ x b q k. search (rules, tests)) ∙ each-zero t
