use mathlib.Core.Path.{refl}
use Rattle.sheet_spec.proofs.Positions.{not_full}
use Rattle.sheet_feed.proofs.Stepped.{step-stops, step-ends, step-extends}
use Rattle.sheet_feed.proofs.step.Run.byte.Goals as goal

pub returns-then-self-eq-MOST_INPUT_LINES : goal.returns-then-self-eq-MOST_INPUT_LINES
returns-then-self-eq-MOST_INPUT_LINES c = step-stops _ c.requires.0 _ _ _ _ _ c.if-self-eq-MOST_INPUT_LINES.true c.stop.ensures

pub returns-then-b-eq10 : goal.returns-then-b-eq10
returns-then-b-eq10 c =
    let r = c.requires.0 in
    step-ends _ r _ _ (not_full _ r c.if-self-eq-MOST_INPUT_LINES.false) _ _ _ c.if-b-eq10.true c.end_line-ended.ensures refl refl
    (record { line = refl; total = refl; total_length = c.end_line-ended.auto.total })

pub extend-requires : goal.extend-requires
extend-requires c = (c.requires.0, not_full _ c.requires.0 c.if-self-eq-MOST_INPUT_LINES.false)

pub returns : goal.returns
returns c =
    let r = c.requires.0 in step-extends _ r _ _ (not_full _ r c.if-self-eq-MOST_INPUT_LINES.false) _ c.if-b-eq10.false c.extend.ensures.state c.extend.ensures.lent
