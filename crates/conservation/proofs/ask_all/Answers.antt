use mathlib.Core.Path.{sym, ◌∙◌}
use native.Mathlib.Omega.{arith}
use lib.ListN.{length}
use lib.Seq.{length-take-le}
use Rattle.conservation.specs.Inner.{asking, lent}
use Rattle.conservation_spec.proofs.Events.{nothing_left}
use Rattle.conservation.proofs.Asked.{count-fits, settled}
use Rattle.conservation.proofs.ask_all.Goals as goal

pub slice_bounds-given-end : goal.slice_bounds-given-end
slice_bounds-given-end c =
    let fits = count-fits c.args.questions c.loop-i.i c.requires.equal (omega arith) _ c.get-question.ensures (length c.args.words.now) c.requires.within in
    omega arith

pub slice_bounds-given-end-in-loop-i : goal.slice_bounds-given-end-in-loop-i
slice_bounds-given-end-in-loop-i c =
    let fits = count-fits c.args.questions c.loop-i.i c.requires.equal (omega arith) _ c.get-question.ensures (length c.args.words.now) c.requires.within in
    sym (length-take-le _ c.loop-i.words (omega arith))

pub loop-i-preserved : goal.loop-i-preserved
loop-i-preserved c =
    let l = c.loop-i in
    settled c.args.questions l.i c.requires.equal (omega arith) _ c.get-question.ensures l.words _ _ _ c.settle.ensures ∙ l.invariant

pub returns : goal.returns
returns c =
    let l = c.loop-i in
    sym l.invariant ∙ nothing_left (asking c.args.questions) l.i (lent l.words l.first l.other) (omega arith)
