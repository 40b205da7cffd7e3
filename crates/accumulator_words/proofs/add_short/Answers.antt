use Rattle.std.proofs.Common.{arith}
use Rattle.accumulator_spec.proofs.TermAdded.{part-term}
use Rattle.accumulator_words.proofs.add_short.Goals as goal

pub returns : goal.returns
returns c =
    let a = c.args in part-term a.number.now (λ i. (c.slice_known-1.given i).fits) a.term.minus a.term.sig a.term.word a.term.shift
    (omega (arith, c.requires.0)) c.walk_short.new.words c.walk_short.ensures
