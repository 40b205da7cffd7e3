use Rattle.std.proofs.Common.{◌≡◌, cond, ◌++◌, take, drop}
use Rattle.accumulator_spec.specs.Words.{Words}
use Rattle.accumulator_spec.proofs.Carry.{walk}
use Rattle.accumulator_words.proofs.add_one.Given as goal

abbrev pub invariant-loop-w : goal.invariant-loop-w
invariant-loop-w l =
    Words l.words × (l.mask ≡ cond l.minus 0xffff_ffff 0) × (take l.w-index l.words ++ walk l.minus (drop l.w-index l.words) 1 ≡ walk l.minus l.initial.words 1)
