use Rattle.std.proofs.Common.{ℕ, ◌+◌, ◌-◌, ◌/◌, ◌^◌, List, ap, ◌∙◌, arith}
use Rattle.accumulator_spec.proofs.Parts.{lent-on, lent_length}
use Rattle.accumulator_spec.specs.Inner.{after_walk}
use Rattle.accumulator_words.proofs.Significand.{two-parts, beyond-lt}
use Rattle.accumulator_words.proofs.walk.Goals as goal

pub overflow_add-high : goal.overflow_add-high
overflow_add-high c =
    omega (arith, beyond-lt c.args.term.sig c.args.term.shift c.requires.1 (omega arith), c.add_two_words-carry.ensures.1)

pub add_word-requires : goal.add_word-requires
add_word-requires c =
    let k = c.add_two_words-carry in
    (omega (arith, lent_length k.new.words 2, k.ensures.0, c.requires.0), omega (arith, beyond-lt c.args.term.sig c.args.term.shift c.requires.1 (omega arith), k.ensures.1))

pub returns : goal.returns
returns c =
    let a = c.args in let s = c.args.term.minus in let high = a.term.sig / 2 / 2 ^ (63 - a.term.shift) in
    lent-on c.add_two_words-carry.new.words 2 (λ (xs : List ℕ). after_walk xs s (high + c.add_two_words-carry.result)) c.add_word.new.words c.add_word.ensures
    ∙ c.add_two_words-carry.ensures.2 high ∙ ap (after_walk a.words.now s) (two-parts a.term.sig a.term.shift c.requires.1)
