use Rattle.std.proofs.Common.{◌≡◌, length, drop, ap, ◌∙◌, arith, length-append, length-drop}
use Rattle.std.proofs.lemmas.List.{take_at}
use Rattle.accumulator_spec.specs.Carrying.{old_size}
use Rattle.accumulator_carry_over.proofs.copy.Goals as goal

pub returns : goal.returns
returns c =
    let k = c.copy_from_slice in let t = c.args.new.now in let m : length k.new.self ≡ old_size = ap length k.ensures.after ∙ c.requires.0 in (
      omega (arith, length-append k.new.self (drop old_size t), length-drop old_size t, m),
      take_at k.new.self (drop old_size t) old_size m ∙ k.ensures.after,
    )
