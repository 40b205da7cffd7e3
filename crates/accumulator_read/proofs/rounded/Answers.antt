use mathlib.Core.Path.{◌≡◌, refl, sym, ap, ◌∙◌}
use Prim.Native.Nat.{◌^◌}
use lib.Dec.{leb}
use lib.IntN.{nat_abs}
use lib.ListN.{get_or}
use Rattle.rounding_spec.specs.declared.Ties.TheVariants.{ToZero}
use Rattle.rounding_spec.specs.Format.{binary32}
use Rattle.rounding_spec.specs.Value.{finite, encode, round, round_finite}
use Rattle.accumulator_spec.specs.Words.{natural, integer}
use Rattle.accumulator_spec.specs.Totals.{number_size, exact_number}
use Rattle.accumulator_read.proofs.Arrays.{array-length, array-words}
use Rattle.accumulator_spec.proofs.LeadingDigits.{leading-rounds}
use Rattle.accumulator_spec.proofs.Top.{exact-top}
use Rattle.accumulator_read.proofs.rounded.Goals as goal

pub returns : goal.returns
unfolding round
returns c =
    let ws = c.args.number in let minus = leb (2 ^ 31) (get_or ws 19 0) in
    let m = c.magnitude in let d = c.first_digits-top in let e : exact_number (integer ws) ≡ finite minus (nat_abs (integer ws)) =
    exact-top 19 ws (array-length number_size ws _ c.well_formed.0) (array-words number_size ws _ c.well_formed.0) minus refl
    in
    c.round.ensures
    ∙ ap (encode binary32)
    (leading-rounds ToZero minus (natural m.result) d.result.sig d.result.exp d.ensures ∙ ap (round_finite ToZero binary32 minus) m.ensures
    ∙ ap (round ToZero binary32) (sym e))
