use mathlib.Core.Path.{sym, ◌∙◌}
use Rattle.std.proofs.Common.{rules, ◌<◌}
use Prim.Native.Nat.{◌-◌, ◌*◌, ◌%◌, ◌^◌, ◌+◌}
use native.Mathlib.Omega.{arith}
use lib.Count.{leading_le, count_leading_zeros}
use Rattle.rounding_spec.proofs.Keep.{kept}
use Rattle.rounding_spec.proofs.Normalised.{round-zero, zeros-lt, kept_small, round_is}
use Rattle.rounding_spec.proofs.LeftOver.{moved-pos, up_is, rest-is, none-at, nothing_left, nothing-none}
use Rattle.rounding.proofs.round_with_rest.Goals as goal

pub returns-then-sig-eq0 : goal.returns-then-sig-eq0
returns-then-sig-eq0 c =
    let z = nothing_left c.args.ties c.args.number.exp in
    rw c.if-sig-eq0.true (record {
      pattern_value = c.packed.ensures ∙ sym (round-zero _ _ _);
      rest_value = z.0;
      up_value = z.1;
      none_value = nothing-none c.args.ties c.args.number.exp;
    })

pub overflow_cast-zeros : goal.overflow_cast-zeros
overflow_cast-zeros c = omega (arith, leading_le 64 c.args.number.sig)

pub overflow_sub-digits : goal.overflow_sub-digits
overflow_sub-digits c = omega (arith, leading_le 64 c.args.number.sig)

pub overflow_shl-n : goal.overflow_shl-n
overflow_shl-n c =
    let h : c.args.number.sig < 2 ^ 64 = search rules in zeros-lt c.args.ties c.args.number.sig c.args.number.exp _ (omega arith) h c.last_place-place.ensures

pub left_over-left-requires : goal.left_over-left-requires
left_over-left-requires c =
    let h : c.args.number.sig < 2 ^ 64 = search rules in
    let zeros = count_leading_zeros 64 c.args.number.sig in
    let k = kept c.args.ties (c.last_place-place.result + 64 - (c.args.number.exp + 64 - zeros)) (c.args.number.sig * 2 ^ zeros % 2 ^ 64) in
    rw c.kept-q.ensures (record {
      quotient = (k.low, k.high);
      half_unit = (moved-pos c.args.ties c.args.number.sig c.args.number.exp _ (omega arith) h c.last_place-place.ensures _ c.kept-q.ensures, k.above);
    })

pub packed-requires-2 : goal.packed-requires-2
packed-requires-2 c =
    let h : c.args.number.sig < 2 ^ 64 = search rules in
    let q = kept_small c.args.ties c.args.number.sig c.args.number.exp _ (omega arith) h c.last_place-place.ensures _ c.kept-q.ensures in
    omega (arith, leading_le 64 c.args.number.sig, c.last_place-place.ensures)

pub overflow_shr-result : goal.overflow_shr-result
overflow_shr-result c =
    let h : c.args.number.sig < 2 ^ 64 = search rules in zeros-lt c.args.ties c.args.number.sig c.args.number.exp _ (omega arith) h c.last_place-place.ensures

pub returns : goal.returns
returns c =
    let h : c.args.number.sig < 2 ^ 64 = search rules in
    let place = c.last_place-place.ensures in let left = c.left_over-left.ensures in record {
      pattern_value = c.packed-2.ensures
          ∙ sym (round_is c.args.ties c.args.number.sig c.args.number.exp _ (omega arith) h place _ c.kept-q.ensures c.args.number.sign);
      rest_value = rest-is c.args.ties c.args.number.sig c.args.number.exp _ (omega arith) h place _ c.kept-q.ensures _ left.rest_value;
      up_value = left.up_value ∙ up_is c.args.ties c.args.number.sig c.args.number.exp _ (omega arith) h place _ c.kept-q.ensures;
      none_value = left.none_value ∙ none-at c.args.ties c.args.number.sig c.args.number.exp _ (omega arith) h place _ c.kept-q.ensures;
    }
