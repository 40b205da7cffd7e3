use mathlib.Core.Path.{sym, ap, ◌∙◌}
use native.Mathlib.Omega.{arith}
use lib.Seq.{length-take-le}
use Rattle.rounding_spec.specs.Format.{binary32}
use Rattle.rounding_spec.specs.Value.{decode, is_finite}
use Rattle.pattern_spec.specs.declared.Class.{Class}
use Rattle.pattern_spec.specs.Exact.{finer}
use Rattle.pattern_spec.specs.Classes.{value_of}
use Rattle.pattern_spec.proofs.Classified.{class-operand, class-value}
use Rattle.pattern_spec.proofs.Finiteness.{finer-finite}
use Rattle.accumulator_spec.specs.Totals.{number_size, of_pattern}
use Rattle.accumulator_spec.proofs.Terms.{not-finite}
use Rattle.accumulator_add.proofs.Scaled.{pattern-value, finer-digits, as-product}
use Rattle.accumulator_add.proofs.Entered.{countable, entered, has-takes, refused-term, stays}
use Rattle.accumulator_add.proofs.add_pattern.Goals as goal

pub returns-then-not-has_room : goal.returns-then-not-has_room
returns-then-not-has_room c = as-product _ _ _ _ c.admit.ensures

pub slice_bounds-add_short-end : goal.slice_bounds-add_short-end
slice_bounds-add_short-end c =
    let t = c.args.total.now in
    let h = c.has_room.ensures (c.if-not-has_room.false) in
    let r = has-takes t h in
    let l = r.0.0 in
    omega (arith, l)

pub overflow_add-term : goal.overflow_add-term
overflow_add-term c =
    let o = rw c.in-Finite.is at (class-operand _ _ c.classify.ensures) in
    omega (arith, o.exp)

pub add_short-requires : goal.add_short-requires
add_short-requires c =
    let t = c.args.total.now in
    let h = c.has_room.ensures (c.if-not-has_room.false) in
    let r = has-takes t h in
    let m = r.0.0 in
    let l = length-take-le number_size t (omega (arith, m)) in
    let o = rw c.in-Finite.is at (class-operand _ _ c.classify.ensures) in
    let p = c.place.ensures in (omega (arith, p.2, o.exp, l), p.3, omega (arith, p.1, o.sig))

pub count_term-requires : goal.count_term-requires
count_term-requires c =
    let t = c.args.total.now in
    let h = c.has_room.ensures (c.if-not-has_room.false) in
    let r = has-takes t h in
    countable t r.0.0 c.place.result c.add_short.new.number c.add_short.ensures r.1

pub returns : goal.returns
unfolding finer value_of
returns c =
    let a = c.args in
    let t = a.total.now in
    let h = c.has_room.ensures (c.if-not-has_room.false) in
    let r = has-takes t h in
    let p = c.place.ensures in let v = pattern-value _ _ c.classify.ensures ∙ ap (λ (v : Class). finer binary32 (value_of v)) c.in-Finite.is ∙ finer-digits _ _ _ in
    let e = entered t r.0.0 c.place.result c.add_short.new.number c.add_short.ensures (of_pattern a.x) c.in-Finite.n.sign c.in-Finite.n.sig _ v p.0 p.1 p.2 _
    c.count_term.ensures in
    stays t (of_pattern a.x) r c.in-Finite.n.sign c.in-Finite.n.sig _ v h.2 _ e

pub returns-in_default : goal.returns-in_default
unfolding finer value_of
returns-in_default c =
    let t = c.args.total.now in
    let h = c.has_room.ensures (c.if-not-has_room.false) in
    refused-term t (of_pattern c.args.x) (has-takes t h).0
    (finer-finite binary32 (decode binary32 c.args.x) ∙ ap is_finite (sym (class-value _ _ c.classify.ensures)) ∙ not-finite _ c.in_default.not-Finite)
