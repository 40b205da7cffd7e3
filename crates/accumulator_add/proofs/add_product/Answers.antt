use mathlib.Core.Path.{ap, ◌∙◌}
use native.Mathlib.Omega.{arith}
use lib.Seq.{length-take-le}
use Rattle.rounding_spec.specs.Value.{is_finite}
use Rattle.pattern_spec.specs.Classes.{value_of}
use Rattle.accumulator_spec.specs.Totals.{number_size, of_product}
use Rattle.accumulator_spec.proofs.Terms.{not-finite}
use Rattle.accumulator_add.proofs.Entered.{countable, entered, has-takes, refused-term, stays}
use Rattle.accumulator_add.proofs.add_product.Goals as goal

pub slice_bounds-add-end : goal.slice_bounds-add-end
slice_bounds-add-end c =
    let t = c.args.total.now in
    let h = c.has_room.ensures (c.if-not-has_room.false) in
    let r = has-takes t h in
    let l = r.0.0 in
    omega (arith, l)

pub add-requires : goal.add-requires
add-requires c =
    let t = c.args.total.now in
    let h = c.has_room.ensures (c.if-not-has_room.false) in
    let r = has-takes t h in
    let m = r.0.0 in
    let l = length-take-le number_size t (omega (arith, m)) in
    let o = rw c.in-Finite.is at c.product.ensures in
    let p = c.place.ensures in (omega (arith, p.2, o.bounded.exp, l), p.3)

pub count_term-requires : goal.count_term-requires
count_term-requires c =
    let t = c.args.total.now in
    let h = c.has_room.ensures (c.if-not-has_room.false) in
    let r = has-takes t h in
    countable t r.0.0 c.place.result c.add.new.number c.add.ensures r.1

pub returns : goal.returns
unfolding value_of
returns c =
    let a = c.args in
    let t = a.total.now in
    let h = c.has_room.ensures (c.if-not-has_room.false) in
    let r = has-takes t h in
    let p = c.place.ensures in let v = (rw c.in-Finite.is at c.product.ensures).is in
    let e = entered t r.0.0 c.place.result c.add.new.number c.add.ensures (of_product a.x a.y) c.in-Finite.term.sign c.in-Finite.term.sig _ v p.0 p.1 p.2 _
    c.count_term.ensures in
    stays t (of_product a.x a.y) r c.in-Finite.term.sign c.in-Finite.term.sig _ v h.2 _ e

pub returns-in_default : goal.returns-in_default
unfolding value_of
returns-in_default c =
    let t = c.args.total.now in
    let h = c.has_room.ensures (c.if-not-has_room.false) in
    refused-term t (of_product c.args.x c.args.y) (has-takes t h).0 (ap is_finite c.product.ensures.is ∙ not-finite _ c.in_default.not-Finite)
