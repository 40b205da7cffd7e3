use Rattle.std.proofs.lemmas.Result.{err_from_is_err_and}
use mathlib.Core.Path.{sym, ap, ◌∙◌}
use native.Mathlib.Omega.{arith}
use lib.Seq.{length-take-le}
use Rattle.rounding_spec.specs.Value.{is_finite}
use Rattle.pattern_spec.specs.Classes.{value_of}
use Rattle.accumulator_spec.specs.Totals.{number_size, of_product}
use Rattle.accumulator_spec.proofs.Adding.{fit-bounds}
use Rattle.accumulator_spec.proofs.Terms.{term-finite, not-finite}
use Rattle.accumulator_fit.proofs.Lent.{sound}
use Rattle.accumulator_add.proofs.Refusals.{fault-adds, full-adds}
use Rattle.accumulator_add.proofs.Entered.{countable, entered, takes, refused-term, noted-takes, written}
use Rattle.accumulator_add.proofs.admit.Goals as goal

pub returns-in_err-refusal : goal.returns-in_err-refusal
returns-in_err-refusal c =
    let a = c.args in let p = err_from_is_err_and c.from_residual.result c.from_residual.ensures.1 in
    rw (p.1, p.2) (fault-adds a.total.now (of_product a.x a.y) _ (sym c.in_err-refusal.was ∙ c.refusal.ensures))

pub returns-in_default : goal.returns-in_default
unfolding value_of
returns-in_default c =
    let a = c.args in
    refused-term a.total.now (of_product a.x a.y) (sound a.total.now (sym c.refusal.ensures ∙ c.in_ok-refusal.was)) (ap is_finite c.product.ensures.is ∙ not-finite _ c.in_default.not-Finite)

pub returns-then-total-eq-MOST_TERMS : goal.returns-then-total-eq-MOST_TERMS
unfolding value_of
returns-then-total-eq-MOST_TERMS c =
    let a = c.args in
    let v = (rw c.in-Finite.is at c.product.ensures).is in
    full-adds a.total.now (of_product a.x a.y) (sound a.total.now (sym c.refusal.ensures ∙ c.in_ok-refusal.was)) (term-finite (of_product a.x a.y) ∙ ap is_finite v) c.if-total-eq-MOST_TERMS.true

pub note_sign-requires : goal.note_sign-requires
note_sign-requires c =
    let t = c.args.total.now in
    let r = takes t (sym c.refusal.ensures ∙ c.in_ok-refusal.was) c.if-total-eq-MOST_TERMS.false in
    (r.0.0, (fit-bounds t r.0.1).sign)

pub slice_bounds-add-end : goal.slice_bounds-add-end
unfolding value_of
slice_bounds-add-end c =
    let a = c.args in
    let t = a.total.now in
    let r = takes t (sym c.refusal.ensures ∙ c.in_ok-refusal.was) c.if-total-eq-MOST_TERMS.false in
    let v = (rw c.in-Finite.is at c.product.ensures).is in
    let l = (noted-takes t (of_product a.x a.y) r c.in-Finite.n.sign c.in-Finite.n.sig _ v c.note_sign.new.total c.note_sign.ensures).0 in
    omega (arith, l)

pub add-requires : goal.add-requires
unfolding value_of
add-requires c =
    let a = c.args in
    let t = a.total.now in
    let r = takes t (sym c.refusal.ensures ∙ c.in_ok-refusal.was) c.if-total-eq-MOST_TERMS.false in
    let v = (rw c.in-Finite.is at c.product.ensures).is in
    let m = (noted-takes t (of_product a.x a.y) r c.in-Finite.n.sign c.in-Finite.n.sig _ v c.note_sign.new.total c.note_sign.ensures).0 in
    let l = length-take-le number_size c.note_sign.new.total (omega (arith, m)) in
    let o = rw c.in-Finite.is at c.product.ensures in
    let p = c.place.ensures in (omega (arith, p.2, o.bounded.exp, l), p.3)

pub count_term-requires : goal.count_term-requires
unfolding value_of
count_term-requires c =
    let a = c.args in
    let t = a.total.now in
    let r = takes t (sym c.refusal.ensures ∙ c.in_ok-refusal.was) c.if-total-eq-MOST_TERMS.false in
    let v = (rw c.in-Finite.is at c.product.ensures).is in
    let m = noted-takes t (of_product a.x a.y) r c.in-Finite.n.sign c.in-Finite.n.sig _ v c.note_sign.new.total c.note_sign.ensures in
    countable c.note_sign.new.total m.0 c.place.result c.add.new.number c.add.ensures m.1

pub returns : goal.returns
unfolding value_of
returns c =
    let a = c.args in
    let t = a.total.now in
    let r = takes t (sym c.refusal.ensures ∙ c.in_ok-refusal.was) c.if-total-eq-MOST_TERMS.false in
    let p = c.place.ensures in let v = (rw c.in-Finite.is at c.product.ensures).is in
    let m = noted-takes t (of_product a.x a.y) r c.in-Finite.n.sign c.in-Finite.n.sig _ v c.note_sign.new.total c.note_sign.ensures in
    let e = entered c.note_sign.new.total m.0 c.place.result c.add.new.number c.add.ensures (of_product a.x a.y) c.in-Finite.n.sign c.in-Finite.n.sig _ v p.0 p.1 p.2 _
    c.count_term.ensures in
    written t (of_product a.x a.y) r c.in-Finite.n.sign c.in-Finite.n.sig _ v c.note_sign.new.total c.note_sign.ensures _ e
