use mathlib.Core.Path.{◌≡◌, refl, sym, ap, ◌∙◌}
use Rattle.pattern_spec.specs.Classes.{class_of, value_of}
use Rattle.pattern_spec.specs.Inner.{Descending, larger, smaller}
use Rattle.pattern_spec.proofs.Classified.{class-operand, chosen-descending}
use Rattle.binary32_spec.proofs.Sums.{ordered-nan, ordered-infinite, ordered-number}
use Rattle.binary32_add.proofs.of_patterns.Goals as goal

pub finite_plus-requires : goal.finite_plus-requires
finite_plus-requires c =
    let x = c.args.x in let y = c.args.y in let first = sym c.in-Finite.is ∙ c.classify.ensures ∙ ap class_of c.larger.ensures in
    let second : c.classify-in-Finite.result ≡ class_of (smaller x y) = c.classify-in-Finite.ensures ∙ ap class_of c.smaller-q.ensures in
    let order : Descending (class_of (larger x y)) c.classify-in-Finite.result = rw second (chosen-descending x y) in record {
      operand = class-operand (larger x y) _ first;
      bounded = class-operand (smaller x y) _ second;
      below = rw (sym first) at order;
    }

pub returns-in-NotANumber : goal.returns-in-NotANumber
unfolding value_of
returns-in-NotANumber c =
    let first = sym c.in-NotANumber.is ∙ c.classify.ensures ∙ ap class_of c.larger.ensures in
    let a = ordered-nan c.args.x c.args.y _ _ first refl refl in
    rw (c.special.ensures, c.nan_of.ensures) (record { result_value = a.0; mark_value = a.1 })

pub returns-in-Infinite : goal.returns-in-Infinite
unfolding value_of
returns-in-Infinite c =
    let first = sym c.in-Infinite.is ∙ c.classify.ensures ∙ ap class_of c.larger.ensures in
    let second = c.classify-in-Infinite.ensures ∙ ap class_of c.smaller-q.ensures in
    let a = ordered-infinite c.args.x c.args.y _ _ first second _ refl in
    rw (c.special-in-Infinite.ensures, c.infinite_plus.ensures) (record { result_value = a.0; mark_value = a.1 })

pub returns-in-Finite : goal.returns-in-Finite
unfolding value_of
returns-in-Finite c =
    let first = sym c.in-Finite.is ∙ c.classify.ensures ∙ ap class_of c.larger.ensures in
    let second = c.classify-in-Finite.ensures ∙ ap class_of c.smaller-q.ensures in
    let a = ordered-number c.args.x c.args.y _ _ first second refl in
    rw c.finite_plus.ensures (record { result_value = a.0; mark_value = a.1 })
