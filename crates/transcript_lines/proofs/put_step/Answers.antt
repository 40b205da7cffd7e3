use native.Mathlib.Omega.{arith}
use lib.ListN.{get_or, length-append}
use mathlib.Core.List.{[], ◌∷◌}
use Rattle.question_spec.specs.Questions.{pattern_text}
use Rattle.transcript_spec.specs.Texts.{step_text, third_text, line_of, mark_text}
use Rattle.transcript_spec.proofs.FieldLaws.{step-letters-length}
use Rattle.transcript_spec.proofs.TextLengths.{step-length}
use Rattle.transcript_fields.proofs.Writing.{and_then}
use Rattle.transcript_lines.proofs.put_step.Goals as goal

pub bytes-requires : goal.bytes-requires
bytes-requires c = let a = c.args in omega (arith, c.requires, step-length a.number a.line.now)

pub decimal-requires : goal.decimal-requires
decimal-requires c = let a = c.args in omega (arith, c.requires, step-length a.number a.line.now)

pub step_letters-requires : goal.step_letters-requires
step_letters-requires c =
    let a = c.args in omega (arith, c.requires, step-length a.number a.line.now, step-letters-length (get_or a.line.now 0 0))

pub patterns-requires : goal.patterns-requires
patterns-requires c =
    let a = c.args in omega (arith, c.requires, step-length a.number a.line.now, step-letters-length (get_or a.line.now 0 0))

pub put_rest-requires : goal.put_rest-requires
put_rest-requires c =
    let l = c.args.line.now in
    let third = third_text (get_or l 0 0) (get_or l 3 0) in
    omega (
      arith,
      c.requires,
      step-length c.args.number l,
      step-letters-length (get_or l 0 0),
      length-append third (line_of ([] ∷ pattern_text (get_or l 4 0) ∷ mark_text (get_or l 5 0) ∷ [])),
    )

pub returns : goal.returns
unfolding step_text
returns c = and_then c.bytes.ensures (and_then c.decimal.ensures (and_then c.step_letters.ensures (and_then c.patterns.ensures c.put_rest.ensures)))
