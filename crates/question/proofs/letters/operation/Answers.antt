use Rattle.std.proofs.Common.{◌∙◌}
use Rattle.question_spec.specs.Questions.{letters_operation}
use Rattle.question.proofs.Starts.{starts-is}
use Rattle.question.proofs.letters.operation.Goals as goal

pub returns-then-starts_with : goal.returns-then-starts_with
unfolding letters_operation
returns-then-starts_with c = rw (starts-is c.args.line.now _ _ _ _ c.requires c.starts_with.ensures.value ∙ c.if-starts_with.true)

pub returns-then-starts_with-2 : goal.returns-then-starts_with-2
unfolding letters_operation
returns-then-starts_with-2 c =
    rw (
      starts-is c.args.line.now _ _ _ _ c.requires c.starts_with.ensures.value ∙ c.if-starts_with.false,
      starts-is c.args.line.now _ _ _ _ c.requires c.starts_with-else-starts_with.ensures.value ∙ c.if-starts_with-2.true,
    )

pub returns-then-starts_with-3 : goal.returns-then-starts_with-3
unfolding letters_operation
returns-then-starts_with-3 c =
    rw (
      starts-is c.args.line.now _ _ _ _ c.requires c.starts_with.ensures.value ∙ c.if-starts_with.false,
      starts-is c.args.line.now _ _ _ _ c.requires c.starts_with-else-starts_with.ensures.value ∙ c.if-starts_with-2.false,
      starts-is c.args.line.now _ _ _ _ c.requires c.starts_with-else-starts_with-2.ensures.value ∙ c.if-starts_with-3.true,
    )

pub returns-else-starts_with-3 : goal.returns-else-starts_with-3
unfolding letters_operation
returns-else-starts_with-3 c =
    rw (
      starts-is c.args.line.now _ _ _ _ c.requires c.starts_with.ensures.value ∙ c.if-starts_with.false,
      starts-is c.args.line.now _ _ _ _ c.requires c.starts_with-else-starts_with.ensures.value ∙ c.if-starts_with-2.false,
      starts-is c.args.line.now _ _ _ _ c.requires c.starts_with-else-starts_with-2.ensures.value ∙ c.if-starts_with-3.false,
    )
