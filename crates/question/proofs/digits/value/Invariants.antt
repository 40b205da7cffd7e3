use Rattle.std.proofs.Common.{◌≡◌, ◌^◌, ◌<◌, drop}
use Rattle.question_spec.specs.Questions.{all_digits, pattern_from}
use Rattle.question.proofs.digits.value.Given as goal

abbrev pub invariant-loop-byte : goal.invariant-loop-byte
invariant-loop-byte l = record {
  fits : l.n < 16 ^ l.byte-index;
  number : pattern_from l.n (drop l.byte-index l.bytes) ≡ pattern_from 0 l.bytes;
  digits : all_digits (drop l.byte-index l.bytes) ≡ all_digits l.bytes;
}
