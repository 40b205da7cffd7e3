-- Proofs of the statements about the texts (specs/Theorems.antt).
use Prim.Native.Nat.{ℕ, suc, min, ◌≤◌, ◌<◌}
use native.Mathlib.Omega.{arith}
use Rattle.worksheet_spec.specs.Lines.{most_lines}
use Rattle.transcript_spec.specs.Texts.{ask_text, step_text, pair_text, bad_text, total_text, end_text, answered_text}
use Rattle.transcript_spec.specs.Theorems.{Decimals, AtMost, NoneEmpty, All}
use Rattle.transcript_spec.proofs.Bytes.{flag-texts, step-fields, mark-texts, line-fields, example}
use Rattle.transcript_spec.proofs.Buffers.{writes-means}
use Rattle.transcript_spec.proofs.Pasted.{put-means}
use Rattle.transcript_spec.proofs.DecimalLaws.{decimal-most, decimal-least}
use Rattle.transcript_spec.proofs.DecimalDigits.{makes-number, are-digits, no-zero-first}
use Rattle.transcript_spec.proofs.FieldLaws.{flags-most}
use Rattle.transcript_spec.proofs.TextLengths.{answered-length}
use Rattle.transcript_spec.proofs.WholeSteps.{steps-most}

pub decimals : Decimals
decimals n h = (makes-number n h, are-digits n, decimal-least n, decimal-most n, no-zero-first n h)

shown-most : (lines : ℕ) → min lines most_lines ≤ most_lines
shown-most lines = omega arith

pub at_most : AtMost
at_most number operation x y words lines pair =
    let steps = steps-most (min lines most_lines) words (shown-most lines) in
    omega (arith, answered-length number operation x y words lines pair, decimal-most number, steps, flags-most pair.flags)

pub none-empty : NoneEmpty
unfolding ask_text step_text pair_text bad_text total_text end_text answered_text
none-empty n o x y words lines p = (some _, some _, some _, some _, some _, some _, some _, some _)
  where
    some : (n : ℕ) → 0 < suc n
    some n = omega arith

pub all : All
all = (decimals, flag-texts, step-fields, mark-texts, line-fields, put-means, writes-means, at_most, none-empty, example)
