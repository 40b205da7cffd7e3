-- All that specs/Theorems states, proved.
use mathlib.Core.Path.{refl}
use Rattle.accumulator_spec.specs.AnswerTheorems.{AnswersOfOne, AnswersOfTwo}
use Rattle.accumulator_spec.specs.Theorems.{TotalSizes, All}
use Rattle.accumulator_spec.proofs.EachWord.{word_at, natural-words}
use Rattle.accumulator_spec.proofs.TwosComplement.{words-formed, integer-held, words-unique}
use Rattle.accumulator_spec.proofs.Zeros.{cleared-zeros}
use Rattle.accumulator_spec.proofs.Held.{number-and-count, number-held, total-unique}
use Rattle.accumulator_spec.proofs.Landmarks.{total-landmarks, finite-operands-are, pattern-term, product_term, term-landmarks, exact-back}
use Rattle.accumulator_spec.proofs.Answers.{adding-refused, refused-term, clearing-is, reading-refused}
use Rattle.accumulator_spec.proofs.Adding.{fit_is, lowest-unfit, within-is, unfit-signs, accepted-term, exact-adding}
use Rattle.accumulator_spec.proofs.Signs.{sign-of-both-is}
use Rattle.accumulator_spec.proofs.MinusZeros.{pattern-minus-zero, product-minus-zero, column-sign-is, column-minus-zero, sign-landmarks}
use Rattle.accumulator_spec.proofs.Carried.{carrying-refused, carries-means, carries-numbered-means, fit-old-is, old-reads, carried-fit}
use Rattle.accumulator_spec.proofs.Carried.{old-column-is, carried-terms-are, carried-column}
use Rattle.accumulator_spec.proofs.Relations.{clears-means, clear-numbers, adds-means, adds-numbered-means, adds-alike, read-numbers}
use Rattle.accumulator_spec.proofs.Columns.{column-next, accepted-each, all-finite-is, exact-column, any_order}
use Rattle.accumulator_spec.proofs.Joining.{joining-refused, accepted-join, exact-join, refused-join, joins-means, joins-numbered-means}
use Rattle.accumulator_spec.proofs.Builds.{built-by, built-is-column, old-built-is, joined-is-column, columns-join, column-built, empty-joins, join-landmarks}
use Rattle.accumulator_spec.proofs.ReadTotal.{read-fit, read-column, read-finite, read-zero, read-rounded-to-zero}
use Rattle.accumulator_spec.proofs.ReadPairs.{read-overflow, read-sum, read-product}

pub total-sizes : TotalSizes
total-sizes = (refl, refl, refl, refl)

pub answers-of-one : AnswersOfOne
answers-of-one = (refl, refl, refl, refl, refl, λ first second. refl, refl, refl)

pub answers-of-two : AnswersOfTwo
answers-of-two = (refl, refl, refl, refl)

pub all : All
all = (
  total-sizes,
  word_at,
  words-formed,
  natural-words,
  integer-held,
  words-unique,
  number-and-count,
  number-held,
  total-unique,
  total-landmarks,
  fit_is,
  lowest-unfit,
  cleared-zeros,
  finite-operands-are,
  pattern-term,
  product_term,
  term-landmarks,
  adding-refused,
  accepted-term,
  exact-adding,
  refused-term,
  clearing-is,
  clears-means,
  clear-numbers,
  adds-means,
  adds-numbered-means,
  adds-alike,
  column-next,
  accepted-each,
  all-finite-is,
  exact-column,
  any_order,
  reading-refused,
  read-fit,
  read-numbers,
  read-column,
  exact-back,
  read-finite,
  read-overflow,
  read-zero,
  read-rounded-to-zero,
  read-sum,
  read-product,
  joining-refused,
  accepted-join,
  exact-join,
  refused-join,
  joins-means,
  joins-numbered-means,
  built-by,
  built-is-column,
  joined-is-column,
  columns-join,
  column-built,
  empty-joins,
  join-landmarks,
  sign-of-both-is,
  pattern-minus-zero,
  product-minus-zero,
  within-is,
  unfit-signs,
  column-sign-is,
  column-minus-zero,
  carrying-refused,
  carries-means,
  carries-numbered-means,
  fit-old-is,
  old-reads,
  carried-fit,
  old-column-is,
  old-built-is,
  carried-terms-are,
  carried-column,
  sign-landmarks,
  answers-of-one,
  answers-of-two,
)
