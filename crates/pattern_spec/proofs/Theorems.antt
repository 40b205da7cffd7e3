-- The theorems of `specs/Theorems.antt`.
use mathlib.Core.Path.{refl}
use Rattle.pattern_spec.specs.Theorems.{ClassDecodes, ClassBounded, LargerFirst, FlipBits, FlipNegates, PlusExact, TimesExact, AnswerNumbers, All}
use Rattle.pattern_spec.proofs.Classified as classified
use Rattle.pattern_spec.proofs.Ordered as ordered
use Rattle.pattern_spec.proofs.Integers as integers
pub use Rattle.pattern_spec.proofs.Compared.{same-means, less-means}

pub class-decodes : ClassDecodes
class-decodes = classified.value-class

pub class-bounded : ClassBounded
class-bounded = classified.class-bounded

pub larger-first : LargerFirst
larger-first = ordered.larger-first

pub flip_bits : FlipBits
flip_bits = ordered.flip_bits

pub flip-negates : FlipNegates
flip-negates = classified.decode-flip

pub plus-exact : PlusExact
plus-exact = integers.plus-exact

pub times-exact : TimesExact
times-exact = integers.times-exact

pub answer-numbers : AnswerNumbers
answer-numbers A = (λ n. (refl, refl), λ a. (refl, refl))

pub all : All
all = (class-decodes, class-bounded, larger-first, flip_bits, flip-negates, plus-exact, times-exact, same-means, less-means, answer-numbers)
