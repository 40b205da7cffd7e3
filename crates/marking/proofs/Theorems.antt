-- The theorem of `specs/Theorems.antt`.
use mathlib.Core.Path.{refl}
use Rattle.marking.specs.Theorems.{AnswersOfMarking, All}

pub answers-of-marking : AnswersOfMarking
answers-of-marking = (refl, refl, refl, refl, λ line. refl, λ line. refl)

pub all : All
all = answers-of-marking
