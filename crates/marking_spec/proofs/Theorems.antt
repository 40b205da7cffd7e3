-- The theorems of `specs/Theorems.antt`.
use mathlib.Core.Path.{◌≡◌, refl, ap, ◌∙◌}
use Prim.Native.Nat.{◌*◌, ◌/◌}
use native.Mathlib.Omega.{arith}
use lib.ListN.{length}
use Rattle.marking_spec.specs.declared.MarkedNumbers.{MarkedNumbers}
use Rattle.marking_spec.specs.Marking.{Marked, refused_at, judged, marking, marked_numbers}
use Rattle.marking_spec.specs.Theorems.{MarkingSizes, MarkingConstants, ClaimsMeans, KnownMeans, AllowedMeans, TrueMeans}
use Rattle.marking_spec.specs.Theorems.{MarkingMeans, NumbersMean, RightExactly, ModelSheetRight, FilledSheetRight, MarkedExamples, All}
use Rattle.marking_spec.proofs.Claims.{words_of, claims-count}
use Rattle.marking_spec.proofs.Members as members
use Rattle.marking_spec.proofs.Said as answers
use Rattle.marking_spec.proofs.ModelSheet as model
use Rattle.marking_spec.proofs.FilledSheet as filling
use Rattle.marking_spec.proofs.Computed as computed

pub marking-sizes : MarkingSizes
marking-sizes = (refl, refl)

pub marking-constants : MarkingConstants
marking-constants = (refl, refl)

pub claims-means : ClaimsMeans
claims-means words h =
    let k = length words / 6 in
    let whole : length words ≡ 6 * k = omega arith in
    (words_of k words whole, omega (arith, claims-count k words whole))

pub known-means : KnownMeans
known-means = members.known-means

pub allowed-means : AllowedMeans
allowed-means = members.allowed-means

pub true-means : TrueMeans
true-means = members.true-means

pub marking-means : MarkingMeans
marking-means = answers.marking-means

pub numbers-mean : NumbersMean
numbers-mean n x y words r h =
    let fields : (a : Marked) → marking n x y words ≡ a → r ≡ marked_numbers a = λ a e. h ∙ ap marked_numbers e in (
      λ refusal at s. let e = fields (refused_at refusal at) ((marking-means n x y words (refused_at refusal at)).1 s) in (
        ap (λ (m : MarkedNumbers). m.refusal) e,
        ap (λ (m : MarkedNumbers). m.line) e,
        ap (λ (m : MarkedNumbers). m.right) e,
      ),
      λ right s. let e = fields (judged right) ((marking-means n x y words (judged right)).1 s) in (
        ap (λ (m : MarkedNumbers). m.refusal) e,
        ap (λ (m : MarkedNumbers). m.line) e,
        ap (λ (m : MarkedNumbers). m.right) e,
      ),
    )

pub right-exactly : RightExactly
right-exactly = answers.right-exactly

pub model-sheet-right : ModelSheetRight
model-sheet-right = model.model-sheet-right

pub filled-sheet-right : FilledSheetRight
filled-sheet-right o x y words i j line_count p h = filling.filled-sheet-right o x y words line_count p h i j

pub marked-examples : MarkedExamples
marked-examples = computed.marked-examples

pub all : All
all = (
  marking-sizes,
  marking-constants,
  claims-means,
  known-means,
  allowed-means,
  true-means,
  marking-means,
  numbers-mean,
  right-exactly,
  model-sheet-right,
  filled-sheet-right,
  marked-examples,
)
