-- The theorems of `specs/Theorems.antt`, together.
use Rattle.worksheet_marks.specs.Theorems.{All}
use Rattle.worksheet_marks.proofs.Sums.{finite-sum}
use Rattle.worksheet_marks.proofs.Overflows.{overflowing-sum}
use Rattle.worksheet_marks.proofs.Products.{zero-product, other-product}
use Rattle.worksheet_marks.proofs.Tiny.{tiny-product}
use Rattle.worksheet_marks.proofs.Middle.{middle-product}
use Rattle.worksheet_marks.proofs.ProductOverflows.{overflowing-product}
use Rattle.worksheet_marks.proofs.Special.{special-sum, special-product}
use Rattle.worksheet_marks.proofs.Psi.{psi-mark}
use Rattle.worksheet_marks.proofs.Every.{every-sum, every-product}
use Rattle.worksheet_marks.proofs.Half.{half-mark}
use Rattle.worksheet_marks.proofs.Computed.{worked-marks}
use Rattle.worksheet_marks.proofs.Meaning.{entry-means, table-means, result-at-is}

pub all : All
all = (
  finite-sum,
  overflowing-sum,
  special-sum,
  zero-product,
  tiny-product,
  middle-product,
  other-product,
  overflowing-product,
  special-product,
  every-sum,
  every-product,
  psi-mark,
  half-mark,
  worked-marks,
  entry-means,
  table-means,
  result-at-is,
)
