-- What a text at the start of a lent buffer leaves there, where it has room and where it has none.
use Prim.Native.Nat.{ℕ, ◌≤◌, ◌<◌}
use mathlib.Core.Path.{◌≡◌, sym, ◌∙◌}
use mathlib.Core.List.{List, ◌++◌}
use borrow.Author.Tests.{le-leb, lt-leb}
use lib.ListN.{length, drop}
use lib.Seq.{take-append_seam, drop-append_seam}
use Rattle.transcript_spec.specs.Buffers.{written, after_writing}
use Rattle.transcript_spec.specs.Theorems.{WritesMeans}

pub fits : (s t : List ℕ) → length t ≤ length s → (written s t ≡ length t) × (after_writing s t ≡ t ++ drop (length t) s)
unfolding written after_writing
fits s t h = (rw (le-leb (length t) (length s) h), rw (le-leb (length t) (length s) h))

pub too_short : (s t : List ℕ) → length s < length t → (0 ≡ written s t) × (s ≡ after_writing s t)
unfolding written after_writing
too_short s t h = (rw (lt-leb (length t) (length s) h), rw (lt-leb (length t) (length s) h))

-- where there is room the buffer begins with the text and is unchanged behind it
pub writes-means : WritesMeans
writes-means out text after answer w = (
  λ h. let f = fits out text h in
      let is = w.1 ∙ f.1 in
      (w.0 ∙ f.0, rw is (take-append_seam text (drop (length text) out)), rw is (drop-append_seam text (drop (length text) out))),
  λ h. let f = too_short out text h in (w.0 ∙ sym f.0, w.1 ∙ sym f.1),
)
