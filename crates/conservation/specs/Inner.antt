-- What functions below `replay` ask of each other.
use Rattle.std.specs.Prelude.{◌≡◌, List, ℕ, length}
use Rattle.conservation_spec.specs.Lists.{Posed, Totals}
use Rattle.conservation_spec.specs.Replay.{Asking, Lent}
use Rattle.conservation.specs.declared.questions.Questions.{Questions}
use Rattle.conservation.specs.declared.questions.Question.{Question}

-- what is asked, and what is lent
abbrev pub asking : Questions → Asking
asking q = record { operations = q.operations.now; xs = q.xs.now; ys = q.ys.now; counts = q.counts.now }

abbrev pub totals : List ℕ → List ℕ → Totals
totals first other = record { first = first; other = other }

abbrev pub lent : List ℕ → List ℕ → List ℕ → Lent
lent words first other = record { words = words; totals = totals first other }

-- one question of them, and the words that it is given
abbrev pub posed : Question → List ℕ → Posed
posed q words = record { operation = q.operation; x = q.x; y = q.y; words = words }

-- arrays of one length
abbrev pub Equal : Questions → Type 0
Equal q =
    (length q.xs.now ≡ length q.operations.now) × (length q.ys.now ≡ length q.operations.now)
    × (length q.counts.now ≡ length q.operations.now)
