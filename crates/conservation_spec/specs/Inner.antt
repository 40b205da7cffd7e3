-- What settling one question promises to the list: its sheet in the lent words, and its terms on both totals.
use Rattle.std.specs.Prelude.{ℕ, ◌≡◌, List}
use Rattle.worksheet_spec.specs.Filling.{after_filling}
use Rattle.conservation_spec.specs.Lists.{Posed, Totals, after_question}

-- its words as they end, and the totals before and after it
abbrev pub Settles : Posed → Totals → List ℕ → Totals → Type 0
Settles q before words after =
    (words ≡ after_filling q.operation q.x q.y q.words) × (after ≡ after_question q before)
