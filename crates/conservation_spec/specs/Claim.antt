-- The claim about a list (R7.13, R7.16): what two totals hold and read after it, and how each of its calls was met.
use Rattle.std.specs.Prelude.{◌+◌, ◌*◌, ◌<◌, ◌≡◌, true, false, List, [], ◌∷◌, pos, take}
use Rattle.pattern_spec.specs.Answer.{Answer, refused, done}
use Rattle.rounding_spec.specs.Format.{binary32}
use Rattle.augmented_spec.specs.Pairs.{pair_of}
use Rattle.accumulator_spec.specs.Totals.{number_size, number, count, sign_word, total_of, finite_operands, adding}
use Rattle.accumulator_spec.specs.Totals.{pair_read, pair_answer, reading}
use Rattle.accumulator_spec.specs.Columns.{Accepted}
use Rattle.conservation_spec.specs.Lists.{sheet_for, operation_for, enters, foot_terms, set_terms, Totals, total_on}
use Rattle.conservation_spec.specs.Lists.{Event, asks, reads, adds, after_event}
use Rattle.conservation_spec.specs.Lists.{book, book_sign, entering_sums, entering_products, book_value}

-- what the totals t hold and read, given S with its sign word, s and p
pub record BothHold (t : Totals) (es : List Event) : Type 0 where
  -- the number words of both hold S
  pub first_number : number t.first ≡ book es
  pub other_number : number t.other ≡ book es
  pub same_words : take number_size t.first ≡ take number_size t.other
  -- and their sign words S's
  pub first_sign : sign_word t.first ≡ book_sign es
  pub other_sign : sign_word t.other ≡ book_sign es
  pub same_sign : sign_word t.first ≡ sign_word t.other
  -- the counts (R7.13)
  pub first_count : count t.first ≡ 2 * (entering_sums es + entering_products es)
  pub other_count : count t.other ≡ 2 * entering_sums es + entering_products es
  -- all their words
  pub first_words : t.first ≡ total_of (book es) (2 * (entering_sums es + entering_products es)) (book_sign es)
  pub other_words : t.other ≡ total_of (book es) (2 * entering_sums es + entering_products es) (book_sign es)
  -- both read the same, as R6.5 to R6.8 have it for S with its sign word
  pub first_read : reading t.first ≡ pair_answer (pair_of binary32 (book_value es))
  pub other_read : reading t.other ≡ pair_answer (pair_of binary32 (book_value es))
  -- where S and its sign word are 0: -0 twice after any entering question, +0 twice before the first (R7.16)
  pub minus_read : book es ≡ pos 0 → book_sign es ≡ 0 → 0 < entering_sums es + entering_products es
      → (reading t.first ≡ pair_read 0x8000_0000 0x8000_0000) × (reading t.other ≡ pair_read 0x8000_0000 0x8000_0000)
  pub empty_read : book es ≡ pos 0 → book_sign es ≡ 0 → entering_sums es + entering_products es ≡ 0
      → (reading t.first ≡ pair_read 0 0) × (reading t.other ≡ pair_read 0 0)
  -- and where S is 0 and its sign word is not, +0 twice
  pub plus_read : book es ≡ pos 0 → book_sign es ≡ 1 → (reading t.first ≡ pair_read 0 0) × (reading t.other ≡ pair_read 0 0)

-- How a call was met. All terms of an entering question were accepted (R7.13). Other adding calls answer 7 or 8, and nothing is changed by
-- them, by a question that does not enter, or by a reading (R7.7, R7.11); what a reading answers is stated of the list before it, by
-- `ReadEach`.
abbrev pub MetNow : Totals → Event → Type 0
MetNow t (asks q) =
    (enters q ≡ true
    → Accepted t.first (foot_terms (sheet_for q)) × Accepted t.other (set_terms (operation_for q) q.x q.y))
    × (enters q ≡ false → after_event t (asks q) ≡ t)
MetNow t (reads side) = after_event t (reads side) ≡ t
MetNow t (adds side x) =
    (finite_operands x ≡ false → adding (total_on side t) x ≡ refused 7)
    × (finite_operands x ≡ true → adding (total_on side t) x ≡ refused 8)
    × (after_event t (adds side x) ≡ t)

unfoldable pub Met : Totals → List Event → Type 0
Met t [] = Unit {0}
Met t (e ∷ es) = MetNow t e × Met (after_event t e) es

-- of a list in one call: the claim, where the call was carried out, over the totals before and after it
abbrev pub Conserves : Answer (Unit {0}) → List Event → Totals → Totals → Type 0
Conserves (refused n) es before after = Unit {0}
Conserves (done u) es before after = BothHold after es × Met before es
