-- Lists of calls over two totals (R7): which question enters, what each call leaves, and S with its sign word.
-- Questions and adding calls act by the definitions that the contracts of `fill`, `add_pattern` and `add_product` cite; `read` is lent its
-- total to look at only, and answers by `reading`.
use Rattle.std.specs.Prelude.{ℕ, suc, ◌+◌, Bool, not, cond, ◌&&◌, ◌||◌, List, [], ◌∷◌, eqb, ℤ, pos, ◌+ℤ◌}
use Rattle.std.specs.Float.Ieee.{unlike}
use Rattle.pattern_spec.specs.Answer.{Answer, refused, done, is_done}
use Rattle.rounding_spec.specs.Format.{binary32}
use Rattle.rounding_spec.specs.Value.{Value, nan, infinite, finite, decode}
use Rattle.pattern_spec.specs.Classes.{both_finite, flip}
use Rattle.pattern_spec.specs.Exact.{whole}
use Rattle.augmented_spec.specs.declared.Pair.{Pair}
use Rattle.augmented_spec.specs.declared.Operation.{Operation}
use Rattle.augmented_spec.specs.declared.Operation.TheVariants.{Sum as sum, Difference as difference, Product as product}
use Rattle.augmented_spec.specs.Operations.{operation_of}
use Rattle.augmented_spec.specs.Direct.{direct_pair, exact_result}
use Rattle.worksheet_spec.specs.Filling.{FilledSheet, filling}
use Rattle.accumulator_spec.specs.Totals.{Term, of_pattern, of_product, after_adding, exact_total}
use Rattle.accumulator_spec.specs.Columns.{column}

-- ---- questions
-- most questions of a list (R7.6)
abbrev pub most_questions : ℕ
most_questions = 32768

-- a question as it is posed: an operation number, two patterns, and lent words of its own (R7.1)
pub record Posed : Type 0 where
  pub operation : ℕ
  pub x : ℕ
  pub y : ℕ
  pub words : List ℕ

-- what filling answers it (R7.2)
abbrev pub sheet_for : Posed → Answer FilledSheet
sheet_for q = filling q.operation q.x q.y q.words

abbrev pub operation_for : Posed → Operation
operation_for q = operation_of q.operation

-- its direct pair, with flags (R7.4)
abbrev pub direct_for : Posed → Pair
direct_for q = direct_pair (operation_for q) binary32 q.x q.y

-- a pair enters if it is finite and its flags have no X
abbrev pub pair_enters : Pair → Bool
pair_enters p = both_finite p.first p.second && not p.flags.inexact

-- a question enters where filling does not refuse it and its direct pair does (R7.8)
unfoldable pub enters : Posed → Bool
enters q = is_done (sheet_for q) && pair_enters (direct_for q)

-- ---- the terms of an entering question
-- for the first total (R7.9): both halves of the foot
abbrev pub foot_terms : Answer FilledSheet → List Term
foot_terms (refused n) = []
foot_terms (done s) = of_pattern s.pair.first ∷ of_pattern s.pair.second ∷ []

-- for the other total (R7.10): the question's two addends, or its product
abbrev pub set_terms : Operation → ℕ → ℕ → List Term
set_terms sum x y = of_pattern x ∷ of_pattern y ∷ []
set_terms difference x y = of_pattern x ∷ of_pattern (flip binary32 y) ∷ []
set_terms product x y = of_product x y ∷ []

-- ---- two totals, and the calls on them
pub record Totals : Type 0 where
  pub first : List ℕ
  pub other : List ℕ

pub data Side : Type 0 where
  on_first : Side
  on_other : Side

abbrev pub total_on : Side → Totals → List ℕ
total_on on_first t = t.first
total_on on_other t = t.other

-- a question, a reading or an adding call on either total (R7.7)
pub data Event : Type 0 where
  asks : Posed → Event
  reads : Side → Event
  adds : Side → Term → Event

-- each call finds the words that the call before it left (R7.5)
abbrev pub added_on : Side → Term → Totals → Totals
added_on on_first x t = record { first = after_adding t.first x; other = t.other }
added_on on_other x t = record { first = t.first; other = after_adding t.other x }

-- an entering question gives its terms (R7.9, R7.10), any other nothing (R7.11)
abbrev pub after_question : Posed → Totals → Totals
after_question q t =
    cond (enters q)
    (record { first = column t.first (foot_terms (sheet_for q)); other = column t.other (set_terms (operation_for q) q.x q.y) })
    t

abbrev pub after_event : Totals → Event → Totals
after_event t (asks q) = after_question q t
after_event t (reads side) = t
after_event t (adds side x) = added_on side x t

unfoldable pub after_events : Totals → List Event → Totals
after_events t [] = t
after_events t (e ∷ es) = after_events (after_event t e) es

-- ---- S, kept apart from the totals (R7.12), in units of 2^-298
-- a question's exact result, from the decoded operands alone
abbrev pub exact_of_patterns : Operation → ℕ → ℕ → ℤ
exact_of_patterns o x y = exact_result o binary32 (whole (decode binary32 x)) (whole (decode binary32 y))

-- it starts from 0, and changes by each entering question's exact result and by nothing else
unfoldable pub book : List Event → ℤ
book [] = pos 0
book (asks q ∷ es) = cond (enters q) (exact_of_patterns (operation_for q) q.x q.y) (pos 0) +ℤ book es
book (reads side ∷ es) = book es
book (adds side x ∷ es) = book es

-- ---- S's sign word, kept apart from the totals too (R7.16)
-- all terms of a question are -0: both addends, y with the other sign in a difference; or the product. s and t are the operands' signs, a
-- and b their magnitudes.
abbrev pub minus_zeros : Operation → Bool → ℕ → Bool → ℕ → Bool
minus_zeros sum s a t b = s && eqb a 0 && (t && eqb b 0)
minus_zeros difference s a t b = s && eqb a 0 && (not t && eqb b 0)
minus_zeros product s a t b = unlike s t && (eqb a 0 || eqb b 0)

-- a question's sign word; no question on other operands enters (`EntersFinite` of Theorems)
abbrev pub sign_of_values : Operation → Value → Value → ℕ
sign_of_values o (finite s a) (finite t b) = cond (minus_zeros o s a t b) 0 1
sign_of_values o (finite s a) (infinite t) = 1
sign_of_values o (finite s a) nan = 1
sign_of_values o (infinite s) w = 1
sign_of_values o nan w = 1

abbrev pub sign_of_patterns : Operation → ℕ → ℕ → ℕ
sign_of_patterns o x y = sign_of_values o (decode binary32 x) (decode binary32 y)

-- it starts from 0, and is 1 from the first entering question on whose own is 1
unfoldable pub book_sign : List Event → ℕ
book_sign [] = 0
book_sign (asks q ∷ es) = cond (enters q && eqb (sign_of_patterns (operation_for q) q.x q.y) 1) 1 (book_sign es)
book_sign (reads side ∷ es) = book_sign es
book_sign (adds side x ∷ es) = book_sign es

-- ---- how many: questions (R7.6), entering sums and differences, and entering products (R7.13's s and p)
unfoldable pub questions : List Event → ℕ
questions [] = 0
questions (asks q ∷ es) = suc (questions es)
questions (reads side ∷ es) = questions es
questions (adds side x ∷ es) = questions es

abbrev pub one_sum : Operation → ℕ
one_sum sum = 1
one_sum difference = 1
one_sum product = 0

abbrev pub one_product : Operation → ℕ
one_product sum = 0
one_product difference = 0
one_product product = 1

unfoldable pub entering_sums : List Event → ℕ
entering_sums [] = 0
entering_sums (asks q ∷ es) = cond (enters q) (one_sum (operation_for q)) 0 + entering_sums es
entering_sums (reads side ∷ es) = entering_sums es
entering_sums (adds side x ∷ es) = entering_sums es

unfoldable pub entering_products : List Event → ℕ
entering_products [] = 0
entering_products (asks q ∷ es) = cond (enters q) (one_product (operation_for q)) 0 + entering_products es
entering_products (reads side ∷ es) = entering_products es
entering_products (adds side x ∷ es) = entering_products es

-- what both totals are to read: the exact value of S with its sign word (R7.13, R7.16)
abbrev pub book_value : List Event → Value
book_value es = exact_total (book es) (entering_sums es + entering_products es) (book_sign es)
