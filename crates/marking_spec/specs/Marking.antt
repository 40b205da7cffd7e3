-- Marking a candidate's own lines (R13): which operands they may have, which lines are true, the pair that they claim, and the answer.
-- Steps, their marks and the constants are the sheet's.
use Rattle.std.specs.Prelude.{ℕ, suc, ◌*◌, ◌%◌, Bool, false, not, cond, ◌&&◌, ◌||◌, List, [], ◌∷◌, ◌++◌, leb, eqb, length}
use Rattle.rounding_spec.specs.Format.{binary32}
use Rattle.binary32_spec.specs.Steps.{add_step, sub_step, mul_step, fma_step}
use Rattle.augmented_spec.specs.declared.Operation.{Operation}
use Rattle.augmented_spec.specs.Operations.{is_operation, operation_of}
use Rattle.augmented_spec.specs.Direct.{direct_pair}
use Rattle.worksheet_spec.specs.Constants.{factors, smallest}
use Rattle.worksheet_spec.specs.declared.Step.{Step}
use Rattle.worksheet_spec.specs.declared.Step.TheVariants.{Add as add, Subtract as subtract, Multiply as multiply, Fused as fused}
use Rattle.worksheet_spec.specs.Lines.{line_size, mark_of, minus}
use Rattle.marking_spec.specs.declared.Claim.{Claim}
use Rattle.marking_spec.specs.declared.MarkedNumbers.{MarkedNumbers}
use Rattle.marking_spec.specs.declared.NotMarked.{NotMarked}
use Rattle.marking_spec.specs.declared.NotMarked.TheVariants as not_marked

-- ---- a candidate's lines
-- the lines that words hold, six by six (R5.22); fewer words than six are no line
unfoldable pub claims : List ℕ → List Claim
claims (step ∷ x ∷ y ∷ z ∷ result ∷ mark ∷ words) =
    record { step = step; x = x; y = y; z = z; result = result; mark = mark } ∷ claims words
claims (step ∷ x ∷ y ∷ z ∷ result ∷ []) = []
claims (step ∷ x ∷ y ∷ z ∷ []) = []
claims (step ∷ x ∷ y ∷ []) = []
claims (step ∷ x ∷ []) = []
claims (step ∷ []) = []
claims [] = []

-- the results of lines, in order
abbrev pub claimed_results : List Claim → List ℕ
claimed_results [] = []
claimed_results (l ∷ ls) = l.result ∷ claimed_results ls

-- step numbers (R5.22). Any number that is none counts as 4 here; `allowed` keeps it out.
abbrev pub is_step : ℕ → Bool
is_step n = leb 1 n && leb n 4

abbrev pub step_of : ℕ → Step
step_of n = cond (eqb n 1) add (cond (eqb n 2) subtract (cond (eqb n 3) multiply fused))

-- the result of a step, whose third operand may be unused (R2.1)
abbrev pub step_result : Step → ℕ → ℕ → ℕ → ℕ
step_result add x y z = add_step x y
step_result subtract x y z = sub_step x y
step_result multiply x y z = mul_step x y
step_result fused x y z = fma_step x y z

-- ---- operands (R13.2)
-- the eleven constants of the sheet (R5.1), and 80000000
abbrev pub constants : List ℕ
constants = factors ++ (smallest ∷ minus smallest ∷ [])

abbrev pub minus_zero : ℕ
minus_zero = 0x8000_0000

-- p is one of ks, or one of them with its sign flipped
unfoldable pub among : ℕ → List ℕ → Bool
among p [] = false
among p (k ∷ ks) = (eqb p k || eqb p (minus k)) || among p ks

-- what is known behind earlier lines of the question of x and y
abbrev pub known : ℕ → ℕ → List Claim → List ℕ
known x y earlier = x ∷ y ∷ minus_zero ∷ constants ++ claimed_results earlier

-- an unused third operand is 0
abbrev pub third_allowed : List ℕ → Step → ℕ → Bool
third_allowed ks add z = eqb z 0
third_allowed ks subtract z = eqb z 0
third_allowed ks multiply z = eqb z 0
third_allowed ks fused z = among z ks

unfoldable pub allowed : List ℕ → Claim → Bool
unfolding among
allowed ks l = is_step l.step && (among l.x ks && (among l.y ks && third_allowed ks (step_of l.step) l.z))

-- ---- a true line has its step's result and mark (R13.3)
unfoldable pub is_true : Claim → Bool
is_true l = let o = step_of l.step in eqb l.result (step_result o l.x l.y l.z) && eqb l.mark (mark_of o l.x l.y l.z)

-- ---- the claimed pair is the last two results (R13.4): whether it is first and second
unfoldable pub last_two_are : ℕ → ℕ → List Claim → Bool
last_two_are first second [] = false
last_two_are first second (k ∷ []) = false
last_two_are first second (k ∷ l ∷ []) = eqb k.result first && eqb l.result second
last_two_are first second (k ∷ l ∷ m ∷ ls) = last_two_are first second (l ∷ m ∷ ls)

-- ---- the answer: the number of a refusal with the line that it is about, counted from 1, or 0 where it is about none; or right, or not
pub data Marked : Type 0 where
  refused_at : ℕ → ℕ → Marked
  judged : Bool → Marked

-- right exactly where the claimed pair is the direct pair, in every bit (R13.5)
unfoldable pub is_right : Operation → ℕ → ℕ → List Claim → Bool
unfolding last_two_are direct_pair
is_right o x y ls = let p = direct_pair o binary32 x y in last_two_are p.first p.second ls

-- lines in their order, behind earlier ones that met no refusal (R8.18)
unfoldable pub in_order : Operation → ℕ → ℕ → List Claim → List Claim → Marked
unfolding is_right allowed is_true
in_order o x y earlier [] = judged (is_right o x y earlier)
in_order o x y earlier (l ∷ later) =
    cond (not (allowed (known x y earlier) l)) (refused_at 14 (suc (length earlier)))
    (cond (not (is_true l)) (refused_at 15 (suc (length earlier)))
    (in_order o x y (earlier ++ (l ∷ [])) later))

-- so many words are whole lines, at least two and at most 100 (R8.18)
abbrev pub fewest_marked : ℕ
fewest_marked = 2

abbrev pub most_marked : ℕ
most_marked = 100

abbrev pub is_markable : ℕ → Bool
is_markable words = eqb (words % line_size) 0 && (leb (fewest_marked * line_size) words && leb words (most_marked * line_size))

-- refused by 10, an unknown operation number, by 13, unfit words, or by 14 or 15 at a line (R8.18); or judged
unfoldable pub marking : ℕ → ℕ → ℕ → List ℕ → Marked
unfolding in_order claims
marking operation x y words =
    cond (not (is_operation operation)) (refused_at 10 0)
    (cond (not (is_markable (length words))) (refused_at 13 0)
    (in_order (operation_of operation) x y [] (claims words)))

-- ---- the answer as numbers: 0 where there is no refusal, and not right where there is one
abbrev pub marked_numbers : Marked → MarkedNumbers
marked_numbers (refused_at n at) = record { refusal = n; line = at; right = false }
marked_numbers (judged right) = record { refusal = 0; line = 0; right = right }

-- ---- the code's refusals, by their numbers and lines (R8.18)
abbrev pub refusal_marked : NotMarked → Marked
refusal_marked not_marked.Operation = refused_at 10 0
refusal_marked not_marked.Words = refused_at 13 0
refusal_marked (not_marked.NotAllowed line) = refused_at 14 line
refusal_marked (not_marked.NotTrue line) = refused_at 15 line
