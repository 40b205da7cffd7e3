-- What holds of the texts. Each name is a statement; proofs/Theorems.antt has its proof.
use Rattle.std.specs.Prelude.{ℕ, ◌+◌, ◌*◌, ◌-◌, ◌^◌, ◌≤◌, ◌<◌, ◌≡◌, ◌≢◌, Bool, true, false, List, [], ◌∷◌, ◌++◌, length, get_or, take, drop}
use Prim.Native.Char.{code}
use Rattle.augmented_spec.specs.declared.Operation.TheVariants.{Sum as sum, Difference as difference, Product as product}
use Rattle.augmented_spec.specs.Operations.{operation_number}
use Rattle.augmented_spec.specs.Direct.{none, I, OX, UX}
use Rattle.augmented_spec.specs.declared.Flags.{Flags}
use Rattle.augmented_spec.specs.declared.Pair.{Pair}
use Rattle.worksheet_spec.specs.declared.Step.TheVariants.{Add as add, Subtract as subtract, Multiply as multiply, Fused as fused}
use Rattle.worksheet_spec.specs.Steps.{step_number}
use Rattle.question_spec.specs.Ascii.{ascii}
use Rattle.question_spec.specs.Questions.{pattern_text, question_text}
use Rattle.transcript_spec.specs.Texts.{
  decimal,
  flags_text,
  mark_text,
  ask_text,
  step_text,
  pair_text,
  bad_text,
  total_text,
  end_text,
  stop_text,
  answered_text,
  line_room,
}
use Rattle.transcript_spec.specs.Buffers.{Put, Writes}

-- ---- decimals
-- the number that decimal digits make, the most significant first
unfoldable pub from_digits : ℕ → List ℕ → ℕ
from_digits n [] = n
from_digits n (c ∷ cs) = from_digits (n * 10 + (c - code "0")) cs

-- every byte is a decimal digit
unfoldable pub Digits : List ℕ → Type 0
Digits [] = Unit {0}
Digits (c ∷ cs) = (code "0" ≤ c) × (c ≤ code "9") × Digits cs

-- a decimal is digits that make its number, and has no zero in front (R0.7)
abbrev pub Decimals : Type 0
Decimals =
    (n : ℕ) → n < 2 ^ 32
    → (from_digits 0 (decimal n) ≡ n) × Digits (decimal n) × (1 ≤ length (decimal n)) × (length (decimal n) ≤ 10)
    × (1 < length (decimal n) → get_or (decimal n) 0 0 ≢ code "0")

-- ---- flags: of every set the letters, in the order I O U X, or a dash where it is empty (R4.1)
abbrev pub raised : Bool → Bool → Bool → Bool → Flags
raised invalid overflow underflow inexact =
    record { invalid = invalid; overflow = overflow; underflow = underflow; inexact = inexact }

abbrev pub FlagTexts : Type 0
FlagTexts =
    (flags_text (raised false false false false) ≡ ascii "-") × (flags_text (raised false false false true) ≡ ascii "X")
    × (flags_text (raised false false true false) ≡ ascii "U") × (flags_text (raised false false true true) ≡ ascii "UX")
    × (flags_text (raised false true false false) ≡ ascii "O") × (flags_text (raised false true false true) ≡ ascii "OX")
    × (flags_text (raised false true true false) ≡ ascii "OU") × (flags_text (raised false true true true) ≡ ascii "OUX")
    × (flags_text (raised true false false false) ≡ ascii "I") × (flags_text (raised true false false true) ≡ ascii "IX")
    × (flags_text (raised true false true false) ≡ ascii "IU") × (flags_text (raised true false true true) ≡ ascii "IUX")
    × (flags_text (raised true true false false) ≡ ascii "IO") × (flags_text (raised true true false true) ≡ ascii "IOX")
    × (flags_text (raised true true true false) ≡ ascii "IOU") × (flags_text (raised true true true true) ≡ ascii "IOUX")

-- ---- lines, whatever stands in their fields: tabs between the fields and a newline at the end (R9.2)
-- a step, of these letters, this text of the third operand and this digit (R9.5)
abbrev pub step_line : ℕ → List ℕ → ℕ → ℕ → List ℕ → ℕ → List ℕ → List ℕ
step_line n letters x y third r digit =
    ascii "step\t" ++ (decimal n ++ (ascii "\t" ++ (letters ++ (ascii "\t" ++ (pattern_text x ++ (ascii "\t" ++ (pattern_text y
    ++ (ascii "\t" ++ (third ++ (ascii "\t" ++ (pattern_text r ++ (ascii "\t" ++ (digit ++ ascii "\n")))))))))))))

-- by the operation's number (R5.22): the third operand of a fused step, whatever it is, and of no other
abbrev pub StepFields : Type 0
StepFields =
    (n x y z r m : ℕ) (more : List ℕ)
    → (step_text n (1 ∷ x ∷ y ∷ z ∷ r ∷ m ∷ more) ≡ step_line n (ascii "add") x y (ascii "-") r (mark_text m))
    × (step_text n (2 ∷ x ∷ y ∷ z ∷ r ∷ m ∷ more) ≡ step_line n (ascii "sub") x y (ascii "-") r (mark_text m))
    × (step_text n (3 ∷ x ∷ y ∷ z ∷ r ∷ m ∷ more) ≡ step_line n (ascii "mul") x y (ascii "-") r (mark_text m))
    × (step_text n (4 ∷ x ∷ y ∷ z ∷ r ∷ m ∷ more) ≡ step_line n (ascii "fma") x y (pattern_text z) r (mark_text m))

-- the digits of the three marks (R2.8, R9.5); a word that is none is shown as 2
abbrev pub MarkTexts : Type 0
MarkTexts = (mark_text 0 ≡ ascii "0") × (mark_text 1 ≡ ascii "1") × ((m : ℕ) → 2 ≤ m → mark_text m ≡ ascii "2")

-- the other lines (R9.4, R9.6 to R9.9)
abbrev pub LineFields : Type 0
LineFields =
    ((n o x y : ℕ) → ask_text n o x y ≡ ascii "ask\t" ++ (decimal n ++ (ascii "\t" ++ (question_text o x y ++ ascii "\n"))))
    × ((first second : ℕ) (f : Flags) → pair_text (record { first = first; second = second; flags = f })
    ≡ ascii "pair\t" ++ (pattern_text first ++ (ascii "\t" ++ (pattern_text second ++ (ascii "\t" ++ (flags_text f ++ ascii "\n"))))))
    × ((n k : ℕ) → bad_text n k ≡ ascii "bad\t" ++ (decimal n ++ (ascii "\t" ++ (decimal k ++ ascii "\n"))))
    × ((x y : ℕ) → total_text x y ≡ ascii "total\t" ++ (pattern_text x ++ (ascii "\t" ++ (pattern_text y ++ ascii "\n"))))
    × ((good bad : ℕ) → end_text good bad ≡ ascii "end\t" ++ (decimal good ++ (ascii "\t" ++ (decimal bad ++ ascii "\n"))))

-- ---- buffers (R8.14)
-- a text put from the byte `at` on ends within the buffer, where the answer says; all bytes before it and behind it are unchanged
abbrev pub PutMeans : Type 0
PutMeans =
    (out text after : List ℕ) (at next : ℕ) → Put out at text next after
    → (next ≡ at + length text) × (next ≤ length out) × (length after ≡ length out)
    × (take at after ≡ take at out) × (take (length text) (drop at after) ≡ text) × (drop next after ≡ drop next out)

-- a buffer that is long enough begins with the text and is unchanged behind it, one that is too short is unchanged
abbrev pub WritesMeans : Type 0
WritesMeans =
    (out text after : List ℕ) (answer : ℕ) → Writes out text answer after
    → (length text ≤ length out
    → (answer ≡ length text) × (take (length text) after ≡ text) × (drop (length text) after ≡ drop (length text) out))
    × (length out < length text → (answer ≡ 0) × (after ≡ out))

-- ---- lengths: a question's text has room, and no text is empty, so that an answer of 0 is no length of one
abbrev pub AtMost : Type 0
AtMost =
    (number operation x y : ℕ) (words : List ℕ) (lines : ℕ) (pair : Pair)
    → length (answered_text number operation x y words lines pair) ≤ line_room

abbrev pub NoneEmpty : Type 0
NoneEmpty =
    (n o x y : ℕ) (words : List ℕ) (lines : ℕ) (p : Pair)
    → (0 < length (ask_text n o x y)) × (0 < length (step_text n words)) × (0 < length (pair_text p)) × (0 < length (bad_text n o))
    × (0 < length (total_text x y)) × (0 < length (end_text n o)) × (0 < length stop_text)
    × (0 < length (answered_text n o x y words lines p))

-- ---- lines of R9.11, and others that have every digit, all letters and flags, three operands, a third operand of 0, every mark,
-- and a refusal
abbrev pub Example : Type 0
Example =
    (ask_text 1 (operation_number sum) 0x3f80_0001 0x3380_0000 ≡ ascii "ask\t1\tsum\t3F800001\t33800000\n")
    × (ask_text 12 (operation_number difference) 0x0123_4567 0x89ab_cdef ≡ ascii "ask\t12\tdif\t01234567\t89ABCDEF\n")
    × (ask_text 345 (operation_number product) 0xfedc_ba98 0x7654_3210 ≡ ascii "ask\t345\tmul\tFEDCBA98\t76543210\n")
    × (step_text 1 (step_number add ∷ 0x3f80_0001 ∷ 0x3380_0000 ∷ 0 ∷ 0x3f80_0002 ∷ 1 ∷ [])
    ≡ ascii "step\t1\tadd\t3F800001\t33800000\t-\t3F800002\t1\n")
    × (step_text 2 (step_number subtract ∷ 0x3f80_0002 ∷ 0x3f80_0001 ∷ 0 ∷ 0x3400_0000 ∷ 0 ∷ [])
    ≡ ascii "step\t2\tsub\t3F800002\t3F800001\t-\t34000000\t0\n")
    × (step_text 4 (step_number multiply ∷ 0x3f7f_ffff ∷ 0x3f80_0002 ∷ 0 ∷ 0x3f80_0001 ∷ 1 ∷ [])
    ≡ ascii "step\t4\tmul\t3F7FFFFF\t3F800002\t-\t3F800001\t1\n")
    × (step_text 10 (step_number fused ∷ 0x3f80_0001 ∷ 0x3f80_0001 ∷ 0 ∷ 0x3f80_0002 ∷ 1 ∷ [])
    ≡ ascii "step\t10\tfma\t3F800001\t3F800001\t00000000\t3F800002\t1\n")
    × (step_text 11 (step_number fused ∷ 0x4178_0000 ∷ 0x7d04_2108 ∷ 0xff00_0000 ∷ 0xf280_0000 ∷ 0 ∷ [])
    ≡ ascii "step\t11\tfma\t41780000\t7D042108\tFF000000\tF2800000\t0\n")
    × (step_text 13 (step_number multiply ∷ 0x3f00_0000 ∷ 0x7f80_0000 ∷ 0 ∷ 0x7f80_0000 ∷ 2 ∷ [])
    ≡ ascii "step\t13\tmul\t3F000000\t7F800000\t-\t7F800000\t2\n")
    × (pair_text (record { first = 0x3f80_0001; second = 0x3380_0000; flags = none }) ≡ ascii "pair\t3F800001\t33800000\t-\n")
    × (pair_text (record { first = 0x7fc0_0000; second = 0x7fc0_0000; flags = I }) ≡ ascii "pair\t7FC00000\t7FC00000\tI\n")
    × (pair_text (record { first = 0x7f80_0000; second = 0x7f80_0000; flags = OX }) ≡ ascii "pair\t7F800000\t7F800000\tOX\n")
    × (pair_text (record { first = 0x0000_0001; second = 0x0000_0000; flags = UX }) ≡ ascii "pair\t00000001\t00000000\tUX\n")
    × (total_text 0x3f80_0001 0x3380_0000 ≡ ascii "total\t3F800001\t33800000\n")
    × (end_text 1 0 ≡ ascii "end\t1\t0\n")
    × (bad_text 20 3 ≡ ascii "bad\t20\t3\n")
    × (stop_text ≡ ascii "stop\t11\n")

abbrev pub All : Type 0
All = Decimals × FlagTexts × StepFields × MarkTexts × LineFields × PutMeans × WritesMeans × AtMost × NoneEmpty × Example
