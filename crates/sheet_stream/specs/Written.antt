-- What a run writes (R9, R9.12), where the reader says which bytes it has left, and the writer which bytes it holds.
use Rattle.std.specs.Prelude.{ℕ, ◌≤◌, ◌<◌, ◌≡◌, Bool, true, false, List, ◌++◌, length, take, IfSome, Ok, Err, Option, Result}
use Rattle.std.specs.Io.KnownBytes.{Keeps, Appends}
use Rattle.transcript_spec.specs.Texts.{line_room}
use Rattle.sheet_spec.specs.Printed.{output}
use Rattle.sheet_spec.specs.States.{State, bytes_text}

-- known bytes have grown by a part of a text, from its first byte on, and not by all of it
abbrev pub AppendsPart : Option (List ℕ) → Option (List ℕ) → List ℕ → Type 0
AppendsPart old new text = (part : List ℕ) × (left : List ℕ) × (text ≡ part ++ left) × (0 < length left) × Appends old new part

-- all of a text is written, or where a call failed a part of it
pub record Wrote (old new : Option (List ℕ)) (whole : Bool) (text : List ℕ) : Type 0 where
  pub all : whole ≡ true → Appends old new text
  pub part : whole ≡ false → AppendsPart old new text

-- what is written after a read's answer: the text of so many bytes, given room for a line's; where the read failed nothing
abbrev pub PassWrites : {E : Type 0} → Result ℕ E → List ℕ → ℕ → State → Option (List ℕ) → Option (List ℕ) → Bool → Type 0
PassWrites (Err e) bytes room s old new whole = Keeps old new
PassWrites (Ok n) bytes room s old new whole = line_room ≤ room → Wrote old new whole (bytes_text s (take n bytes))

-- What a run writes: all that is printed of the input's bytes, where it answers that its text is whole, and else a part of that, which is
-- not all.
abbrev pub RunWrites : Option (List ℕ) → Option (List ℕ) → Option (List ℕ) → Bool → Type 0
RunWrites input old new whole = IfSome input (λ bytes. Wrote old new whole (output bytes))
