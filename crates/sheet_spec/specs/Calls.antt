-- What the program's calls do (R8.15): bytes taken, and the end of the input. The text goes into a lent buffer.
use Rattle.std.specs.Prelude.{ℕ, ◌+◌, ◌≤◌, ◌<◌, ◌≡◌, ◌⊎◌, true, false, List, length, take}
use Rattle.transcript_spec.specs.Texts.{line_room}
use Rattle.transcript_spec.specs.Buffers.{Put}
use Rattle.sheet_spec.specs.States.{State, take_bytes, bytes_text, last_line, close_text}
use Rattle.sheet_spec.specs.declared.Progressed.{Progressed}

-- bytes that are room for the last two lines, and for a line's text before them
abbrev pub closing_room : ℕ
closing_room = 60

abbrev pub last_room : ℕ
last_room = line_room + closing_room

-- Some of the bytes are taken, from the first on, until none is left, the run has stopped, or there is no room for another line's text.
-- Free is what the lent line holds behind the open line's bytes, and of counts that no run can have which such counts come back.
pub record Feeds (bytes : List ℕ) (s : State) (out : List ℕ) (r : Progressed) (after : State) (out' : List ℕ) : Type 0 where
  pub within : r.taken ≤ length bytes
  pub state : after ≡ take_bytes s (take r.taken bytes)
  pub text : Put out 0 (bytes_text s (take r.taken bytes)) r.written out'
  pub each : (k : ℕ) → k < r.taken
      → ((take_bytes s (take k bytes)).stopped ≡ false) × (length (bytes_text s (take k bytes)) + line_room ≤ length out)
  pub whole : (r.taken ≡ length bytes) ⊎ (after.stopped ≡ true) ⊎ (length out < r.written + line_room)

-- The end of the input: the open line and the last two lines. Without room for them, or after `stop`, nothing is done.
pub record Ends (s : State) (out : List ℕ) (n : ℕ) (total' out' : List ℕ) : Type 0 where
  pub text : last_room ≤ length out → Put out 0 (close_text s) n out'
  pub total : last_room ≤ length out → s.stopped ≡ false → total' ≡ (last_line s).total
  pub short : length out < last_room → (n ≡ 0) × (out' ≡ out) × (total' ≡ s.progress.total)
  pub stopped : s.stopped ≡ true → (n ≡ 0) × (out' ≡ out) × (total' ≡ s.progress.total)
