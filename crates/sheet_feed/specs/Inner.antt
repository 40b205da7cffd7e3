-- What the functions below `feed` and `finish` promise them.
use Rattle.std.specs.Prelude.{ℕ, ◌≤◌, ◌≡◌, true, List, length}
use Rattle.transcript_spec.specs.Buffers.{Put}
use Rattle.sheet_spec.specs.Printed.{Progress}
use Rattle.sheet_spec.specs.States.{State, take_byte, byte_text, last_line, last_text}
use Rattle.sheet_spec.specs.Positions.{state_of}
use Rattle.sheet_spec.specs.declared.Position.{Position}
use Rattle.sheet_feed.specs.declared.step.Run.{Run}

-- the state that a run stands for
abbrev pub state_in : Run → State
state_in r = state_of r.position r.line.now r.total.now

-- it keeps what it was lent
pub record SameLent (r r' : Run) : Type 0 where
  pub line : r'.line.ghost_name ≡ r.line.ghost_name
  pub total : r'.total.ghost_name ≡ r.total.ghost_name
  pub total_length : length r'.total.now ≡ length r.total.now

-- a byte is taken
pub record TakesByte (r : Run) (b : ℕ) (out : List ℕ) (n : ℕ) (r' : Run) (out' : List ℕ) : Type 0 where
  pub state : state_in r' ≡ take_byte (state_in r) b
  pub text : Put out 0 (byte_text (state_in r) b) n out'
  pub lent : SameLent r r'

-- a position where `stop` was printed
abbrev pub stopped_at : Position → Position
stopped_at p = record { lines = p.lines; good = p.good; length = 0; stopped = true }

-- the open line, if it has a byte, is the last one
pub record LastLine (s : State) (out : List ℕ) (p : Progress) (n : ℕ) (out' : List ℕ) : Type 0 where
  pub progress : p ≡ last_line s
  pub sound : p.good ≤ p.lines
  pub text : Put out 0 (last_text s) n out'
