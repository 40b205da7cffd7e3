-- What the functions of a line and of a position promise each other and the callers above.
use Rattle.std.specs.Prelude.{ℕ, suc, ◌+◌, ◌≡◌, Bool, false, ◌&&◌, List, leb, length, take}
use Rattle.question_spec.specs.Questions.{read_question}
use Rattle.transcript_spec.specs.Texts.{line_room}
use Rattle.transcript_spec.specs.Buffers.{Put}
use Rattle.sheet_spec.specs.Printed.{line_text, after_line}
use Rattle.sheet_spec.specs.Positions.{goes_on, progress_of}
use Rattle.sheet_spec.specs.declared.Position.{Position}
use Rattle.sheet_spec.specs.declared.Progressed.{Progressed}

-- the run goes on, and there is so much room where so much is needed
unfoldable pub ready_for : Position → ℕ → ℕ → Bool
ready_for p room need = leb need room && goes_on p

-- another byte is taken, if there is one, with so much room
abbrev pub takes_more : Position → ℕ → Bool
takes_more p room = ready_for p room line_room

-- a position after its line, which is good or not, and whose text has so many bytes
abbrev pub line_ended : Position → ℕ → ℕ → Progressed
line_ended p good written =
    record { position = record { lines = p.lines + 1; good = p.good + good; length = 0; stopped = false }; taken = 0; written = written }

-- the open line, of these kept bytes, is ended
pub record LineEnds (p : Position) (kept total out : List ℕ) (r : Progressed) (total' out' : List ℕ) : Type 0 where
  -- all of its bytes are there
  pub whole : length (take p.length kept) ≡ p.length
  pub progress : progress_of r.position total' ≡ after_line (progress_of p total) (take p.length kept)
  pub emptied : r.position.length ≡ 0
  pub going : r.position.stopped ≡ false
  pub taken : r.taken ≡ 0
  pub text : Put out 0 (line_text (suc p.lines) (read_question (take p.length kept))) r.written out'
