-- What is done with a read's answer (R9.1, R9.12). What the calls themselves read and wrote, `Written` says where a reader or a writer says
-- it.
use Rattle.std.specs.Prelude.{ℕ, zero, suc, ◌≤◌, ◌≡◌, Bool, true, false, not, List, take, IfOk, IsErr, is_ok, Ok, Err, Result}
use Rattle.std.specs.declared.ops.ControlFlow.{ControlFlow}
use Rattle.std.specs.declared.ops.ControlFlow.TheVariants.{Continue, Break}
use Rattle.transcript_spec.specs.Texts.{line_room}
use Rattle.sheet_spec.specs.States.{State, take_bytes}
use Rattle.sheet_spec.specs.Positions.{state_of}
use Rattle.sheet_stream.specs.declared.NotWhole.{NotWhole}
use Rattle.sheet_stream.specs.declared.Standing.{Standing}

-- the state that a run stands for
abbrev pub state_in : Standing → State
state_in r = state_of r.position r.line r.total

-- whether another read follows
abbrev pub another : {A B : Type 0} → ControlFlow A B → Bool
another (Continue p) = true
another (Break p) = false

-- no read follows, and nothing has failed
abbrev pub Ends : {A B : Type 0} → Result (ControlFlow A B) NotWhole → Type 0
Ends r = (is_ok r ≡ true) × IfOk r (λ flow. another flow ≡ false)

-- From a read's answer to what is done next. Where the read failed nothing is taken, and neither a read nor the last lines follow. At 0
-- the input has ended. Of any other number so many bytes are taken, given room for a line's text, and another read follows unless the run
-- has stopped or a write has failed.
abbrev pub AfterRead :
    {E A B : Type 0} → Result ℕ E → List ℕ → ℕ → State → Result (ControlFlow A B) NotWhole → State → Type 0
AfterRead (Err e) bytes room s r after = IsErr r × (after ≡ s)
AfterRead (Ok zero) bytes room s r after = Ends r × (after ≡ s)
AfterRead (Ok (suc k)) bytes room s r after =
    IfOk r (λ flow. (another flow ≡ not after.stopped) × (line_room ≤ room → after ≡ take_bytes s (take (suc k) bytes)))
