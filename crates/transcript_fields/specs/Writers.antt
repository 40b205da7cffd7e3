-- What a writer asks for, and what it has done when it has written a text.
use Rattle.std.specs.Prelude.{ℕ, ◌+◌, ◌≤◌, ◌≡◌, List, length}
use Rattle.transcript_spec.specs.Buffers.{Put}
use Rattle.transcript_fields.specs.declared.writer.Writer.{Writer}

-- the text has room behind what is written
abbrev pub HasRoom : Writer → List ℕ → Type 0
HasRoom w text = w.at + length text ≤ length w.out.now

-- the text stands there now, in the same buffer
pub record Wrote (before : Writer) (text : List ℕ) (after : Writer) : Type 0 where
  pub same_buffer : after.out.ghost_name ≡ before.out.ghost_name
  pub as_long : length after.out.now ≡ length before.out.now
  pub put : Put before.out.now before.at text after.at after.out.now
