-- Where a text is written from.
use Rattle.std.specs.Prelude.{◌≡◌, ℕ, List}
use Rattle.transcript_fields.specs.declared.writer.Writer.{Writer}

-- a writer at the start of a buffer of these bytes
abbrev pub AtStart : List ℕ → Writer → Type 0
AtStart bytes w = (w.at ≡ 0) × (w.out.now ≡ bytes)
