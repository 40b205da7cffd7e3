-- Texts written one after another, no text, flags, and a text at the start of the buffer.
use Prim.Native.Nat.{ℕ, ◌≤◌}
use mathlib.Core.Path.{◌≡◌, refl, ◌∙◌}
use mathlib.Core.List.{List, [], ◌++◌}
use lib.ListN.{length}
use Rattle.augmented_spec.specs.declared.Flags.{Flags}
use Rattle.question_spec.specs.Ascii.{ascii}
use Rattle.transcript_spec.specs.Texts.{flag_letters, flags_text}
use Rattle.transcript_spec.proofs.Pasted.{then}
use Rattle.transcript_spec.proofs.Stored.{nothing_put}
use Rattle.transcript_spec.specs.Buffers.{Writes}
use Rattle.transcript_spec.proofs.Written.{whole, dash-put}
use Rattle.transcript_fields.specs.declared.writer.Writer.{Writer}
use Rattle.transcript_fields.specs.Writers.{Wrote}

-- two texts, one after the other
pub and_then : {a b c : Writer} {t u : List ℕ} → Wrote a t b → Wrote b u c → Wrote a (t ++ u) c
and_then p q = record { same_buffer = q.same_buffer ∙ p.same_buffer; as_long = q.as_long ∙ p.as_long; put = then p.put q.put }

pub nothing_written : (w : Writer) → w.at ≤ length w.out.now → Wrote w [] w
nothing_written w h = record { same_buffer = refl; as_long = refl; put = nothing_put w.out.now w.at h }

-- where no letter was written, a dash
pub dash_written : {a b c : Writer} (f : Flags) → Wrote a (flag_letters f) b → b.at ≡ a.at → Wrote b (ascii "-") c → Wrote a (flags_text f) c
dash_written {a} {b} {c} f p e q =
    let put = rw e at q.put in
    record { same_buffer = q.same_buffer ∙ p.same_buffer; as_long = q.as_long ∙ p.as_long; put = dash-put f p.put e put }

-- the buffer when the writer is done, and where it stands
pub whole_text : {a b : Writer} {t v : List ℕ} → Wrote a t b → a.at ≡ 0 → v ≡ b.out.now → Writes a.out.now t b.at v
whole_text p start is = rw is (whole (rw start at p.put))
