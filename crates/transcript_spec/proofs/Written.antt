-- Texts put into a buffer: at its start, which is what the contracts say; and flags.
use Prim.Native.Nat.{ℕ}
use mathlib.Core.Path.{◌≡◌, sym, ◌∙◌}
use mathlib.Core.List.{List}
use native.Mathlib.Omega.{arith}
use lib.ListN.{length}
use Rattle.augmented_spec.specs.declared.Flags.{Flags}
use Rattle.question_spec.specs.Ascii.{ascii}
use Rattle.transcript_spec.specs.Texts.{flag_letters, flags_text}
use Rattle.transcript_spec.specs.Buffers.{pasted, Put, Writes}
use Rattle.transcript_spec.proofs.Buffers.{fits}
use Rattle.transcript_spec.proofs.Stored.{nothing_put}
use Rattle.transcript_spec.proofs.FieldLaws.{empty, no-flags}

pub whole : {s v t : List ℕ} {r : ℕ} → Put s 0 t r v → Writes s t r v
unfolding pasted
whole {s} {v} {t} {r} p =
    let f = fits s t (omega (arith, p.room)) in
    (p.ends ∙ omega (arith, f.0), p.bytes ∙ sym f.1)

-- where no letter was written the buffer is as before
pub dash-put : {s r v : List ℕ} {at p q : ℕ} (f : Flags) → Put s at (flag_letters f) p r → p ≡ at → Put r at (ascii "-") q v → Put s at (flags_text f) q v
unfolding pasted
dash-put {s} {r} {v} {at} {p} {q} f a e b =
    let z : length (flag_letters f) ≡ 0 = omega (arith, a.ends) in
    let n = empty (flag_letters f) z in
    let same : r ≡ s = a.bytes ∙ rw n (sym (nothing_put s at (omega (arith, a.room))).bytes) in
    rw (no-flags f z) (rw same at b)
