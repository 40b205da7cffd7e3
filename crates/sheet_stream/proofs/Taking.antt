-- The bytes of a read are handed on in order, each once.
use mathlib.Core.Path.{◌≡◌, sym, ap, ◌∙◌, subst}
use mathlib.Core.Logic.{inl, inr}
use mathlib.Core.Bool.{true, false}
use mathlib.Core.List.{List, ◌++◌, append-nil}
use Prim.Native.Nat.{ℕ, ◌+◌, ◌-◌, ◌≤◌, ◌<◌}
use native.Mathlib.Omega.{arith}
use lib.ListN.{length, take, drop, take-append-drop, length-drop}
use lib.Seq.{take-add, take_all}
use Rattle.std.specs.Prelude.{Option}
use Rattle.std.specs.Io.KnownBytes.{Appends}
use Rattle.std.proofs.KnownBytes.{Appends-trans}
use Rattle.transcript_spec.specs.Texts.{line_room}
use Rattle.sheet_spec.specs.States.{State, take_bytes, bytes_text}
use Rattle.sheet_spec.specs.Positions.{state_of}
use Rattle.sheet_spec.specs.Calls.{Feeds}
use Rattle.sheet_spec.specs.declared.Position.{Position}
use Rattle.sheet_spec.specs.declared.Progressed.{Progressed}
use Rattle.sheet_spec.proofs.Bytes.{states-join, texts-join}
use Rattle.sheet_spec.proofs.Positions.{has-stopped, halted}
use Rattle.sheet_spec.proofs.Theorems.{nothing-after-stop}
use Rattle.sheet_stream.specs.Written.{AppendsPart, Wrote}
use Rattle.sheet_stream.proofs.Writing.{part-of_more, part-after, wrote_all, wrote_part}
use Rattle.sheet_stream.proofs.LastText.{at-start}

-- ---- the bytes so far, and the rest
module _ (bytes : List ℕ) (s : State) (at : ℕ) where
  -- so many bytes are taken, and then some more
  more-taken : (t after : State) (taken : ℕ) → t ≡ take_bytes s (take at bytes) → after ≡ take_bytes t (take taken (drop at bytes)) → after ≡ take_bytes s (take (at + taken) bytes)
  more-taken t after taken e f =
      f ∙ ap (λ (v : State). take_bytes v (take taken (drop at bytes))) e ∙ sym (states-join (take at bytes) (take taken (drop at bytes)) s) ∙ ap (take_bytes s) (sym (take-add at taken bytes))

  -- after `stop` the rest changes nothing
  rest-after-stop : (t : State) → t ≡ take_bytes s (take at bytes) → t.stopped ≡ true → t ≡ take_bytes s bytes
  rest-after-stop t e h =
      sym (nothing-after-stop t (drop at bytes) h).0 ∙ ap (λ (v : State). take_bytes v (drop at bytes)) e
      ∙ sym (states-join (take at bytes) (drop at bytes) s) ∙ ap (take_bytes s) (take-append-drop at bytes)

  pub all-after-stop : (p : Position) (line total : List ℕ) → state_of p line total ≡ take_bytes s (take at bytes) → p.stopped ≡ true → state_of p line total ≡ take_bytes s bytes
  all-after-stop p line total e h = rest-after-stop (state_of p line total) e (halted p line total (has-stopped p h))

  -- what is printed so far, and what of the rest
  text-split : bytes_text s bytes ≡ bytes_text s (take at bytes) ++ bytes_text (take_bytes s (take at bytes)) (drop at bytes)
  text-split = ap (bytes_text s) (sym (take-append-drop at bytes)) ∙ texts-join (take at bytes) (drop at bytes) s

  more-text : (t : State) (taken : ℕ) → t ≡ take_bytes s (take at bytes)
      → bytes_text s (take (at + taken) bytes) ≡ bytes_text s (take at bytes) ++ bytes_text t (take taken (drop at bytes))
  more-text t taken e =
      ap (bytes_text s) (take-add at taken bytes) ∙ texts-join (take at bytes) (take taken (drop at bytes)) s
      ∙ ap (λ (v : State). bytes_text s (take at bytes) ++ bytes_text v (take taken (drop at bytes))) (sym e)

  text-after-stop : (t : State) → t ≡ take_bytes s (take at bytes) → t.stopped ≡ true → bytes_text s (take at bytes) ≡ bytes_text s bytes
  text-after-stop t e h =
      sym (append-nil (bytes_text s (take at bytes)))
      ∙ ap (λ (l : List ℕ). bytes_text s (take at bytes) ++ l) (sym (nothing-after-stop t (drop at bytes) h).1 ∙ ap (λ (v : State). bytes_text v (drop at bytes)) e)
      ∙ sym text-split

  module _ (w v : Option (List ℕ)) where
    pub wrote_after-stop : (t : State) → t ≡ take_bytes s (take at bytes) → t.stopped ≡ true → Appends w v (bytes_text s (take at bytes)) → Wrote w v true (bytes_text s bytes)
    wrote_after-stop t e h a = wrote_all w v (bytes_text s bytes) (subst (λ (l : List ℕ). Appends w v l) (text-after-stop t e h) a)

    pub wrote_by-stop : (p : Position) (line total : List ℕ) → state_of p line total ≡ take_bytes s (take at bytes) → p.stopped ≡ true
        → Appends w v (bytes_text s (take at bytes)) → Wrote w v true (bytes_text s bytes)
    wrote_by-stop p line total e h a = wrote_after-stop (state_of p line total) e (halted p line total (has-stopped p h)) a

    pub wrote_part-so_far : AppendsPart w v (bytes_text s (take at bytes)) → Wrote w v false (bytes_text s bytes)
    wrote_part-so_far a =
        wrote_part w v (bytes_text s bytes)
        (subst (λ (l : List ℕ). AppendsPart w v l) (sym text-split) (part-of_more w v (bytes_text s (take at bytes)) (bytes_text (take_bytes s (take at bytes)) (drop at bytes)) a))

-- ---- one fill of the buffer, with the bytes that are left
part-is : (bytes : List ℕ) (at : ℕ) → take (length bytes - at) (drop at bytes) ≡ drop at bytes
part-is bytes at = take_all (length bytes - at) (drop at bytes) (omega (arith, length-drop at bytes))

none_written : (bytes : List ℕ) (s : State) (taken : ℕ) → taken ≡ 0 → length (bytes_text s (take taken bytes)) ≡ 0
unfolding bytes_text
none_written bytes s taken e = ap (λ (k : ℕ). length (bytes_text s (take k bytes))) e

module _ (bytes : List ℕ) (s : State) (at : ℕ) (t : State) (out : List ℕ) (fed : Progressed) (after : State) (out' : List ℕ) (so_far : t ≡ take_bytes s (take at bytes))
    (f : Feeds (take (length bytes - at) (drop at bytes)) t out fed after out') where
  pub step-taken : after ≡ take_bytes s (take (at + fed.taken) bytes)
  step-taken = more-taken bytes s at t after fed.taken so_far (f.state ∙ ap (λ (l : List ℕ). take_bytes t (take fed.taken l)) (part-is bytes at))

  pub step-within : at ≤ length bytes → at + fed.taken ≤ length bytes
  step-within h = omega (arith, f.within, ap length (part-is bytes at), length-drop at bytes)

  -- none is taken only after `stop`
  stopped : line_room ≤ length out → at < length bytes → fed.taken ≡ 0 → after.stopped ≡ true
  stopped room some none =
      let left : length (take (length bytes - at) (drop at bytes)) ≡ length bytes - at = ap length (part-is bytes at) ∙ length-drop at bytes in
      elim f.whole [
        | inl e ↦ absurd (omega (arith, e, none, some, left))
        | inr h ↦ elim h [ inl e ↦ e | inr short ↦ absurd (omega (arith, short, room, f.text.ends, none_written (take (length bytes - at) (drop at bytes)) t fed.taken none)) ]
      ]

  pub none-taken : line_room ≤ length out → at < length bytes → fed.taken ≡ 0 → after ≡ take_bytes s bytes
  none-taken room some none = rest-after-stop bytes s (at + fed.taken) after step-taken (stopped room some none)

  -- the text that was filled in, behind what is printed so far
  fed-text : bytes_text s (take (at + fed.taken) bytes) ≡ bytes_text s (take at bytes) ++ take fed.written out'
  fed-text =
      more-text bytes s at t fed.taken so_far
      ∙ ap (λ (l : List ℕ). bytes_text s (take at bytes) ++ bytes_text t (take fed.taken l)) (sym (part-is bytes at))
      ∙ ap (λ (l : List ℕ). bytes_text s (take at bytes) ++ l) (sym (at-start out (bytes_text t (take fed.taken (take (length bytes - at) (drop at bytes)))) out' fed.written f.text))

  module _ (w v u : Option (List ℕ)) (before : Appends w v (bytes_text s (take at bytes))) where
    pub step-written : Appends v u (take fed.written out') → Appends w u (bytes_text s (take (at + fed.taken) bytes))
    step-written a = subst (λ (l : List ℕ). Appends w u l) (sym fed-text) (Appends-trans w v u (bytes_text s (take at bytes)) (take fed.written out') before a)

    pub step-failed : AppendsPart v u (take fed.written out') → Wrote w u false (bytes_text s bytes)
    step-failed a =
        wrote_part-so_far bytes s (at + fed.taken) w u
        (subst (λ (l : List ℕ). AppendsPart w u l) (sym fed-text) (part-after w v u (bytes_text s (take at bytes)) (take fed.written out') before a))

    pub none-taken-written : line_room ≤ length out → at < length bytes → fed.taken ≡ 0 → Appends v u (take fed.written out') → Wrote w u true (bytes_text s bytes)
    none-taken-written room some none a = wrote_after-stop bytes s (at + fed.taken) w u after step-taken (stopped room some none) (step-written a)
