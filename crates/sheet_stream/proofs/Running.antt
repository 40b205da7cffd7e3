-- What a run has read and written, from read to read.
use mathlib.Core.Path.{◌≡◌, refl, sym, ap, ap₂, ◌∙◌, subst}
use mathlib.Core.Logic.{◌⊎◌, inl, inr}
use mathlib.Core.Bool.{Bool, true, false, cond}
use mathlib.Core.List.{List, [], ◌∷◌, ◌++◌, append_assoc}
use Prim.Native.Nat.{ℕ, zero, suc, ◌+◌, ◌-◌, ◌≤◌, ◌<◌}
use native.Mathlib.Omega.{arith}
use borrow.Author.Tests.{not-true, not-false}
use lib.ListN.{length, take, length-append}
use Rattle.std.specs.Prelude.{Option, Some, None, IfSome, Result, Ok, Err, IsErr, is_ok}
use Rattle.std.specs.Io.KnownBytes.{Appends, Consumes, IsAtEnd, ReadConsumes}
use Rattle.std.proofs.KnownBytes.{Appends-nil, Appends-trans, Appends-kept, Consumes-nil, Consumes-trans}
use Rattle.transcript_spec.specs.Texts.{end_text, line_room}
use Rattle.sheet_spec.specs.Printed.{output, Progress, read_text, closing_text}
use Rattle.accumulator_spec.specs.Totals.{reading}
use Rattle.sheet_spec.specs.States.{State, begin, full, end_line, extend, take_byte, byte_text, take_bytes, bytes_text, last_text, last_line, close_text}
use Rattle.sheet_spec.proofs.Bytes.{byte-by-byte, nothing-after-stop, states-join, texts-join}
use Rattle.std.specs.declared.ops.ControlFlow.{ControlFlow}
use Rattle.std.specs.declared.ops.ControlFlow.TheVariants.{Continue, Break}
use Rattle.sheet_stream.specs.Inner.{AfterRead}
use Rattle.sheet_stream.specs.Written.{AppendsPart, Wrote, PassWrites, RunWrites}
use Rattle.sheet_stream.proofs.Writing.{part-of_more, part-of_all, part-after, wrote_more, wrote_at, wrote_part}

-- ---- what is left to print after some bytes of the input
abbrev left_text : State → List ℕ → List ℕ
left_text s rest = bytes_text s rest ++ close_text (take_bytes s rest)

output-split : (bytes rest : List ℕ) (s : State) → s ≡ take_bytes begin bytes → output (bytes ++ rest) ≡ bytes_text begin bytes ++ left_text s rest
output-split bytes rest s e =
    sym (byte-by-byte (bytes ++ rest))
    ∙ ap₂ (λ (t : List ℕ) (v : State). t ++ close_text v) (texts-join bytes rest begin) (states-join bytes rest begin)
    ∙ append_assoc (bytes_text begin bytes) (bytes_text (take_bytes begin bytes) rest) (close_text (take_bytes (take_bytes begin bytes) rest))
    ∙ ap (λ (v : State). bytes_text begin bytes ++ left_text v rest) (sym e)

-- ---- a run that goes on has something left to print, whatever follows
end-some : (good bad : ℕ) → 0 < length (end_text good bad)
unfolding end_text
end-some good bad = some _
  where
    some : (n : ℕ) → 0 < suc n
    some n = omega arith

closing-some : (p : Progress) → 0 < length (closing_text p)
unfolding closing_text
closing-some p =
    omega (arith, length-append (read_text (reading p.total)) (end_text p.good (p.lines - p.good)), end-some p.good (p.lines - p.good))

close-some : (s : State) → s.stopped ≡ false → 0 < length (close_text s)
unfolding close_text
close-some s e = rw e (omega (arith, length-append (last_text s) (closing_text (last_line s)), closing-some (last_line s)))

byte-some : (s : State) (b : ℕ) → s.stopped ≡ false → full s ≡ true → 0 < length (byte_text s b)
unfolding byte_text
byte-some s b e h = rw (e, h) (some _)
  where
    some : (n : ℕ) → 0 < suc n
    some n = omega arith

going : (s : State) (b : ℕ) → s.stopped ≡ false → full s ≡ false → (take_byte s b).stopped ≡ false
unfolding take_byte
going s b e h = rw (e, h) (by _)
  where
    by : (c : Bool) → (cond c (end_line s) (extend s b)).stopped ≡ false
    by true = refl
    by false = refl

left-more : (s : State) (b : ℕ) (bs : List ℕ) → s.stopped ≡ false → (c : Bool) → full s ≡ c
    → ((take_byte s b).stopped ≡ false → 0 < length (left_text (take_byte s b) bs)) → 0 < length (left_text s (b ∷ bs))
unfolding bytes_text take_bytes
left-more s b bs e c h more = by c h
  where
    t : State
    t = take_byte s b

    joined : length (left_text s (b ∷ bs)) ≡ length (byte_text s b) + length (left_text t bs)
    joined = ap length (append_assoc (byte_text s b) (bytes_text t bs) (close_text (take_bytes t bs))) ∙ length-append (byte_text s b) (left_text t bs)

    by : (d : Bool) → full s ≡ d → 0 < length (left_text s (b ∷ bs))
    by true h = omega (arith, joined, byte-some s b e h)
    by false h = omega (arith, joined, more (going s b e h))

left-some : (rest : List ℕ) (s : State) → s.stopped ≡ false → 0 < length (left_text s rest)
unfolding bytes_text take_bytes
left-some [] s e = close-some s e
left-some (b ∷ bs) s e = left-more s b bs e (full s) refl (left-some bs (take_byte s b))

-- ---- between two reads: what the reader had and has left, and what the writer held and holds
pub record Sofar (r₀ r w₀ w : Option (List ℕ)) (s : State) : Type 0 where
  pub whole : (bytes : List ℕ) × Consumes r₀ r bytes × (s ≡ take_bytes begin bytes) × Appends w₀ w (bytes_text begin bytes)
  pub going : s.stopped ≡ false

pub at-first : (r w : Option (List ℕ)) (s : State) → s ≡ begin → Sofar r r w w s
unfolding take_bytes bytes_text
at-first r w s begins = record { whole = ([], Consumes-nil r, begins, Appends-nil w); going = ap (λ (v : State). v.stopped) begins }

-- what is written of a run that goes on is a part of all
unfinished : (r₀ r w₀ w : Option (List ℕ)) (s : State) (bytes : List ℕ) → Consumes r₀ r bytes → s ≡ take_bytes begin bytes → s.stopped ≡ false → Appends w₀ w (bytes_text begin bytes)
    → IfSome r₀ (λ input. AppendsPart w₀ w (output input))
unfinished None r w₀ w s bytes c e g a = tt
unfinished (Some input) None w₀ w s bytes c e g a = absurd c
unfinished (Some input) (Some rest) w₀ w s bytes c e g a =
    subst (λ (l : List ℕ). AppendsPart w₀ w l) (sym (ap output c ∙ output-split bytes rest s e))
    (part-of_all w₀ w (bytes_text begin bytes) (left_text s rest) (left-some rest s g) a)

-- and so is a part of what some more bytes print
in-part : (r₀ r w₀ w v : Option (List ℕ)) (s : State) (bytes more : List ℕ) → Consumes r₀ r (bytes ++ more) → s ≡ take_bytes begin bytes → Appends w₀ w (bytes_text begin bytes)
    → AppendsPart w v (bytes_text s more) → IfSome r₀ (λ input. AppendsPart w₀ v (output input))
in-part None r w₀ w v s bytes more c e a p = tt
in-part (Some input) None w₀ w v s bytes more c e a p = absurd c
in-part (Some input) (Some rest) w₀ w v s bytes more c e a p =
    let after : State = take_bytes s more in
    let text : left_text s (more ++ rest) ≡ bytes_text s more ++ left_text after rest =
    ap₂ (λ (t : List ℕ) (u : State). t ++ close_text u) (texts-join more rest s) (states-join more rest s)
    ∙ append_assoc (bytes_text s more) (bytes_text after rest) (close_text (take_bytes after rest)) in
    let whole : output input ≡ bytes_text begin bytes ++ (bytes_text s more ++ left_text after rest) =
    ap output (c ∙ append_assoc bytes more rest) ∙ output-split bytes (more ++ rest) s e ∙ ap (λ (l : List ℕ). bytes_text begin bytes ++ l) text in
    subst (λ (l : List ℕ). AppendsPart w₀ v l) (sym whole)
    (part-after w₀ w v (bytes_text begin bytes) (bytes_text s more ++ left_text after rest) a (part-of_more w v (bytes_text s more) (left_text after rest) p))

-- ---- at the end
map-some : (o : Option (List ℕ)) (P Q : List ℕ → Type 0) → ((x : List ℕ) → P x → Q x) → IfSome o P → IfSome o Q
map-some None P Q m h = tt
map-some (Some x) P Q m h = m x h

nothing-left : (r : Option (List ℕ)) (rest : List ℕ) (s : State) → r ≡ Some rest → IsAtEnd r ⊎ (s.stopped ≡ true) → left_text s rest ≡ close_text s
unfolding bytes_text take_bytes
nothing-left None rest s e last = absurd (no e)
  where
    no : ◌≡◌ {A = Option (List ℕ)} None (Some rest) → ⊥
    no e = cc
nothing-left (Some x) rest s e (inl none) = ap (left_text s) (same e ∙ none)
  where
    same : ◌≡◌ {A = Option (List ℕ)} (Some x) (Some rest) → rest ≡ x
    same e = cc
nothing-left (Some x) rest s e (inr stopped) = let n = nothing-after-stop s rest stopped in ap₂ (λ (t : List ℕ) (v : State). t ++ close_text v) n.1 n.0

module _ (w₀ w w' : Option (List ℕ)) (s : State) (bytes : List ℕ) (state : s ≡ take_bytes begin bytes) (written : Appends w₀ w (bytes_text begin bytes)) where
  finished : (r₀ r : Option (List ℕ)) → Consumes r₀ r bytes → IsAtEnd r ⊎ (s.stopped ≡ true) → (whole : Bool) → Wrote w w' whole (close_text s) → RunWrites r₀ w₀ w' whole
  finished None r c last whole wrote = tt
  finished (Some input) None c last whole wrote = absurd c
  finished (Some input) (Some rest) c last whole wrote =
      wrote_at w₀ w' whole (bytes_text begin bytes ++ close_text s) (output input)
      (sym
      (ap output c ∙ output-split bytes rest s state ∙ ap (λ (l : List ℕ). bytes_text begin bytes ++ l) (nothing-left (Some rest) rest s refl last)))
      (wrote_more w₀ w w' whole (bytes_text begin bytes) (close_text s) written wrote)

-- a text that is not whole
cut : (r₀ w₀ w : Option (List ℕ)) → IfSome r₀ (λ input. AppendsPart w₀ w (output input)) → RunWrites r₀ w₀ w false
cut r₀ w₀ w p = map-some r₀ _ (λ input. Wrote w₀ w false (output input)) (λ input q. wrote_part w₀ w (output input) q) p

pub cut-off : {A B : Type 0} (o : Result A B) (r₀ w₀ w : Option (List ℕ)) → IsErr o → RunWrites r₀ w₀ w false → RunWrites r₀ w₀ w (is_ok o)
cut-off (Ok x) r₀ w₀ w e h = cc (e)
cut-off (Err x) r₀ w₀ w e h = h

pub endless : (r₀ r w₀ w : Option (List ℕ)) (s : State) → Sofar r₀ r w₀ w s → RunWrites r₀ w₀ w false
endless r₀ r w₀ w s f = let (bytes, read, state, written) = f.whole in cut r₀ w₀ w (unfinished r₀ r w₀ w s bytes read state f.going written)

-- ---- one read, and what is done with its answer
module _ (r₀ r r' w₀ w w' : Option (List ℕ)) (s after : State) (buffer : List ℕ) (room : ℕ) (f : Sofar r₀ r w₀ w s) (some : 0 < length buffer) (enough : line_room ≤ room) where
  -- a read or a write that failed
  pub failed : {E : Type 0} (got : Result ℕ E) → ReadConsumes r r' got buffer → PassWrites got buffer room s w w' false → RunWrites r₀ w₀ w' false
  failed (Err why) kept kept' =
      let (bytes, read, state, written) = f.whole in
      cut r₀ w₀ w' (unfinished r₀ r w₀ w' s bytes read state f.going (Appends-kept w₀ w w' (bytes_text begin bytes) written kept'))
  failed (Ok n) consumed wrote =
      let (bytes, read, state, written) = f.whole in
      let all : Consumes r₀ r' (bytes ++ take n buffer) = Consumes-trans r₀ r r' bytes (take n buffer) read consumed.0 in
      cut r₀ w₀ w' (in-part r₀ r' w₀ w w' s bytes (take n buffer) all state written ((wrote enough).part refl))

  answered : (n : ℕ) → Consumes r r' (take n buffer) → after ≡ take_bytes s (take n buffer) → Wrote w w' true (bytes_text s (take n buffer))
      → (bytes : List ℕ) × Consumes r₀ r' bytes × (after ≡ take_bytes begin bytes) × Appends w₀ w' (bytes_text begin bytes)
  answered n consumed is wrote =
      let (bytes, read, state, written) = f.whole in
      let more : List ℕ = take n buffer in
      let joined : take_bytes s more ≡ take_bytes begin (bytes ++ more) = ap (λ (v : State). take_bytes v more) state ∙ sym (states-join bytes more begin) in
      let text : bytes_text begin bytes ++ bytes_text s more ≡ bytes_text begin (bytes ++ more) =
      ap (λ (v : State). bytes_text begin bytes ++ bytes_text v more) state ∙ sym (texts-join bytes more begin) in (
        bytes ++ more,
        Consumes-trans r₀ r r' bytes more read consumed,
        is ∙ joined,
        subst (λ (l : List ℕ). Appends w₀ w' l) text (Appends-trans w₀ w w' (bytes_text begin bytes) (bytes_text s more) written (wrote.all refl)),
      )

  none-taken : after ≡ s → after ≡ take_bytes s (take 0 buffer)
  unfolding take_bytes
  none-taken e = e

  stops : (bytes : List ℕ) × Consumes r₀ r' bytes × (after ≡ take_bytes begin bytes) × Appends w₀ w' (bytes_text begin bytes)
      → IsAtEnd r' ⊎ (after.stopped ≡ true) → (v : Option (List ℕ)) (whole : Bool) → Wrote w' v whole (close_text after) → RunWrites r₀ w₀ v whole
  stops so_far last v whole wrote =
      let (bytes, read, state, written) = so_far in finished w₀ w' v after bytes state written r₀ r' read last whole wrote

  module _ {E : Type 0} (A B : Type 0) where
    goes-on-at : (got : Result ℕ E) (q : B) → ReadConsumes r r' got buffer → AfterRead {A = A} got buffer room s (Ok (Continue q)) after
        → PassWrites got buffer room s w w' true → Sofar r₀ r' w₀ w' after
    goes-on-at (Err why) q c a wrote = cc (a.0)
    goes-on-at (Ok zero) q c a wrote = cc (a.0.1)
    goes-on-at (Ok (suc k)) q c a wrote = record { whole = answered (suc k) c.0 (a.1 enough) (wrote enough); going = not-true _ (sym a.0) }

    closes-at : (got : Result ℕ E) (q : A) → ReadConsumes r r' got buffer → AfterRead {B = B} got buffer room s (Ok (Break q)) after → PassWrites got buffer room s w w' true
        → (v : Option (List ℕ)) (whole : Bool) → Wrote w' v whole (close_text after) → RunWrites r₀ w₀ v whole
    closes-at (Err why) q c a wrote v whole last = cc (a.0)
    closes-at (Ok zero) q c a wrote v whole last = stops (answered 0 c.0 (none-taken a.1) (wrote enough)) (inl (c.1 refl some)) v whole last
    closes-at (Ok (suc k)) q c a wrote v whole last = stops (answered (suc k) c.0 (a.1 enough) (wrote enough)) (inr (not-false _ (sym a.0))) v whole last

    module _ (got : Result ℕ E) (flow : ControlFlow A B) (c : ReadConsumes r r' got buffer) (a : AfterRead got buffer room s (Ok flow) after)
        (wrote : PassWrites got buffer room s w w' true) where
      at-flow : (f : ControlFlow A B) → flow ≡ f → AfterRead got buffer room s (Ok f) after
      at-flow f e = subst (λ (f : ControlFlow A B). AfterRead got buffer room s (Ok f) after) e a

      pub goes-on : (q : B) → flow ≡ Continue q → Sofar r₀ r' w₀ w' after
      goes-on q e = goes-on-at got q c (at-flow (Continue q) e) wrote

      pub closes : (q : A) → flow ≡ Break q → (v : Option (List ℕ)) (whole : Bool) → Wrote w' v whole (close_text after) → RunWrites r₀ w₀ v whole
      closes q e v whole last = closes-at got q c (at-flow (Break q) e) wrote v whole last
