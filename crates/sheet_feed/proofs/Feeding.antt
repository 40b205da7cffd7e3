-- Bytes taken one after the other while there is room for another line's text.
use mathlib.Core.Path.{◌≡◌, refl, sym, ap, ◌∙◌, subst}
use mathlib.Core.Logic.{◌⊎◌, inl, inr}
use mathlib.Core.Bool.{false}
use mathlib.Core.List.{List, [], ◌∷◌, ◌++◌, append-nil}
use Prim.Native.Nat.{ℕ, suc, ◌+◌, ◌-◌, ◌≤◌, ◌<◌}
use native.Mathlib.Decide.{dec_le}
use native.Mathlib.Numerals.{add-one}
use native.Mathlib.Omega.{arith}
use borrow.Author.Rules.{part_to_end}
use borrow.Rule.Slice.PartMut.{put_mid, same_len_mid}
use lib.ListN.{length, take, drop, get_or, length-drop}
use lib.Seq.{take-suc}
use Rattle.transcript_spec.specs.Texts.{line_room}
use Rattle.transcript_spec.specs.Buffers.{Put}
use Rattle.transcript_spec.proofs.Parts.{nothing, as_long, after-part}
use Rattle.sheet_spec.specs.States.{State, take_byte, byte_text, take_bytes, bytes_text}
use Rattle.sheet_spec.specs.Positions.{goes_on, state_of}
use Rattle.sheet_spec.specs.Calls.{Feeds}
use Rattle.sheet_spec.specs.declared.Progressed.{Progressed}
use Rattle.sheet_spec.proofs.Lengths.{byte-most}
use Rattle.sheet_spec.proofs.Bytes.{states-join, texts-join}
use Rattle.sheet_spec.proofs.Positions.{halted}
use Rattle.sheet_feed.specs.Inner.{state_in, TakesByte}
use Rattle.sheet_feed.specs.declared.step.Run.{Run}

-- ---- the loop: what has been taken, and what has been printed
pub record Taken (bytes : List ℕ) (s : State) (out : List ℕ) (at used : ℕ) (here : State) (out' : List ℕ) : Type 0 where
  pub within : at ≤ length bytes
  pub fits : used ≤ length out'
  pub state : here ≡ take_bytes s (take at bytes)
  pub text : Put out 0 (bytes_text s (take at bytes)) used out'
  pub each : (k : ℕ) → k < at → ((take_bytes s (take k bytes)).stopped ≡ false) × (length (bytes_text s (take k bytes)) + line_room ≤ length out)
  pub long : length out' ≡ length out

pub none-taken : (bytes : List ℕ) (s : State) (out : List ℕ) → Taken bytes s out 0 0 s out
unfolding take_bytes bytes_text
none-taken bytes s out = record { within = omega arith; fits = omega arith; state = refl; text = nothing out; each = λ k (h : k < 0). absurd (omega arith); long = refl }

module _ (bytes : List ℕ) (s : State) (at : ℕ) (below : at < length bytes) where
  next-bytes : take (at + 1) bytes ≡ take at bytes ++ (get_or bytes at 0 ∷ [])
  next-bytes = ap (λ (n : ℕ). take n bytes) (add-one at) ∙ take-suc bytes at 0 below

  next-state : take_byte (take_bytes s (take at bytes)) (get_or bytes at 0) ≡ take_bytes s (take (at + 1) bytes)
  unfolding take_bytes
  next-state = sym (ap (take_bytes s) next-bytes ∙ states-join (take at bytes) (get_or bytes at 0 ∷ []) s)

  next-text : bytes_text s (take at bytes) ++ byte_text (take_bytes s (take at bytes)) (get_or bytes at 0) ≡ bytes_text s (take (at + 1) bytes)
  unfolding bytes_text
  next-text =
      let b : bytes_text (take_bytes s (take at bytes)) (get_or bytes at 0 ∷ []) ≡ byte_text (take_bytes s (take at bytes)) (get_or bytes at 0) = append-nil _ in
      sym (ap (bytes_text s) next-bytes ∙ texts-join (take at bytes) (get_or bytes at 0 ∷ []) s ∙ ap (λ (t : List ℕ). bytes_text s (take at bytes) ++ t) b)

-- one byte more, with the rest of the buffer lent
module _ (bytes : List ℕ) (s : State) (out : List ℕ) (at used : ℕ) (q : Run) (out' : List ℕ) (h : Taken bytes s out at used (state_in q) out') (room : line_room ≤ length out' - used) where
  abbrev rest : List ℕ
  rest = take (length out' - used) (drop used out')

  rest-long : length rest ≡ length out' - used
  rest-long = ap length (part_to_end out' used) ∙ length-drop used out'

  pub room-for-line : line_room ≤ length rest
  room-for-line = omega (arith, rest-long)

  abbrev here : State
  here = state_in q

  module _ (n : ℕ) (v : Run) (part : List ℕ) (t : TakesByte q (get_or bytes at 0) rest n v part) where
    pub used-within : used + n ≤ length out'
    used-within = omega (arith, t.text.ends, byte-most here (get_or bytes at 0))

    now-long : length (put_mid used (length out' - used) out' part) ≡ length out'
    now-long = same_len_mid used (length out' - used) out' part (as_long t.text)

    -- before this byte, as before each
    so-each : here.stopped ≡ false → (k : ℕ) → k < at + 1 → ((take_bytes s (take k bytes)).stopped ≡ false) × (length (bytes_text s (take k bytes)) + line_room ≤ length out)
    so-each going k below =
        elim (dec_le (suc k) at) [
          | yes l ↦ h.each k l
          | no l ↦ let e : at ≡ k = omega arith in
              subst (λ (i : ℕ). ((take_bytes s (take i bytes)).stopped ≡ false) × (length (bytes_text s (take i bytes)) + line_room ≤ length out)) e
              (ap (λ (w : State). w.stopped) (sym h.state) ∙ going, omega (arith, h.text.ends, h.long, h.fits))
        ]

    pub one-taken : here.stopped ≡ false → at < length bytes → Taken bytes s out (at + 1) (used + n) (state_in v) (put_mid used (length out' - used) out' part)
    one-taken going below = record {
      within = omega arith;
      fits = omega (arith, used-within, now-long);
      state = t.state ∙ ap (λ (w : State). take_byte w (get_or bytes at 0)) h.state ∙ next-state bytes s at below;
      text =
          subst (λ (l : List ℕ). Put out 0 l (used + n) (put_mid used (length out' - used) out' part))
          (ap (λ (w : State). bytes_text s (take at bytes) ++ byte_text w (get_or bytes at 0)) h.state ∙ next-text bytes s at below) (after-part h.text h.fits t.text);
      each = so-each going;
      long = now-long ∙ h.long;
    }

-- ---- the end of the loop: no byte is left, or there is no room for another line's text, or the run has stopped
feeds : (bytes : List ℕ) (s : State) (out : List ℕ) (r : Progressed) (line total out' : List ℕ) → Taken bytes s out r.taken r.written (state_of r.position line total) out'
    → (length out' - r.written < line_room) ⊎ (goes_on r.position ≡ false) → Feeds bytes s out r (state_of r.position line total) out'
feeds bytes s out r line total out' h w = record {
  within = h.within;
  state = h.state;
  text = h.text;
  each = h.each;
  whole = elim w [ inl k ↦ inr (inr (omega (arith, h.long, h.fits))) | inr e ↦ inr (inl (halted r.position line total e)) ];
}

feeds-all : (bytes : List ℕ) (s : State) (out : List ℕ) (at : ℕ) (r : Progressed) (line total out' : List ℕ) → Taken bytes s out at r.written (state_of r.position line total) out'
    → length bytes ≤ at → r.taken ≡ length bytes → Feeds bytes s out r (state_of r.position line total) out'
feeds-all bytes s out at r line total out' h end is =
    let e : at ≡ r.taken = omega (arith, h.within) in
    let all = subst (λ (n : ℕ). Taken bytes s out n r.written (state_of r.position line total) out') e h in
    record { within = all.within; state = all.state; text = all.text; each = all.each; whole = inl is }

-- the run gives back what it was lent
module _ (bytes : List ℕ) (s : State) (out : List ℕ) (at used : ℕ) (q : Run) (line total out' : List ℕ) (h : Taken bytes s out at used (state_in q) out')
    (same-line : q.line.now ≡ line) (same-total : q.total.now ≡ total) where
  given-back : Taken bytes s out at used (state_of q.position line total) out'
  given-back =
      subst (λ (l : List ℕ). Taken bytes s out at used (state_of q.position l total) out') same-line
      (subst (λ (t : List ℕ). Taken bytes s out at used (state_of q.position q.line.now t) out') same-total h)

  pub run-feeds : (length out' - used < line_room) ⊎ (goes_on q.position ≡ false)
      → Feeds bytes s out (record { position = q.position; taken = at; written = used }) (state_of q.position line total) out'
  run-feeds w = feeds bytes s out (record { position = q.position; taken = at; written = used }) line total out' given-back w

  pub run-feeds-all : length bytes ≤ at → Feeds bytes s out (record { position = q.position; taken = length bytes; written = used }) (state_of q.position line total) out'
  run-feeds-all end = feeds-all bytes s out at (record { position = q.position; taken = length bytes; written = used }) line total out' given-back end refl
