-- What the calls of a run write, one after the other.
use Prim.Native.Nat.{ℕ, zero, suc, ◌≤◌, ◌<◌}
use mathlib.Core.Path.{◌≡◌, refl, sym, ap, ap₂, ◌∙◌}
use mathlib.Core.Logic.{inl, inr}
use mathlib.Core.Bool.{true≢false, false}
use mathlib.Core.List.{List, [], ◌∷◌, ◌++◌, append_assoc}
use native.Mathlib.Omega.{arith}
use lib.ListN.{length, take, drop, take-append-drop}
use Rattle.transcript_spec.specs.Texts.{line_room}
use Rattle.transcript_spec.specs.Buffers.{Put}
use Rattle.transcript_spec.proofs.Pasted.{put-means}
use Rattle.sheet_spec.specs.States.{State, begin, take_bytes, bytes_text, close_text}
use Rattle.sheet_spec.specs.Calls.{last_room, Ends}
use Rattle.sheet_spec.specs.Theorems.{FeedsOn, Call, Chain, chain_text, chain_state, WholeRun}
use Rattle.sheet_spec.proofs.Bytes.{byte-by-byte, nothing-after-stop, states-join, texts-join}

-- a text put at a buffer's start
at-start : (out text out' : List ℕ) (n : ℕ) → Put out 0 text n out' → (take n out' ≡ text) × (drop n out' ≡ drop n out)
at-start out text out' n p =
    let m = put-means out text out' 0 n p in let e : n ≡ length text = omega (arith, m.0) in (ap (λ (k : ℕ). take k out') e ∙ m.4, m.5)

pub feeds-on : FeedsOn
unfolding take_bytes bytes_text
feeds-on bytes out out' s after r f = (f.state, w.0, w.1, some)
  where
    w : (take r.written out' ≡ bytes_text s (take r.taken bytes)) × (drop r.written out' ≡ drop r.written out)
    w = at-start out (bytes_text s (take r.taken bytes)) out' r.written f.text

    by : (k : ℕ) → r.taken ≡ k → 0 < length bytes → s.stopped ≡ false → line_room ≤ length out → 0 < r.taken
    by (suc k) e b g room = omega (arith, e)
    by zero e b g room =
        let none : r.written ≡ 0 = omega (arith, f.text.ends, ap (λ (j : ℕ). length (bytes_text s (take j bytes))) e) in
        let same : after ≡ s = f.state ∙ ap (λ (j : ℕ). take_bytes s (take j bytes)) e in
        elim f.whole [
          | inl all ↦ absurd (omega (arith, all, e, b))
          | inr h ↦ elim h [ inl halted ↦ absurd (true≢false (sym halted ∙ ap (λ (v : State). v.stopped) same ∙ g)) | inr short ↦ absurd (omega (arith, short, none, room)) ]
        ]

    some : 0 < length bytes → s.stopped ≡ false → line_room ≤ length out → 0 < r.taken
    some = by r.taken refl

-- the calls from a state on
from : (cs : List Call) (s : State) (input : List ℕ) → Chain s input cs → (n : ℕ) (out total' out' : List ℕ) → Ends (chain_state s cs) out n total' out' → last_room ≤ length out
    → chain_text cs ++ take n out' ≡ bytes_text s input ++ close_text (take_bytes s input)
unfolding Chain chain_text chain_state bytes_text take_bytes
from [] s input (inl h) n out total' out' e room =
    (at-start out (close_text s) out' n (e.text room)).0 ∙ sym (ap (λ (l : List ℕ). bytes_text s l ++ close_text (take_bytes s l)) h)
from [] s input (inr h) n out total' out' e room =
    let k = nothing-after-stop s input h in
    (at-start out (close_text s) out' n (e.text room)).0 ∙ sym (ap₂ (λ (t : List ℕ) (v : State). t ++ close_text v) k.1 k.0)
from (c ∷ cs) s input h n out total' out' e room =
    let more = h.0 in
    let f = feeds-on c.bytes c.out c.left s c.after c.result h.2 in
    let k = c.result.taken in
    let part = take k c.bytes in
    let rest = drop k c.bytes ++ more in
    let whole : input ≡ part ++ rest = h.1 ∙ ap (λ (l : List ℕ). l ++ more) (sym (take-append-drop k c.bytes)) ∙ append_assoc part (drop k c.bytes) more in
    append_assoc (take c.result.written c.left) (chain_text cs) (take n out')
    ∙ ap₂ (λ (t u : List ℕ). t ++ u) f.1 (from cs c.after rest h.3 n out total' out' e room ∙ ap (λ (v : State). bytes_text v rest ++ close_text (take_bytes v rest)) f.0)
    ∙ sym (append_assoc (bytes_text s part) (bytes_text (take_bytes s part) rest) (close_text (take_bytes (take_bytes s part) rest)))
    ∙ sym (ap₂ (λ (t : List ℕ) (v : State). t ++ close_text v) (texts-join part rest s) (states-join part rest s))
    ∙ ap (λ (l : List ℕ). bytes_text s l ++ close_text (take_bytes s l)) (sym whole)

pub whole_run : WholeRun
whole_run cs input h n out total' out' e room = from cs begin input h n out total' out' e room ∙ byte-by-byte input
