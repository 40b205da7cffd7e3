-- Carried from byte to byte, the state prints what the lines print.
use mathlib.Core.Path.{◌≡◌, refl, sym, ap, ap₂, ◌∙◌, subst}
use mathlib.Core.Bool.{true≢false, Bool, true, false, cond}
use mathlib.Core.List.{List, [], ◌∷◌, ◌++◌, append_assoc, append-nil}
use Prim.Native.Nat.{ℕ, zero, suc, ◌+◌, ◌≤◌, ◌<◌}
use native.Mathlib.Omega.{arith}
use borrow.Author.Tests.{le-leb, lt-leb}
use lib.Dec.{eqb}
use lib.ListN.{length, take}
use Rattle.pattern_spec.specs.Answer.{Answer}
use Rattle.question_spec.specs.Ascii.{newline}
use Rattle.question_spec.specs.Questions.{Asked, question_size, read_question}
use Rattle.transcript_spec.specs.Texts.{stop_text}
use Rattle.sheet_spec.specs.Printed.{lines_from, line_text, Progress, start, after_answer, after_line, closing_text, most_input_lines}
use Rattle.sheet_spec.specs.States.{State, kept_bytes, begin, stop, take_byte, byte_text, take_bytes, bytes_text, close_text}
use Rattle.sheet_spec.specs.Theorems.{ByteByByte, joined, reads_text, AnyReads, NothingAfterStop}
use Rattle.sheet_spec.proofs.Lines.{ending, output-is, Some, has-byte, first-line, first-bytes, take_again}

-- everything that is printed from a state on
abbrev pub printed : State → List ℕ → List ℕ
printed s bytes = bytes_text s bytes ++ close_text (take_bytes s bytes)

one_byte : (s : State) (b : ℕ) (bs : List ℕ) → printed s (b ∷ bs) ≡ byte_text s b ++ printed (take_byte s b) bs
unfolding bytes_text take_bytes
one_byte s b bs = append_assoc (byte_text s b) (bytes_text (take_byte s b) bs) (close_text (take_bytes (take_byte s b) bs))

-- ---- after `stop`
chosen : {A : Type 0} (c : Bool) (x y : A) → c ≡ true → cond c x y ≡ x
chosen true x y e = refl
chosen false x y e = absurd (true≢false (sym e))

module _ (s : State) (stopped : s.stopped ≡ true) where
  same-state : (b : ℕ) → take_byte s b ≡ s
  unfolding take_byte
  same-state b = chosen s.stopped s _ stopped

  no_text : (b : ℕ) → byte_text s b ≡ []
  unfolding byte_text
  no_text b = chosen s.stopped [] _ stopped

  stays : (bytes : List ℕ) → take_bytes s bytes ≡ s
  unfolding take_bytes
  stays [] = refl
  stays (b ∷ bs) = ap (λ (t : State). take_bytes t bs) (same-state b) ∙ stays bs

  silent : (bytes : List ℕ) → bytes_text s bytes ≡ []
  unfolding bytes_text
  silent [] = refl
  silent (b ∷ bs) = ap₂ (λ (t : List ℕ) (v : State). t ++ bytes_text v bs) (no_text b) (same-state b) ∙ silent bs

  no_end : close_text s ≡ []
  unfolding close_text
  no_end = chosen s.stopped [] _ stopped

  pub nothing-after : (bytes : List ℕ) → printed s bytes ≡ []
  nothing-after bytes = ap₂ ◌++◌ (silent bytes) (ap close_text (stays bytes) ∙ no_end)

pub nothing-after-stop : NothingAfterStop
nothing-after-stop s bytes e = (stays s e bytes, silent s e bytes, no_end s e)

-- ---- one byte at a time: the line that has begun is `begun`, of which the state keeps the first bytes
abbrev at : Progress → List ℕ → State
at p begun = record { progress = p; begun = take kept_bytes begun; stopped = false }

-- at the end of the input
ended : (p : Progress) (begun : List ℕ) (room : ℕ) → (room ≡ 0 → begun ≡ []) → printed (at p begun) [] ≡ ending p room (lines_from begun [])
unfolding bytes_text take_bytes close_text ending lines_from after_line
ended p [] room h = refl
ended p (c ∷ begun) zero h = absurd (let e : ◌≡◌ {A = ℕ} (suc (length begun)) 0 = ap length (h refl) in omega arith)
ended p (c ∷ begun) (suc room) h =
    rw (has-byte c begun, has-byte c (take question_size begun))
    (ap₂ (λ (t : List ℕ) (a : Answer Asked). t ++ closing_text (after_answer p a)) (ap (line_text (suc p.lines)) (first-bytes (c ∷ begun))) (first-bytes (c ∷ begun)))

-- no room: any byte stops
stops : (p : Progress) (b : ℕ) (bs : List ℕ) → most_input_lines ≤ p.lines → printed (at p []) (b ∷ bs) ≡ stop_text
unfolding byte_text take_byte
stops p b bs h =
    one_byte (at p []) b bs ∙ rw (le-leb most_input_lines p.lines h) (ap (λ (t : List ℕ). stop_text ++ t) (nothing-after (stop (at p [])) refl bs) ∙ append-nil stop_text)

nothing-fits : (p : Progress) (lines : List (List ℕ)) → Some lines → ending p 0 lines ≡ stop_text
unfolding ending
nothing-fits p lines s = ap (ending p 0) s.2

-- room: a newline ends the line, any other byte goes on with it
module _ (p : Progress) (begun : List ℕ) (b : ℕ) (bs : List ℕ) (room : p.lines < most_input_lines) where
  at-newline : eqb b newline ≡ true → printed (at p begun) (b ∷ bs) ≡ line_text (suc p.lines) (read_question begun) ++ printed (at (after_line p begun) []) bs
  unfolding byte_text take_byte after_line
  at-newline e =
      one_byte (at p begun) b bs
      ∙ rw (lt-leb most_input_lines p.lines room, e)
      (ap (λ (a : Answer Asked). line_text (suc p.lines) a ++ printed (record { progress = after_answer p a; begun = []; stopped = false }) bs) (first-bytes begun))

  at_byte : eqb b newline ≡ false → printed (at p begun) (b ∷ bs) ≡ printed (at p (begun ++ (b ∷ []))) bs
  unfolding byte_text take_byte
  at_byte e =
      one_byte (at p begun) b bs
      ∙ rw (lt-leb most_input_lines p.lines room, e) (ap (λ (l : List ℕ). printed (record { progress = p; begun = l; stopped = false }) bs) (take_again kept_bytes begun (b ∷ [])))

line-more : (p : Progress) (begun : List ℕ) (room : ℕ) → p.lines + suc room ≡ most_input_lines → (after_line p begun).lines + room ≡ most_input_lines
unfolding after_line
line-more p begun room e = omega arith

one_more : (p : Progress) (begun : List ℕ) (b : ℕ) (bs : List ℕ) (room : ℕ) → p.lines < most_input_lines → (c : Bool) → eqb b newline ≡ c
    → printed (at (after_line p begun) []) bs ≡ ending (after_line p begun) room (lines_from [] bs)
    → printed (at p (begun ++ (b ∷ []))) bs ≡ ending p (suc room) (lines_from (begun ++ (b ∷ [])) bs)
    → printed (at p begun) (b ∷ bs) ≡ ending p (suc room) (lines_from begun (b ∷ bs))
unfolding lines_from ending
one_more p begun b bs room h true e l m = at-newline p begun b bs h e ∙ rw e (ap (λ (t : List ℕ). line_text (suc p.lines) (read_question begun) ++ t) l)
one_more p begun b bs room h false e l m = at_byte p begun b bs h e ∙ rw e m

bytes-are : (input : List ℕ) (p : Progress) (begun : List ℕ) (room : ℕ) → p.lines + room ≡ most_input_lines → (room ≡ 0 → begun ≡ [])
    → printed (at p begun) input ≡ ending p room (lines_from begun input)
bytes-are [] p begun room e h = ended p begun room h
bytes-are (b ∷ bs) p begun zero e h =
    let none = h refl in
    subst (λ (l : List ℕ). printed (at p l) (b ∷ bs) ≡ ending p 0 (lines_from l (b ∷ bs))) (sym none)
    (stops p b bs (omega arith) ∙ sym (nothing-fits p (lines_from [] (b ∷ bs)) (first-line b bs)))
bytes-are (b ∷ bs) p begun (suc room) e h =
    one_more p begun b bs room (omega arith) (eqb b newline) refl (bytes-are bs (after_line p begun) [] room (line-more p begun room e) (λ z. refl))
    (bytes-are bs p (begun ++ (b ∷ [])) (suc room) e (λ (z : suc room ≡ 0). absurd (omega arith)))

pub byte-by-byte : ByteByByte
byte-by-byte input = bytes-are input start [] most_input_lines refl (λ z. refl) ∙ sym (output-is input)

-- ---- any way of cutting the input into reads
pub states-join : (xs ys : List ℕ) (s : State) → take_bytes s (xs ++ ys) ≡ take_bytes (take_bytes s xs) ys
unfolding take_bytes
states-join [] ys s = refl
states-join (x ∷ xs) ys s = states-join xs ys (take_byte s x)

pub texts-join : (xs ys : List ℕ) (s : State) → bytes_text s (xs ++ ys) ≡ bytes_text s xs ++ bytes_text (take_bytes s xs) ys
unfolding take_bytes bytes_text
texts-join [] ys s = refl
texts-join (x ∷ xs) ys s =
    ap (λ (t : List ℕ). byte_text s x ++ t) (texts-join xs ys (take_byte s x)) ∙ sym (append_assoc (byte_text s x) (bytes_text (take_byte s x) xs) (bytes_text (take_bytes (take_byte s x) xs) ys))

reads-are : (reads : List (List ℕ)) (s : State) → reads_text s reads ≡ printed s (joined reads)
unfolding reads_text joined bytes_text take_bytes
reads-are [] s = refl
reads-are (r ∷ rs) s =
    ap (λ (t : List ℕ). bytes_text s r ++ t) (reads-are rs (take_bytes s r))
    ∙ sym (append_assoc (bytes_text s r) (bytes_text (take_bytes s r) (joined rs)) (close_text (take_bytes (take_bytes s r) (joined rs))))
    ∙ sym (ap₂ (λ (t : List ℕ) (v : State). t ++ close_text v) (texts-join r (joined rs) s) (states-join r (joined rs) s))

pub any-reads : AnyReads
any-reads reads = reads-are reads begin ∙ byte-by-byte (joined reads)
