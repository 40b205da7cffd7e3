-- A text written into a lent buffer (R8.14).
use Rattle.std.specs.Prelude.{ℕ, ◌+◌, ◌≤◌, ◌≡◌, cond, List, ◌++◌, leb, length, take, drop}

-- ---- where there is room
-- the buffer with a text from the byte `at` on, in the stead of what stood there
unfoldable pub pasted : List ℕ → ℕ → List ℕ → List ℕ
pasted out at text = take at out ++ (text ++ drop (length text) (drop at out))

-- a text written there: it has room, the answer is where it ends, and the rest of the buffer is as before
pub record Put (out : List ℕ) (at : ℕ) (text : List ℕ) (next : ℕ) (after : List ℕ) : Type 0 where
  pub room : at + length text ≤ length out
  pub ends : next ≡ at + length text
  pub bytes : after ≡ pasted out at text

-- ---- at the buffer's start, whether there is room or not: how many bytes are written, and the buffer after it. One that is too short for
-- the text stays as it was, and the answer is 0, which is no text's length (`NoneEmpty` of Theorems).
unfoldable pub written : List ℕ → List ℕ → ℕ
written out text = cond (leb (length text) (length out)) (length text) 0

unfoldable pub after_writing : List ℕ → List ℕ → List ℕ
after_writing out text = cond (leb (length text) (length out)) (text ++ drop (length text) out) out

abbrev pub Writes : List ℕ → List ℕ → ℕ → List ℕ → Type 0
Writes out text answer after = (answer ≡ written out text) × (after ≡ after_writing out text)
