-- A byte stored is a text put there.
use Prim.Native.Nat.{ℕ, ◌+◌, ◌≤◌}
use mathlib.Core.Path.{◌≡◌, sym}
use mathlib.Core.List.{List, [], ◌∷◌}
use native.Mathlib.Numerals.{add-one}
use native.Mathlib.Omega.{arith}
use lib.ListN.{length, set, take-append-drop}
use lib.Seq.{set_split, drop-drop}
use Rattle.transcript_spec.specs.Buffers.{pasted, Put}

-- a byte stored
pub stored : (s : List ℕ) (at b r : ℕ) → at + 1 ≤ length s → r ≡ at + 1 → Put s at (b ∷ []) r (set s at b)
unfolding pasted
stored s at b r h e = record { room = h; ends = e; bytes = rw (set_split s at b (omega arith), drop-drop 1 at s, add-one) }

-- no text
pub nothing_put : (s : List ℕ) (at : ℕ) → at ≤ length s → Put s at [] at s
unfolding pasted
nothing_put s at h = record { room = omega arith; ends = omega arith; bytes = sym (take-append-drop at s) }
