-- What is written last, from the buffer's start.
use mathlib.Core.Path.{◌≡◌, ap, ◌∙◌}
use mathlib.Core.Bool.{Bool}
use mathlib.Core.List.{List}
use Prim.Native.Nat.{ℕ, ◌≤◌}
use native.Mathlib.Omega.{arith}
use lib.ListN.{length, take}
use Rattle.std.specs.Prelude.{Option}
use Rattle.transcript_spec.specs.Buffers.{Put}
use Rattle.transcript_spec.proofs.Pasted.{put-means}
use Rattle.sheet_spec.specs.States.{State, close_text}
use Rattle.sheet_spec.specs.Calls.{last_room, Ends}
use Rattle.sheet_stream.specs.Written.{Wrote}
use Rattle.sheet_stream.proofs.Writing.{wrote_at}

-- a text put at a buffer's start
pub at-start : (out text out' : List ℕ) (n : ℕ) → Put out 0 text n out' → take n out' ≡ text
at-start out text out' n p = let m = put-means out text out' 0 n p in let e : n ≡ length text = omega (arith, m.0) in ap (λ (k : ℕ). take k out') e ∙ m.4

module _ (s : State) (out : List ℕ) (n : ℕ) (total' out' : List ℕ) (ends : Ends s out n total' out') (w v : Option (List ℕ)) where
  pub closed : (whole : Bool) → Wrote w v whole (take n out') → last_room ≤ length out → Wrote w v whole (close_text s)
  closed whole r room = wrote_at w v whole (take n out') (close_text s) (at-start out (close_text s) out' n (ends.text room)) r
