-- Texts put into a buffer: one after another, and byte by byte.
use Prim.Native.Nat.{ℕ, ◌+◌, ◌≤◌}
use mathlib.Core.Path.{◌≡◌, ◌∙◌, ap}
use mathlib.Core.List.{List, ◌++◌, append_assoc}
use native.Mathlib.Omega.{arith}
use lib.ListN.{length, take, drop, length-append, length-take, length-drop}
use lib.Seq.{take-append_seam, drop-append_seam, length-take-le, take_at, drop_at, drop-drop}
use Rattle.transcript_spec.specs.Buffers.{pasted, Put}
use Rattle.transcript_spec.specs.Theorems.{PutMeans}

pub pasted_length : (s : List ℕ) (at : ℕ) (t : List ℕ) → at + length t ≤ length s → length (pasted s at t) ≡ length s
unfolding pasted
pasted_length s at t h =
    rw (length-append (take at s) (t ++ drop (length t) (drop at s)), length-append t (drop (length t) (drop at s)), length-drop (length t) (drop at s), length-drop at s, length-take at s)
    (omega arith)

-- the bytes before the text, from it on, and behind it
pub put-means : PutMeans
unfolding pasted
put-means out text after at next p =
    let is = p.bytes in
    let rest : List ℕ = drop (length text) (drop at out) in
    let front : length (take at out) ≡ at = length-take-le at out (omega (arith, p.room)) in
    let here : drop at after ≡ text ++ rest = rw is (drop_at (take at out) (text ++ rest) at front) in
    let behind : drop next after ≡ drop next out =
    rw (p.ends, ← drop-drop (length text) at after, ← drop-drop (length text) at out, here) (drop-append_seam text rest) in (
      p.ends,
      omega (arith, p.ends, p.room),
      ap length is ∙ pasted_length out at text p.room,
      rw is (take_at (take at out) (text ++ rest) at front),
      rw here (take-append_seam text rest),
      behind,
    )

-- two texts, one after the other
pasted-twice : (s : List ℕ) (at : ℕ) (t u : List ℕ) → at + length t ≤ length s → pasted (pasted s at t) (at + length t) u ≡ pasted s at (t ++ u)
unfolding pasted
pasted-twice s at t u h =
    let front : length (take at s ++ t) ≡ at + length t = rw (length-append (take at s) t, length-take at s) (omega arith) in
    rw (
      ← append_assoc (take at s) t (drop (length t) (drop at s)),
      take_at (take at s ++ t) (drop (length t) (drop at s)) (at + length t) front,
      drop_at (take at s ++ t) (drop (length t) (drop at s)) (at + length t) front,
      append_assoc,
      drop-drop (length u) (length t) (drop at s),
      length-append t u,
      append_assoc t u,
    )

pub then : {s r v : List ℕ} {at p q : ℕ} {t u : List ℕ} → Put s at t p r → Put r p u q v → Put s at (t ++ u) q v
then {s} {r} {v} {at} {p} {q} {t} {u} a b =
    let l = length-append t u in
    let same : length r ≡ length s = ap length a.bytes ∙ pasted_length s at t a.room in
    let more = b.room in
    record {
      room = rw l (omega arith);
      ends = b.ends ∙ rw (a.ends, l) (omega arith);
      bytes = b.bytes ∙ rw (a.bytes, a.ends) (pasted-twice s at t u a.room);
    }
