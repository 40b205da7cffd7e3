-- Texts put one after the other, the second into the part of the buffer behind the first.
use mathlib.Core.Path.{◌≡◌, sym, ap, ◌∙◌, subst}
use mathlib.Core.List.{List, [], ◌++◌, append-nil}
use Prim.Native.Nat.{ℕ, ◌+◌, ◌-◌, ◌≤◌}
use native.Mathlib.Omega.{arith}
use borrow.Author.Rules.{part_to_end}
use lib.ListN.{length, take, drop, length-drop}
use lib.Seq.{drop-drop, drop-length}
use Rattle.transcript_spec.specs.Buffers.{pasted, Put, Writes}
use Rattle.transcript_spec.proofs.Buffers.{fits}
use Rattle.transcript_spec.proofs.Pasted.{pasted_length, then}
use Rattle.transcript_spec.proofs.Stored.{nothing_put}

-- no text
pub nothing : (out : List ℕ) → Put out 0 [] 0 out
nothing out = nothing_put out 0 (omega arith)

-- what a writer of texts gives, where there is room
pub wrote : {out text out' : List ℕ} {n : ℕ} → length text ≤ length out → Writes out text n out' → Put out 0 text n out'
unfolding pasted
wrote {out} {text} h w =
    let f = fits out text h in
    record { room = omega (arith, h); ends = omega (arith, w.0, f.0); bytes = w.1 ∙ f.1 }

-- a text leaves the buffer as long as it was
pub as_long : {out text out' : List ℕ} {at n : ℕ} → Put out at text n out' → length out' ≡ length out
as_long {out} {text} {out'} {at} p = ap length p.bytes ∙ pasted_length out at text p.room

-- a text at the start of the part behind n bytes is one from byte n on
behind : (out text part : List ℕ) (n m : ℕ) → n ≤ length out → Put (drop n out) 0 text m part → Put out n text (n + m) (take n out ++ part)
unfolding pasted
behind out text part n m h p =
    let l = length-drop n out in
    record { room = omega (arith, p.room, l); ends = omega (arith, p.ends); bytes = ap (λ (t : List ℕ). take n out ++ t) p.bytes }

rest : (n k : ℕ) → n ≤ k → n + (k - n) ≡ k
rest n k h = omega arith

-- the second text, where the part lent is the rest of the buffer
pub after-part : {out text out' text₂ part : List ℕ} {n m : ℕ} → Put out 0 text n out' → n ≤ length out'
    → Put (take (length out' - n) (drop n out')) 0 text₂ m part → Put out 0 (text ++ text₂) (n + m) (take n out' ++ (part ++ drop (length out' - n) (drop n out')))
after-part {out} {text} {out'} {text₂} {part} {n} {m} p h q =
    let none : drop (length out' - n) (drop n out') ≡ [] =
    drop-drop (length out' - n) n out' ∙ ap (λ (k : ℕ). drop k out') (rest n (length out') h) ∙ drop-length out' in
    subst (λ (l : List ℕ). Put out 0 (text ++ text₂) (n + m) (take n out' ++ l)) (sym (ap (λ (l : List ℕ). part ++ l) none ∙ append-nil part))
    (then p (behind out' text₂ part n m h (subst (λ (l : List ℕ). Put l 0 text₂ m part) (part_to_end out' n) q)))
