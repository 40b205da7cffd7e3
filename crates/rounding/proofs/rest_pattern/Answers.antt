use mathlib.Core.Path.{◌≡◌, ap, ◌∙◌}
use mathlib.Core.Bool.{Bool, cond}
use Prim.Native.Nat.{ℕ, ◌*◌, ◌^◌, ◌<◌, min}
use native.Mathlib.Decide.{dec_le}
use native.Mathlib.Omega.{arith}
use borrow.Author.Tests.{lt-ltb, le-ltb}
use lib.Dec.{ltb}
use Rattle.rounding_spec.specs.Format.{binary32}
use Rattle.rounding_spec.specs.Value.{finite, encode}
use Rattle.rounding_spec.proofs.Packed.{zeros-ge, shift_le, packed-bounds, packed-is}
use Rattle.rounding.proofs.rest_pattern.Goals as goal

-- the smaller of two counts of places, as the lemmas have it
smaller : (a b : ℕ) → min a b ≡ cond (ltb a b) a b
smaller a b =
    elim (dec_le b a) [
      | yes h ↦ rw (le-ltb a b h) (omega arith)
      | no h ↦ let l : a < b = omega arith in rw (lt-ltb a b l) (omega arith)
    ]

pub overflow_sub-room : goal.overflow_sub-room
overflow_sub-room c = (zeros-ge c.args.rest.sig c.requires.0).0

pub overflow_cast-room : goal.overflow_cast-room
overflow_cast-room c = let z = zeros-ge c.args.rest.sig c.requires.0 in omega arith

pub overflow_sub-rest : goal.overflow_sub-rest
overflow_sub-rest c = (shift_le c.args.rest.sig c.requires.0 c.args.rest.exp _ (c.min-shift.ensures ∙ smaller _ _)).0

pub overflow_shl-rest : goal.overflow_shl-rest
overflow_shl-rest c =
    let l = shift_le c.args.rest.sig c.requires.0 c.args.rest.exp _ (c.min-shift.ensures ∙ smaller _ _) in
    omega arith

pub packed-requires : goal.packed-requires
packed-requires c =
    packed-bounds c.args.rest.sig c.requires.0 c.args.rest.exp _ (c.min-shift.ensures ∙ smaller _ _) _ c.choose-exp.ensures c.requires.1

pub returns : goal.returns
returns c =
    c.packed.ensures
    ∙ packed-is c.args.rest.sig c.requires.0 c.args.rest.exp _ (c.min-shift.ensures ∙ smaller _ _) _ c.choose-exp.ensures
    c.choose-minus.result c.requires.1
    ∙ ap (λ (m : Bool). encode binary32 (finite m (c.args.rest.sig * 2 ^ c.args.rest.exp))) c.choose-minus.ensures
