use Rattle.transcript_spec.proofs.FieldLaws.{byte-most, flag-letters-count, no-flags, some-flags, flags-most}
use lib.ListN.{length}
use Prim.Native.Nat.{ℕ, zero, suc, max}
use mathlib.Core.Path.{◌≡◌, refl, ap}
use Rattle.augmented_spec.specs.declared.Flags.{Flags}
use Rattle.transcript_spec.specs.Texts.{flag_letters, flags_text}
use native.Mathlib.Omega.{arith}
use Rattle.transcript_lines.proofs.lengths.flags.Goals as goal

pub overflow_add-n : goal.overflow_add-n
overflow_add-n c = omega (arith, byte-most c.args.flags.invalid, byte-most c.args.flags.overflow)

pub overflow_add-n-2 : goal.overflow_add-n-2
overflow_add-n-2 c =
    let a = c.args in omega (arith, byte-most a.flags.invalid, byte-most a.flags.overflow, byte-most a.flags.underflow)

pub overflow_add-n-3 : goal.overflow_add-n-3
overflow_add-n-3 c =
    let a = c.args in omega (arith, byte-most a.flags.invalid, byte-most a.flags.overflow, byte-most a.flags.underflow, byte-most a.flags.inexact)

-- a dash where there are none
one_or_more : (f : Flags) (n : ℕ) → length (flag_letters f) ≡ n → length (flags_text f) ≡ max n 1
one_or_more f zero e = omega (arith, ap length (no-flags f e))
one_or_more f (suc n) e = omega (arith, e, ap length (some-flags f (λ z. omega (arith, z, e))))

pub returns : goal.returns
returns c =
    let f = c.args.flags in omega (arith, flag-letters-count f, one_or_more f (length (flag_letters f)) refl, flags-most f)
