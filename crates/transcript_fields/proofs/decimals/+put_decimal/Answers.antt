use Prim.Native.Char.{code}
use Prim.Native.Nat.{◌+◌, ◌%◌}
use mathlib.Core.Path.{refl}
use native.Mathlib.Omega.{arith}
use Rattle.transcript_spec.proofs.Pasted.{then}
use Rattle.transcript_spec.proofs.Stored.{stored}
use Rattle.transcript_spec.proofs.DecimalLaws.{one-digit, last-digit, one-length, decimal-length}
use Rattle.transcript_fields.proofs.decimals.+put_decimal.Goals as goal

pub bounds-out-at : goal.bounds-out-at
bounds-out-at t c = omega (arith, one-length c.args.n c.if-n-lt10.true)

pub returns-then-n-lt10 : goal.returns-then-n-lt10
returns-then-n-lt10 t c =
    let a = c.args in
    rw (one-digit a.n c.if-n-lt10.true) (stored a.out.now a.at (code "0" + a.n) (a.at + 1) (omega (arith, one-length a.n c.if-n-lt10.true)) refl)

pub put_decimal-last-requires : goal.put_decimal-last-requires
put_decimal-last-requires t c = (omega arith, omega (arith, decimal-length c.args.n (omega arith) (omega arith)))

pub bounds-out-last : goal.bounds-out-last
bounds-out-last t c = omega (arith, decimal-length c.args.n (omega arith) (omega arith))

pub returns : goal.returns
returns t c =
    let a = c.args in
    let p = c.put_decimal-last in
    let long = decimal-length a.n (omega arith) (omega arith) in
    rw (last-digit a.n (omega arith) (omega arith))
    (then p.ensures (stored p.new.out p.result (code "0" + a.n % 10) (p.result + 1) (omega (arith, long)) refl))
