use mathlib.Core.Path.{sym, ap, ◌∙◌}
use Prim.Native.Nat.{ℕ, ◌%◌}
use native.Mathlib.Omega.{arith}
use Rattle.pattern_spec.specs.Exact.{plus_finite}
use Rattle.pattern_spec.proofs.Moved.{moved}
use Rattle.exact.proofs.sum.Goals as goal

pub signed_sum-requires : goal.signed_sum-requires
signed_sum-requires c =
    let m = moved c.args.m 32 (c.args.gap % 32) c.ranges.m.fits (omega arith) in
    (rw m.0 m.1, let n = c.ranges.n.fits in omega arith)

pub returns : goal.returns
returns c =
    let m = moved c.args.m 32 (c.args.gap % 32) c.ranges.m.fits (omega arith) in
    ap (λ (x : ℕ). plus_finite c.args.s x c.args.t c.args.n) (sym m.0) ∙ c.signed_sum.ensures
