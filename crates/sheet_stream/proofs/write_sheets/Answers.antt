use Rattle.std.proofs.Common.{arith, length, refl, ◌∙◌, sym, ◌≡◌}
use Rattle.sheet_stream.specs.Inner.{state_in}
use Rattle.sheet_stream.proofs.Running.{at-first, goes-on, failed, closes, cut-off, endless}
use Rattle.sheet_stream.proofs.write_sheets.Goals as goal

pub loop-init : goal.loop-init
loop-init g c = record { bytes_length = refl; out_length = refl; so_far = at-first _ _ _ (c.begin.ensures _) }

pub returns-in_err-pass : goal.returns-in_err-pass
returns-in_err-pass g c =
    let l = c.loop.invariant in
    let read : 65536 ≡ length c.read-got.new.buf = l.bytes_length ∙ sym c.read-got.auto.buf in
    cut-off c.from_residual.result _ _ _ c.from_residual.ensures.0
    (failed _ _ _ _ _ _ (state_in c.loop.here) (state_in c.loop.here) c.read-got.new.buf (length c.loop.out) l.so_far (omega arith) (omega arith) c.read-got.result
    c.read-got.ensures.bytes c.in_err-pass.ensures.writes)

pub loop-preserved : goal.loop-preserved
loop-preserved g c =
    let l = c.loop.invariant in
    let read : 65536 ≡ length c.read-got.new.buf = l.bytes_length ∙ sym c.read-got.auto.buf in
    record {
      bytes_length = read;
      out_length = l.out_length ∙ sym c.pass.auto.out;
      so_far =
          goes-on _ _ _ _ _ _ (state_in c.loop.here) (state_in c.pass.new.self) c.read-got.new.buf (length c.loop.out) l.so_far (omega arith) (omega arith) _ _
          c.read-got.result c.in_ok-pass.field-0 c.read-got.ensures.bytes c.in_ok-pass.ensures.next c.in_ok-pass.ensures.writes _ c.in-Continue.is;
    }

pub returns-in-Break : goal.returns-in-Break
returns-in-Break g c =
    let l = c.loop.invariant in
    let read : 65536 ≡ length c.read-got.new.buf = l.bytes_length ∙ sym c.read-got.auto.buf in
    let out : 65536 ≡ length c.pass.new.out = l.out_length ∙ sym c.pass.auto.out in
    closes _ _ _ _ _ _ (state_in c.loop.here) (state_in c.pass.new.self) c.read-got.new.buf (length c.loop.out) l.so_far (omega arith) (omega arith) _ _
    c.read-got.result c.in_ok-pass.field-0 c.read-got.ensures.bytes c.in_ok-pass.ensures.next c.in_ok-pass.ensures.writes _ c.in-Break.is _ _
    (c.close.ensures (omega arith))

pub returns : goal.returns
returns g c = endless _ _ _ _ _ c.loop.invariant.so_far
