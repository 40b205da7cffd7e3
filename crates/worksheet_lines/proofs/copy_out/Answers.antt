use borrow.Rule.Slice.PartMut.{same_len_mid}
use mathlib.Core.Path.{◌≡◌, refl, ◌∙◌}
use mathlib.Core.List.{[]}
use Prim.Native.Nat.{◌+◌, ◌*◌, ◌-◌}
use native.Mathlib.Omega.{arith}
use lib.ListN.{length, get_or, length-take, length-drop}
use Rattle.worksheet_spec.specs.Lines.{line_size}
use Rattle.worksheet_lines.specs.Inner.{flat}
use Rattle.worksheet_lines.proofs.Copied.{one_more}
use Rattle.worksheet_lines.proofs.copy_out.Goals as goal

pub loop-i-init : goal.loop-i-init
unfolding flat
loop-i-init c = (refl, refl, refl)

pub loop-i-preserved : goal.loop-i-preserved
loop-i-preserved c =
    let l = c.loop-i in let i = l.i in let rows = c.args.rows.now in
    let line = c.copy_line.new.words in let kept = c.copy_line.auto.words in
    let long : length line ≡ line_size = kept ∙ simp (length-take, length-drop) (omega arith) in
    let is : line ≡ get_or rows i [] = c.copy_line.ensures in
    let more = one_more c.args.words.now l.words rows i line (omega arith) is long l.invariant.1 l.invariant.2 in
    (same_len_mid (i * line_size) (i * line_size + line_size - i * line_size) l.words line kept ∙ l.invariant.0, more.0, more.1)
