use Rattle.std.proofs.Common.{◌≡◌, suc, ◌-◌, ◌∙◌, ap, arith}
use Rattle.ppserve.specs.code.TextPieces.{empty_lines}
use Rattle.ppserve.proofs.BarredLines.{more_empty}
use Rattle.ppserve.proofs.BufferedPrinting.{puts_as, puts_none, puts_then}
use Rattle.ppserve.proofs.text_output.put_empty_lines.Goals as goal

pub loop-left-init : goal.loop-left-init
loop-left-init g c = let none : 0 ≡ c.args.count - c.args.count = omega arith in (omega arith, puts_as (ap empty_lines none) puts_none)

pub loop-left-preserved : goal.loop-left-preserved
loop-left-preserved g c =
    let done = c.args.count - c.loop-left.left in
    let more : suc done ≡ c.args.count - (c.loop-left.left - 1) = omega (arith, c.loop-left.invariant.0) in
    (omega (arith, c.loop-left.invariant.0), puts_as (more_empty done ∙ ap empty_lines more) (puts_then c.loop-left.invariant.1 c.put.ensures))
