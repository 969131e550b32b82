use Rattle.std.proofs.Common.{◌≡◌, ◌+◌, ◌-◌, ◌++◌, ◌∙◌, ap, arith}
use Rattle.std.proofs.lemmas.List.{take-replicate}
use Rattle.ppprint.specs.Text.{spaces}
use Rattle.ppserve.proofs.BarredLines.{more_spaces}
use Rattle.ppserve.proofs.BufferedPrinting.{puts_as, puts_none, puts_then}
use Rattle.ppserve.proofs.text_output.put_spaces.Goals as goal

pub loop-left-init : goal.loop-left-init
loop-left-init g c = let none : 0 ≡ c.args.count - c.args.count = omega arith in (omega arith, puts_as (ap spaces none) puts_none)

pub loop-left-preserved : goal.loop-left-preserved
loop-left-preserved g c =
    let n = c.min-more.result in
    let done = c.args.count - c.loop-left.left in
    let few = take-replicate n 64 32 (omega (arith, c.min-more.ensures)) in
    let more : done + n ≡ c.args.count - (c.loop-left.left - n) = omega (arith, c.min-more.ensures, c.loop-left.invariant.0) in
    (omega (arith, c.loop-left.invariant.0), puts_as (ap (λ z. spaces done ++ z) few ∙ more_spaces done n ∙ ap spaces more) (puts_then c.loop-left.invariant.1 c.put.ensures))
