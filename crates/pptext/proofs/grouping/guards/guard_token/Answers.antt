use Rattle.std.proofs.Common.{arith}
use Rattle.pptext.proofs.Spans.{no_line}
use Rattle.pptext.proofs.Guards.{flat_past}
use Rattle.pptext.proofs.grouping.guards.guard_token.Goals as goal

pub loop-at-preserved : goal.loop-at-preserved
loop-at-preserved c x =
    let before = c.loop-at.invariant x in
    let past = flat_past c.args.tokens.now c.args.lines.now c.requires c.loop-at.at no_line x c.loop-at-test.true (omega arith) in
    ((λ flat. past.0 (before.0 flat)), (λ later. before.1 (past.1 later)))
