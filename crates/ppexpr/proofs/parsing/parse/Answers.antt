use Rattle.std.proofs.Common.{ap, ◌∙◌}
use Rattle.std.specs.Prelude.{None, Some, if◌then◌else◌}
use Rattle.ppexpr.proofs.MachineCorrectness.{stopped, ended}
use Rattle.ppexpr.proofs.parsing.parse.Goals as goal

pub returns-then-not-branch : goal.returns-then-not-branch
returns-then-not-branch c =
    stopped c.args.symbols.now c.loop-symbol.parser c.loop-symbol.symbol-index _ c.loop-symbol-test.true c.loop-symbol.invariant
    (c.in_ok-take.ensures ∙ ap (λ b. if b then Some c.take.new.self else None) c.if-not-branch.true)

pub returns : goal.returns
returns c =
    ended c.args.symbols.now c.loop-symbol.parser c.loop-symbol.symbol-index c.finish.result c.loop-symbol-test.false c.loop-symbol.invariant c.finish.ensures
