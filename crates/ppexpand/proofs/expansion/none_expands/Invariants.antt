use Rattle.std.proofs.Common.{take}
use Rattle.ppexpand.specs.code.Lists.{NeverExpand}
use Rattle.ppexpand.proofs.expansion.none_expands.Given as goal

abbrev pub invariant-loop-hidden : goal.invariant-loop-hidden
invariant-loop-hidden l = NeverExpand l.table.macros (take l.hidden-index l.tokens)
