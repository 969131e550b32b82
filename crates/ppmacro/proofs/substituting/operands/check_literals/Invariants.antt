use Rattle.std.proofs.Common.{◌≡◌, drop, take}
use Rattle.ppmacro.specs.Substituting.{arguments_in}
use Rattle.ppmacro.specs.code.Replacing.{operands_fault}
use Rattle.ppmacro.proofs.substituting.operands.check_literals.Given as goal

abbrev pub invariant-loop-index : goal.invariant-loop-index
invariant-loop-index l = record {
  same : operands_fault (arguments_in l.sets l.arguments.given.now l.arguments.expanded.now) l.used (drop l.index (take l.count l.operands))
      ≡ operands_fault (arguments_in l.sets l.arguments.given.now l.arguments.expanded.now) l.used (take l.count l.operands);
}
