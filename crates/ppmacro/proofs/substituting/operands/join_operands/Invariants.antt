use Rattle.std.proofs.Common.{◌≡◌, IsTrue, [], drop, take}
use Rattle.ppmacro.specs.HideSets.{hidings, AllKnown, KeepsSets}
use Rattle.ppmacro.specs.Substituting.{arguments_in}
use Rattle.ppmacro.specs.code.Replacing.{EndsWithSpelledKind, join_operands}
use Rattle.ppmacro.proofs.substituting.operands.join_operands.Given as goal

abbrev pub invariant-loop-index : goal.invariant-loop-index
invariant-loop-index l = record {
  same : join_operands (arguments_in l.initial.sets l.arguments.given.now l.arguments.expanded.now) l.used (hidings l.sets l.left.items) (drop l.index (take l.count l.operands))
      ≡ join_operands (arguments_in l.initial.sets l.arguments.given.now l.arguments.expanded.now) l.used [] (take l.count l.operands);
  left_known : AllKnown l.sets l.left.items;
  has_spelled_kind : IsTrue l.has_spelled_kind → EndsWithSpelledKind l.left.items;
  keeps : KeepsSets l.initial.sets l.sets;
}
