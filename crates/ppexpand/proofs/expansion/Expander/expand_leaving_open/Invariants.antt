use Rattle.std.proofs.Common.{◌≤◌}
use Rattle.ppmacro.specs.HideSets.{hidings, AllKnown, KeepsSets}
use Rattle.ppexpand.proofs.LoopInvariants.{Follows, turns_left}
use Rattle.ppexpand.proofs.OpenExpansions.{Reaches}
use Rattle.ppexpand.proofs.expansion.Expander.expand_leaving_open.Given as goal

abbrev pub invariant-loop-named : goal.invariant-loop-named
invariant-loop-named l = record {
  low : l.context.level ≤ 256;
  list_known : AllKnown l.self.replacer.sets l.list;
  emitted_known : AllKnown l.self.replacer.sets l.emitted;
  keeps : KeepsSets l.fn.self.replacer.sets l.self.replacer.sets;
  follows : Follows l.context.table.now.macros l.context.env.now l.context.level l.fn.self.meter (hidings l.fn.self.replacer.sets l.fn.list) (hidings l.self.replacer.sets l.emitted) l.self.meter (hidings l.self.replacer.sets l.list);
  reaches : Reaches l.context.table.now.macros l.context.env.now l.context.level l.fn.self.meter (hidings l.fn.self.replacer.sets l.fn.list) l.self.meter (hidings l.self.replacer.sets l.list);
}

abbrev pub decreases-loop-named : goal.decreases-loop-named
decreases-loop-named l = turns_left l.context.table.now.macros l.context.env.now l.context.level l.self.meter (hidings l.self.replacer.sets l.list)
