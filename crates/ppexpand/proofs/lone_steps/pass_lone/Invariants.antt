use Rattle.ppmacro.specs.HideSets.{hidings, AllKnown, KeepsSets}
use Rattle.ppexpand.specs.code.ProgramValues.{HasPassed}
use Rattle.ppexpand.proofs.LoopInvariants.{turns_left}
use Rattle.ppexpand.proofs.lone_steps.pass_lone.Given as goal

abbrev pub invariant-loop-named : goal.invariant-loop-named
invariant-loop-named l = record {
  list_known : AllKnown l.sets l.list;
  emitted_known : AllKnown l.sets l.emitted;
  keeps : KeepsSets l.initial.sets l.sets;
  passed : HasPassed 0 l.context.table.now.macros l.context.env.now l.context.level l.initial.meter (hidings l.initial.sets l.initial.list) (hidings l.initial.sets l.initial.emitted)
      l.meter (hidings l.sets l.list) (hidings l.sets l.emitted);
}

abbrev pub decreases-loop-named : goal.decreases-loop-named
decreases-loop-named l = turns_left l.context.table.now.macros l.context.env.now l.context.level l.meter (hidings l.sets l.list)
