use Rattle.std.proofs.Common.{◌≡◌, ◌≤◌, ◌-◌, ◌+◌, ◌*◌, List, length}
use Rattle.ppmacro.specs.HideSets.{hidings, AllKnown, KeepsSets}
use Rattle.ppmacro.specs.Chains.{parameter_names}
use Rattle.ppmacro.specs.declared.hidden_token.Hidden.{Hidden}
use Rattle.ppexpand.specs.code.ProgramValues.{expanded_in, ExpansionsKnown}
use Rattle.ppexpand.proofs.GrowingHideSets.{invocation_of}
use Rattle.ppexpand.proofs.ArgumentLemmas.{ArgumentsExpanded}
use Rattle.ppexpand.proofs.LoopInvariants.{Follows, turns_left}
use Rattle.ppexpand.proofs.expansion.Expander.+expansion.Given as goal

-- termination measures: the levels that remain, then the order in which the five functions call one another
abbrev pub decreases-expand_list : goal.decreases-expand_list
decreases-expand_list l = 5 * (257 - l.context.now.level) + 4

abbrev pub decreases-advance : goal.decreases-advance
decreases-advance l = 5 * (257 - l.context.now.level) + 3

abbrev pub decreases-replace_invocation : goal.decreases-replace_invocation
decreases-replace_invocation l = 5 * (257 - l.context.now.level) + 2

abbrev pub decreases-expand_arguments : goal.decreases-expand_arguments
decreases-expand_arguments l = 5 * (257 - l.context.now.level) + 1

abbrev pub decreases-expand_argument : goal.decreases-expand_argument
decreases-expand_argument l = 5 * (257 - l.context.now.level)

abbrev pub invariant-expand_list-loop-named : goal.invariant-expand_list-loop-named
invariant-expand_list-loop-named l = record {
  low : l.context.level ≤ 256;
  list_known : AllKnown l.self.replacer.sets l.list;
  emitted_known : AllKnown l.self.replacer.sets l.emitted;
  keeps : KeepsSets l.fn.self.replacer.sets l.self.replacer.sets;
  follows : Follows l.context.table.now.macros l.context.env.now l.context.level l.fn.self.meter (hidings l.fn.self.replacer.sets l.fn.list) (hidings l.self.replacer.sets l.emitted) l.self.meter (hidings l.self.replacer.sets l.list);
}

abbrev pub decreases-expand_list-loop-named : goal.decreases-expand_list-loop-named
decreases-expand_list-loop-named l = turns_left l.context.table.now.macros l.context.env.now l.context.level l.self.meter (hidings l.self.replacer.sets l.list)

abbrev pub invariant-expand_arguments-loop-parameter : goal.invariant-expand_arguments-loop-parameter
invariant-expand_arguments-loop-parameter l = record {
  low : l.context.level ≤ 256;
  known : ExpansionsKnown l.self.replacer.sets l.expanded.items;
  count : length l.expanded.items ≡ length (parameter_names l.invocation.definition.now.kind);
  keeps : KeepsSets l.fn.self.replacer.sets l.self.replacer.sets;
  follows : (following : List Hidden)
      → ArgumentsExpanded l.context.table.now.macros l.context.env.now l.context.level (invocation_of l.fn.self.replacer.sets l.invocation following) l.fn.self.meter l.parameter-index
      (expanded_in l.self.replacer.sets l.invocation.arguments.items l.expanded.items) l.self.meter;
}
