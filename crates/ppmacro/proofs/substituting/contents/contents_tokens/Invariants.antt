use Rattle.std.proofs.Common.{◌≡◌, drop, map}
use Rattle.ppmacro.specs.HideSets.{hidings, KeepsSets}
use Rattle.ppmacro.specs.Substitution.{contents_tokens}
use Rattle.ppmacro.specs.Substituting.{lists_of, ListsKnown, arguments_in}
use Rattle.ppmacro.proofs.ContentArguments.{before_lists}
use Rattle.ppmacro.proofs.substituting.contents.contents_tokens.Given as goal

abbrev pub invariant-loop-index : goal.invariant-loop-index
invariant-loop-index l = record {
  same : before_lists (map (hidings l.sets) (lists_of l.lists.items)) (contents_tokens (arguments_in l.initial.sets l.arguments.given.now l.arguments.expanded.now) l.used (drop l.index l.list.contents))
      ≡ contents_tokens (arguments_in l.initial.sets l.arguments.given.now l.arguments.expanded.now) l.used l.list.contents;
  lists_known : ListsKnown l.sets l.lists.items;
  keeps : KeepsSets l.initial.sets l.sets;
}
