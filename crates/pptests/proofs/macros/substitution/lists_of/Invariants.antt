use Rattle.ppmacro.specs.Substituting.{ListsKnown}
use Rattle.pptests.proofs.macros.substitution.lists_of.Given as goal

abbrev pub invariant-loop-text : goal.invariant-loop-text
invariant-loop-text l = ListsKnown l.sets l.lists.items
