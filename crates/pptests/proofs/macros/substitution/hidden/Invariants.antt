use Rattle.ppmacro.specs.HideSets.{AllKnown}
use Rattle.pptests.proofs.macros.substitution.hidden.Given as goal

abbrev pub invariant-loop-token : goal.invariant-loop-token
invariant-loop-token l = AllKnown l.sets l.list.items
