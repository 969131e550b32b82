use Rattle.std.proofs.Common.{◌≡◌, List, Vec, Global, take}
use Rattle.ppmacro.specs.Substituting.{expansions_if_computed}
use Rattle.ppmacro.specs.declared.hidden_token.Hidden.{Hidden}
use Rattle.ppmacro.proofs.substituting.contents.push_expanded.Given as goal

abbrev pub invariant-loop-index : goal.invariant-loop-index
invariant-loop-index l = (given : List (Vec Hidden Global)) → expansions_if_computed given l.copy.items ≡ take l.index (expansions_if_computed l.arguments.given.now l.arguments.expanded.now)
