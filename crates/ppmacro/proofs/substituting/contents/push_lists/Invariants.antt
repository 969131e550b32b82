use Rattle.std.proofs.Common.{◌≡◌, ◌++◌, List, Vec, Global, Some, map, take}
use Rattle.ppmacro.specs.Substituting.{lists_of, expansions_if_computed}
use Rattle.ppmacro.specs.declared.hidden_token.Hidden.{Hidden}
use Rattle.ppmacro.proofs.substituting.contents.push_lists.Given as goal

abbrev pub invariant-loop-tokens : goal.invariant-loop-tokens
invariant-loop-tokens l = (given : List (Vec Hidden Global)) → expansions_if_computed given l.expanded.items ≡ expansions_if_computed given l.initial.expanded.items ++ map Some (lists_of (take l.tokens-index l.lists))
