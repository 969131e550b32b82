use Rattle.std.proofs.Common.{◌≡◌, ◌++◌, take}
use Rattle.ppmacro.specs.Substituting.{lists_of}
use Rattle.ppmacro.proofs.substituting.contents.push_given.Given as goal

abbrev pub invariant-loop-tokens : goal.invariant-loop-tokens
invariant-loop-tokens l = lists_of l.copy.items ≡ lists_of l.initial.copy.items ++ lists_of (take l.tokens-index l.given)
