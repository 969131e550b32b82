use Rattle.std.proofs.Common.{◌≡◌, ◌++◌, take}
use Rattle.ppunit.proofs.directives.after_word.Given as goal

abbrev pub invariant-loop-token : goal.invariant-loop-token
invariant-loop-token l = l.after.items ≡ take 1 l.pragma ++ take l.token-index l.tokens
