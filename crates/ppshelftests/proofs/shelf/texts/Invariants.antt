use Rattle.std.proofs.Common.{◌≡◌, vec_len}
use Rattle.ppshelftests.proofs.shelf.texts.Given as goal

abbrev pub invariant-loop-name : goal.invariant-loop-name
invariant-loop-name l = vec_len l.texts ≡ l.name-index
