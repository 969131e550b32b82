use Rattle.std.proofs.Common.{◌≡◌, take, true}
use Rattle.std.specs.List.{AllByRecursion}
use Rattle.ppexpand.specs.code.Lists.{never_expands}
use Rattle.ppexpand.proofs.token_span.unexpanded_len.Given as goal

abbrev pub invariant-loop-count : goal.invariant-loop-count
invariant-loop-count l = AllByRecursion (λ t. never_expands l.table.macros t ≡ true) (take l.count l.tokens)
