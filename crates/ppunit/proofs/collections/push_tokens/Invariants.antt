use Rattle.std.proofs.Common.{◌≡◌, ◌++◌, map, length}
use Rattle.ppexpand.specs.Slices.{slice_tokens}
use Rattle.ppunit.specs.declared.units.Item.TheVariants as item
use Rattle.ppunit.proofs.collections.push_tokens.Given as goal

abbrev pub invariant-loop-token : goal.invariant-loop-token
invariant-loop-token l = l.items.items ++ map item.Token l.tokens ≡ l.initial.items.items ++ map item.Token (slice_tokens l.fn.tokens)

abbrev pub decreases-loop-token : goal.decreases-loop-token
decreases-loop-token l = length l.tokens
