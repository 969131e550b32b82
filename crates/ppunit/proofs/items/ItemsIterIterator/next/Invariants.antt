use Rattle.std.proofs.Common.{◌≡◌, ◌++◌, map, length}
use Rattle.ppunit.specs.declared.units.Item.TheVariants as item
use Rattle.ppunit.proofs.items.ItemsIterIterator.next.Given as goal

-- the loop skips only exhausted slices: the remaining items are those at the start
abbrev pub invariant-loop-token : goal.invariant-loop-token
invariant-loop-token l = map item.Token l.self-inside.tokens ++ l.self-inside.slices ≡ l.fn.self

abbrev pub decreases-loop-token : goal.decreases-loop-token
decreases-loop-token l = length l.self-inside.slices
