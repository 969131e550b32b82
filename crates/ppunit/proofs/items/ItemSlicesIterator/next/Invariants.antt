use Rattle.std.proofs.Common.{◌≡◌, flat_map, length}
use Rattle.ppunit.specs.code.Chunks.{chunk_items}
use Rattle.ppunit.proofs.items.ItemSlicesIterator.next.Given as goal

-- only chunks without items were skipped
abbrev pub invariant-loop-chunk : goal.invariant-loop-chunk
invariant-loop-chunk l = flat_map chunk_items l.self-inside.chunks.now ≡ l.fn.self

abbrev pub decreases-loop-chunk : goal.decreases-loop-chunk
decreases-loop-chunk l = length l.self-inside.chunks.now
