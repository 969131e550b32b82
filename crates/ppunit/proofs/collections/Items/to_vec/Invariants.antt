use Rattle.std.proofs.Common.{◌≡◌, take, flat_map}
use Rattle.ppunit.specs.code.Chunks.{chunk_items}
use Rattle.ppunit.proofs.collections.Items.to_vec.Given as goal

abbrev pub invariant-loop-chunk : goal.invariant-loop-chunk
invariant-loop-chunk l = l.items.items ≡ flat_map chunk_items (take l.chunk-index l.chunk-items)
