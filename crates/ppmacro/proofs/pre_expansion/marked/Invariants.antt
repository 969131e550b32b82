use Rattle.std.proofs.Common.{◌≡◌, false, get_or}
use Rattle.std.specs.List.{filter, range_with_len}
use Rattle.ppmacro.proofs.pre_expansion.marked.Given as goal

abbrev pub invariant-loop-index : goal.invariant-loop-index
invariant-loop-index l = l.indexes.items ≡ filter (λ i. get_or l.marks i false) (range_with_len 0 l.index)
