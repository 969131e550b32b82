use Rattle.std.proofs.Common.{◌≡◌, length}
use Rattle.ppserve.specs.code.Segments.{from_mark}
use Rattle.ppserve.proofs.text_output.skip_to_mark.Given as goal

abbrev pub invariant-loop-slice : goal.invariant-loop-slice
invariant-loop-slice l = from_mark l.items ≡ from_mark l.initial.items

abbrev pub decreases-loop-slice : goal.decreases-loop-slice
decreases-loop-slice l = length l.items
