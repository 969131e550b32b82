use Rattle.std.proofs.Common.{◌≡◌, ◌++◌, flat_map, length}
use Rattle.ppmacro.specs.Substituting.{tokens_of}
use Rattle.ppexpand.specs.Slices.{piece_list}
use Rattle.ppexpand.proofs.token_slice.SlicesIterator.next.Given as goal

-- only pieces without tokens were skipped
abbrev pub invariant-loop-piece : goal.invariant-loop-piece
invariant-loop-piece l = tokens_of (flat_map piece_list l.self-inside.pieces.now ++ l.self-inside.last.now) ≡ l.fn.self

abbrev pub decreases-loop-piece : goal.decreases-loop-piece
decreases-loop-piece l = length l.self-inside.pieces.now
