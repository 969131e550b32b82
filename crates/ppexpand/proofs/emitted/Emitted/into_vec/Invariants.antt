use Rattle.std.proofs.Common.{◌≡◌, flat_map}
use Rattle.ppexpand.specs.Slices.{piece_list}
use Rattle.ppexpand.proofs.emitted.Emitted.into_vec.Given as goal

abbrev pub invariant-loop-piece : goal.invariant-loop-piece
invariant-loop-piece l = l.tokens.items ≡ flat_map piece_list l.yielded
