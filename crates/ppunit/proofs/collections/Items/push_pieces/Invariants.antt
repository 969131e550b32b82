use Rattle.std.proofs.Common.{◌≡◌, ◌++◌, map, flat_map}
use Rattle.ppmacro.specs.Substituting.{tokens_of}
use Rattle.ppexpand.specs.Slices.{piece_list}
use Rattle.ppunit.specs.declared.units.Item.TheVariants as item
use Rattle.ppunit.proofs.collections.Items.push_pieces.Given as goal

abbrev pub invariant-loop-piece : goal.invariant-loop-piece
invariant-loop-piece l = l.self ≡ l.initial.self ++ map item.Token (tokens_of (flat_map piece_list l.yielded))
