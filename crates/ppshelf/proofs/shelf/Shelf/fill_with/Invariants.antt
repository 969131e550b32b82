use Rattle.std.proofs.Common.{◌≡◌, length}
use Rattle.ppshelf.proofs.FillInvariant.{Filling, given}
use Rattle.ppshelf.proofs.shelf.Shelf.fill_with.Given as goal

abbrev pub invariant-loop-bytes : goal.invariant-loop-bytes
invariant-loop-bytes g l =
    let before = l.initial.self-inside in
    record {
      row_is : l.row ≡ length l.yielded;
      profile_is : l.self-inside.profile ≡ before.profile;
      names_is : l.self-inside.names ≡ before.names;
      filling : Filling before.profile before.names.names (given l.fn.contents) before.rows.items l.self-inside.rows.items l.row;
    }
