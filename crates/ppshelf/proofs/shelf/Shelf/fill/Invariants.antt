use Rattle.std.proofs.Common.{◌≡◌}
use Rattle.ppshelf.specs.Content.{IsPermitted}
use Rattle.ppshelf.specs.Names.{name_in}
use Rattle.ppshelf.proofs.FillInvariant.{Filling}
use Rattle.ppshelf.proofs.shelf.Shelf.fill.Given as goal

abbrev pub invariant-loop-row : goal.invariant-loop-row
invariant-loop-row g l =
    let before = l.initial.self-inside in
    record {
      profile_is : l.self-inside.profile ≡ before.profile;
      names_is : l.self-inside.names ≡ before.names;
      filling : Filling before.profile before.names.names (λ row. IsPermitted (g.D.Disk.may_return l.disk) (name_in before.names.names row)) before.rows.items l.self-inside.rows.items l.row;
    }
