use Rattle.std.proofs.Common.{rules}
use Rattle.ppshelf.proofs.shelf.Shelf.profile.Goals as goal

pub returns : goal.returns
returns g c = search rules
