use Rattle.ppshelf.proofs.ObservedContents.{joined_theirs}
use Rattle.ppshelf.proofs.shelf.Shelf.meet.Goals as goal

pub returns-clause-theirs : goal.returns-clause-theirs
returns-clause-theirs g c = joined_theirs _ _ _ c.merge.ensures.agree c.merge.ensures.joined
