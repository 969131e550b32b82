use Rattle.ppshelf.proofs.ObservedContents.{Unseen}
use Rattle.ppshelf.proofs.shelf.Shelf.pass.Given as goal

abbrev pub invariant-loop-row : goal.invariant-loop-row
invariant-loop-row g l = Unseen l.row-items l.rows.items l.row-index
