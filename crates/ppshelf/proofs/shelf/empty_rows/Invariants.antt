use Rattle.std.proofs.Common.{◌≡◌, replicate, length, None}
use Rattle.ppshelf.specs.code.ShelfRows.{filled_of}
use Rattle.ppshelf.proofs.shelf.empty_rows.Given as goal

abbrev pub invariant-loop-row : goal.invariant-loop-row
invariant-loop-row g l = (length l.rows.items ≡ l._row) × (filled_of l.rows.items ≡ replicate l._row None)
