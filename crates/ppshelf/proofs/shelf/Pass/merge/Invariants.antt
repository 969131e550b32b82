use Rattle.std.proofs.Common.{◌≡◌, ◌≤◌, length, take, vec_len}
use Rattle.ppshelf.proofs.ObservedContents.{Met}
use Rattle.ppshelf.proofs.shelf.Pass.merge.Given as goal

abbrev pub invariant-loop-theirs : goal.invariant-loop-theirs
invariant-loop-theirs g l =
    ((l.self-inside.shelf ≡ l.initial.self-inside.shelf) × (l.self-inside.searches ≡ l.initial.self-inside.searches))
    × (vec_len l.rows ≤ length l.initial.shelf.names)
    × (l.rows.items ≡ take (vec_len l.rows) l.initial.rows.items)
    × Met g.D.Disk.may l.initial.shelf l.initial.self-inside.rows.items l.initial.rows.items l.self-inside.rows.items (vec_len l.rows)

abbrev pub decreases-loop-theirs : goal.decreases-loop-theirs
decreases-loop-theirs g l = vec_len l.rows
