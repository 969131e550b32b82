use Rattle.std.proofs.Common.{ℕ, ◌<◌, ◌≤◌, length}
use Rattle.ppshelf.specs.Content.{longest}
use Rattle.ppshelf.specs.Files.{bytes_at}
use Rattle.ppshelftests.proofs.shelf.filling.are_short.Given as goal

abbrev pub invariant-loop-bytes : goal.invariant-loop-bytes
invariant-loop-bytes l = (row : ℕ) → row < l.bytes-index → length (bytes_at l.contents row) ≤ longest
