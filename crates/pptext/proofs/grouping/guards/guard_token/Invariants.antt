use Rattle.std.proofs.Common.{◌↔◌, ℕ, List, drop}
use Rattle.pptext.specs.Sources.{lines_from}
use Rattle.pptext.specs.code.Grouping.{FlatGuard}
use Rattle.pptext.proofs.grouping.guards.guard_token.Given as goal

abbrev pub invariant-loop-at : goal.invariant-loop-at
invariant-loop-at l = (x : List ℕ) → FlatGuard 0 (lines_from l.tokens l.lines) x ↔ FlatGuard l.at (drop l.at (lines_from l.tokens l.lines)) x
