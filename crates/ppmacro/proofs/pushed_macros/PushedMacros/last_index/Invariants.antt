use Rattle.std.proofs.Common.{◌≡◌, ◌≤◌, None, drop, length}
use Rattle.ppmacro.specs.PushedMacros.{last_of}
use Rattle.ppmacro.proofs.pushed_macros.PushedMacros.last_index.Given as goal

abbrev pub invariant-loop-rest : goal.invariant-loop-rest
invariant-loop-rest l = (l.rest ≤ length l.self) × (last_of l.name (drop l.rest l.self) ≡ None)

abbrev pub decreases-loop-rest : goal.decreases-loop-rest
decreases-loop-rest l = l.rest
