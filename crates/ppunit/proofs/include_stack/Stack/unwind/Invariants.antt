use Rattle.std.proofs.Common.{◌≡◌, length}
use Rattle.ppunit.specs.code.Walk.{contexts_restored}
use Rattle.ppunit.proofs.include_stack.Stack.unwind.Given as goal

abbrev pub invariant-loop-suspended : goal.invariant-loop-suspended
invariant-loop-suspended l = contexts_restored l.files l.state ≡ contexts_restored l.fn.self l.fn.state

abbrev pub decreases-loop-suspended : goal.decreases-loop-suspended
decreases-loop-suspended l = length l.files
