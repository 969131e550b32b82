use Rattle.std.proofs.Common.{◌≡◌, ◌++◌, length}
use Rattle.ppexpand.proofs.emitted.push_span.Given as goal

abbrev pub invariant-loop-hidden : goal.invariant-loop-hidden
invariant-loop-hidden l = l.tokens.items ++ l.span ≡ l.initial.tokens.items ++ l.initial.span

abbrev pub decreases-loop-hidden : goal.decreases-loop-hidden
decreases-loop-hidden l = length l.span
