use Rattle.std.proofs.Common.{◌≡◌, ◌+◌, ◌≤◌, ◌++◌, length}
use Rattle.ppprint.specs.Operators.{unescaped}
use Rattle.ppprint.proofs.pragma_tokens.OperatorText.fill.Given as goal

abbrev pub invariant-loop-first : goal.invariant-loop-first
invariant-loop-first l = (l.self ++ unescaped l.rest ≡ l.initial.self ++ unescaped l.inner) × (length l.self + length l.rest ≤ 4096)

abbrev pub decreases-loop-first : goal.decreases-loop-first
decreases-loop-first l = length l.rest
