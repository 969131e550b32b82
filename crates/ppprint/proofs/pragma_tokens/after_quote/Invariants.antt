use Rattle.std.proofs.Common.{◌≡◌, ◌≤◌, length}
use Rattle.ppprint.specs.Operators.{after_quote}
use Rattle.ppprint.proofs.pragma_tokens.after_quote.Given as goal

abbrev pub invariant-loop-first : goal.invariant-loop-first
invariant-loop-first l = (after_quote l.rest ≡ after_quote l.literal) × (length l.rest ≤ length l.literal)

abbrev pub decreases-loop-first : goal.decreases-loop-first
decreases-loop-first l = length l.rest
