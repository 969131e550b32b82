use Rattle.std.proofs.Common.{◌≡◌, ◌≤◌}
use Rattle.ppprint.specs.code.PragmaText.{length_left, tokens_left}
use Rattle.ppprint.proofs.pragma_tokens.PragmaTokens.next.Given as goal

abbrev pub invariant-loop-n : goal.invariant-loop-n
invariant-loop-n l = (tokens_left l.self ≡ tokens_left l.initial.self) × (length_left l.self ≤ length_left l.initial.self)

abbrev pub decreases-loop-n : goal.decreases-loop-n
decreases-loop-n l = length_left l.self
