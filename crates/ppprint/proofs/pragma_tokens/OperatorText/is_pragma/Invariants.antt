use Rattle.std.proofs.Common.{◌≡◌, true}
use Rattle.std.specs.Prelude.{is_some}
use Rattle.ppprint.specs.Operators.{tokens_after}
use Rattle.ppprint.specs.code.PragmaText.{length_left, tokens_left}
use Rattle.ppprint.proofs.pragma_tokens.OperatorText.is_pragma.Given as goal

abbrev pub invariant-loop : goal.invariant-loop
invariant-loop l = is_some (tokens_left l.tokens) ≡ is_some (tokens_after 0 true l.self)

abbrev pub decreases-loop : goal.decreases-loop
decreases-loop l = length_left l.tokens
