use Rattle.std.proofs.Common.{◌≡◌, drop}
use Rattle.ppunit.specs.Quotes as quotes
use Rattle.ppunit.proofs.directive_line.refuse_unmatched_quote.Given as goal

abbrev pub invariant-loop-token : goal.invariant-loop-token
invariant-loop-token l = quotes.unmatched_quote (drop l.token-index l.line) ≡ quotes.unmatched_quote l.line
