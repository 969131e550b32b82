use Rattle.std.proofs.Common.{rules}
use Rattle.pptext.proofs.tokens.Token.is_unmatched_quote.Goals as goal

pub returns-then-is_spelled : goal.returns-then-is_spelled
returns-then-is_spelled c = search rules
