use Rattle.std.proofs.Common.{rules}
use Rattle.pptext.proofs.tokens.Token.is_punct.Goals as goal

pub returns-then-matches : goal.returns-then-matches
returns-then-matches c = search rules
