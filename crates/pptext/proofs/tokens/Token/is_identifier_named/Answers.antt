use Rattle.std.proofs.Common.{rules}
use Rattle.pptext.proofs.tokens.Token.is_identifier_named.Goals as goal

pub returns-then-is_identifier : goal.returns-then-is_identifier
returns-then-is_identifier c = search rules
