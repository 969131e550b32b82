use Rattle.std.proofs.Common.{rules}
use Rattle.pptext.proofs.tokens.Token.is_identifier.Goals as goal

pub returns-in-Ident : goal.returns-in-Ident
returns-in-Ident c = search rules
