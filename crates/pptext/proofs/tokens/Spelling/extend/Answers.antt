use Rattle.std.proofs.Common.{rules}
use Rattle.pptext.proofs.tokens.Spelling.extend.Goals as goal

pub returns-in-Long-clause-ok : goal.returns-in-Long-clause-ok
returns-in-Long-clause-ok c = search rules
