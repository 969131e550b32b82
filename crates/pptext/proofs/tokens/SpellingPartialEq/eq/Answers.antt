use Rattle.std.proofs.Common.{rules}
use Rattle.pptext.proofs.tokens.SpellingPartialEq.eq.Goals as goal

pub returns : goal.returns
returns c = search rules
