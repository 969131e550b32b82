use Rattle.std.proofs.Common.{rules}
use Rattle.pptext.proofs.tokens.Spelling.new.Goals as goal

pub returns-then-len-le-SHORT : goal.returns-then-len-le-SHORT
returns-then-len-le-SHORT c = search rules
