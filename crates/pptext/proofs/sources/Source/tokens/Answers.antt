use Rattle.std.proofs.Common.{rules}
use Rattle.pptext.proofs.sources.Source.tokens.Goals as goal

pub returns : goal.returns
returns c = search rules
