use Rattle.std.proofs.Common.{rules}
use Rattle.pptext.proofs.sources.Source.lines.Goals as goal

pub returns : goal.returns
returns c = search rules
