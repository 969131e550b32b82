use Rattle.std.proofs.Common.{rules}
use Rattle.pptext.proofs.tokens.Fault.bare.Goals as goal

pub returns : goal.returns
returns c = search rules
