use Rattle.std.proofs.Common.{rules}
use Rattle.pptext.proofs.hashing.Hashing.fixed.Goals as goal

pub returns : goal.returns
returns c = search rules
