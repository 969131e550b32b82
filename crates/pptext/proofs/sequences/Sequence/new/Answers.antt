use Rattle.std.proofs.Common.{rules}
use Rattle.pptext.proofs.sequences.Sequence.new.Goals as goal

pub returns : goal.returns
returns g c = search rules
