use Rattle.pptext.proofs.Readings.{tokenizes_unless_unclosed}
use Rattle.pptext.proofs.laws.tokenizes_unless_unclosed.Goals as goal

pub returns : goal.returns
returns c = tokenizes_unless_unclosed
