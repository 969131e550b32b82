use Rattle.ppprint.proofs.ReadingOnce.{reads_once}
use Rattle.ppprint.proofs.laws.reads_once.Goals as goal

pub returns : goal.returns
returns c = reads_once
