use Rattle.ppprint.proofs.ReadingBack.{reads_back}
use Rattle.ppprint.proofs.laws.reads_back.Goals as goal

pub returns : goal.returns
returns c = reads_back
