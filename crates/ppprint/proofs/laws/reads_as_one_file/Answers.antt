use Rattle.ppprint.proofs.WholeText.{reads_as_one_file}
use Rattle.ppprint.proofs.laws.reads_as_one_file.Goals as goal

pub returns : goal.returns
returns c = reads_as_one_file
