use Rattle.ppprint.proofs.UnchangedText.{stays_in_phases_1_and_2}
use Rattle.ppprint.proofs.laws.stays_in_phases_1_and_2.Goals as goal

pub returns : goal.returns
returns c = stays_in_phases_1_and_2
