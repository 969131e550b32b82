use Rattle.pptext.proofs.Readings.{one_reading}
use Rattle.pptext.proofs.laws.one_reading.Goals as goal

pub returns : goal.returns
returns c = one_reading
