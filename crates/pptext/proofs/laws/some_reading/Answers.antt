use Rattle.pptext.proofs.Readings.{some_reading}
use Rattle.pptext.proofs.laws.some_reading.Goals as goal

pub returns : goal.returns
returns c = some_reading
