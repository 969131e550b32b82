use Rattle.std.proofs.Common.{rules}
use Rattle.ppexpand.proofs.meter.Meter.spend_one.Goals as goal

pub returns-in-Some : goal.returns-in-Some
returns-in-Some c = search rules
