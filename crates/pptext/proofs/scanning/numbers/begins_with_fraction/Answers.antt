use Rattle.std.proofs.Common.{rules}
use Rattle.pptext.proofs.scanning.numbers.begins_with_fraction.Goals as goal

pub returns-else-text-eq46 : goal.returns-else-text-eq46
returns-else-text-eq46 c = search rules
