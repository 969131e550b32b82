use Rattle.std.proofs.Common.{rules}
use Rattle.pppool.proofs.slots.fill_slot.Goals as goal

pub returns : goal.returns
returns c = search rules
