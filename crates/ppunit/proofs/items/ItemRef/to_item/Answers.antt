use Rattle.std.proofs.Common.{rules}
use Rattle.ppunit.proofs.items.ItemRef.to_item.Goals as goal

pub returns-in_ok-from_clones-in-Pragma : goal.returns-in_ok-from_clones-in-Pragma
returns-in_ok-from_clones-in-Pragma c = search rules
