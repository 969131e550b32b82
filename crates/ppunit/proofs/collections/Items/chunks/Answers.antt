use Rattle.std.proofs.Common.{rules}
use Rattle.ppunit.proofs.collections.Items.chunks.Goals as goal

pub returns : goal.returns
returns c = search rules
