use Rattle.std.proofs.Common.{rules}
use Rattle.ppexpand.proofs.arguments.separates.Goals as goal

pub returns-after-matches : goal.returns-after-matches
returns-after-matches c = search rules
