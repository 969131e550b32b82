use Rattle.std.proofs.Common.{rules}
use Rattle.pptext.proofs.tokens.Spelling.in_place.Goals as goal

pub returns-in-Short-clause-some : goal.returns-in-Short-clause-some
returns-in-Short-clause-some c = search rules
