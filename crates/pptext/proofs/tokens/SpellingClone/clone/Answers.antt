use Rattle.std.proofs.Common.{rules}
use Rattle.pptext.proofs.tokens.SpellingClone.clone.Goals as goal

pub returns-in-Short : goal.returns-in-Short
returns-in-Short c = search rules
