use Rattle.std.proofs.Common.{rules}
use Rattle.pptext.proofs.texts.OwnedText.as_str.Goals as goal

pub returns : goal.returns
returns c = search rules
