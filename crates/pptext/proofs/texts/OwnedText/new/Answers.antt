use Rattle.std.proofs.Common.{rules}
use Rattle.pptext.proofs.texts.OwnedText.new.Goals as goal

pub returns : goal.returns
returns c = search rules
