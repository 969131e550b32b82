use Rattle.pptext.proofs.TextKinds.{kind_by_language}
use Rattle.pptext.proofs.laws.kind_by_language.Goals as goal

pub returns : goal.returns
returns c = kind_by_language
