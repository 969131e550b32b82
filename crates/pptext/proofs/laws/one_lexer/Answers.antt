use Rattle.pptext.proofs.TextKinds.{has_one_lexer}
use Rattle.pptext.proofs.laws.one_lexer.Goals as goal

pub returns : goal.returns
returns c = has_one_lexer
