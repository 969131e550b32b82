use Rattle.pptext.proofs.FinalNewLine.{keeps_every_token}
use Rattle.pptext.proofs.laws.keeps_every_token.Goals as goal

pub returns : goal.returns
returns c = keeps_every_token
