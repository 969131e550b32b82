use Rattle.pptext.proofs.SingleTokens.{relexes_tokens}
use Rattle.pptext.proofs.laws.relexes_tokens.Goals as goal

pub returns : goal.returns
returns c = relexes_tokens
