use Rattle.pptext.proofs.TokenizationUniqueness.{one_tokenization}
use Rattle.pptext.proofs.laws.one_tokenization.Goals as goal

pub returns : goal.returns
returns c = one_tokenization
