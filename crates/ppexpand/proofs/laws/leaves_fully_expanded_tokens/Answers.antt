use Rattle.ppexpand.proofs.FullyExpanded.{all_settled}
use Rattle.ppexpand.proofs.laws.leaves_fully_expanded_tokens.Goals as goal

pub returns : goal.returns
returns c = λ macros env level meter list out d. all_settled macros env d.1
