use Rattle.std.proofs.Common.{rules}
use Rattle.ppmacro.proofs.hidden_token.Hidden.to_token.Goals as goal

pub returns : goal.returns
returns c = search rules
