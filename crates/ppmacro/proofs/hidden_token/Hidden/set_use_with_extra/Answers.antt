use Rattle.std.proofs.Common.{rules}
use Rattle.ppmacro.proofs.hidden_token.Hidden.set_use_with_extra.Goals as goal

pub returns : goal.returns
returns c = search rules
