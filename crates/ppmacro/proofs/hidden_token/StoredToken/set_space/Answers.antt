use Rattle.std.proofs.Common.{rules}
use Rattle.ppmacro.proofs.hidden_token.StoredToken.set_space.Goals as goal

pub returns : goal.returns
returns c = search rules
