use Rattle.std.proofs.Common.{rules}
use Rattle.ppexpand.proofs.token_slice.TokenRef.at.Goals as goal

pub returns-in-InFile : goal.returns-in-InFile
returns-in-InFile c = search rules
