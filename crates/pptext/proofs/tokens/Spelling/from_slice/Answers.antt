use Rattle.std.proofs.Common.{rules}
use Rattle.pptext.proofs.tokens.Spelling.from_slice.Goals as goal

pub returns-then-bytes-le-SHORT : goal.returns-then-bytes-le-SHORT
returns-then-bytes-le-SHORT c = search rules
