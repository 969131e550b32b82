use Rattle.std.specs.Hash.FoldHasher.{read_u32}
use Rattle.pptext.proofs.hashing.u32_at.Goals as goal

pub returns-clause-value : goal.returns-clause-value
unfolding read_u32
returns-clause-value c = c.from_le_bytes.ensures
