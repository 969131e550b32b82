use Rattle.std.specs.Hash.FoldHasher.{read_u64}
use Rattle.pptext.proofs.hashing.word.Goals as goal

pub returns : goal.returns
unfolding read_u64
returns c = rw (c.u32_at.ensures.value, c.u32_at-2.ensures.value)
