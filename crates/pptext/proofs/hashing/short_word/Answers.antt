use Rattle.std.proofs.Common.{length, le-leb, lt-ltb, le-ltb}
use Rattle.std.proofs.lemmas.Bool.{lt-leb}
use Rattle.std.specs.Hash.FoldHasher.{read_short}
use Rattle.pptext.proofs.hashing.short_word.Goals as goal

pub returns-then-len-ge4 : goal.returns-then-len-ge4
unfolding read_short
returns-then-len-ge4 c = rw (c.u32_at.ensures.value, c.u32_at-then-len-ge4.ensures.value, le-leb 4 (length c.args.bytes.now) c.if-len-ge4.true)

pub returns-then-len-gt0 : goal.returns-then-len-gt0
unfolding read_short
returns-then-len-gt0 c = rw (lt-leb 4 (length c.args.bytes.now) c.if-len-ge4.false, lt-ltb 0 (length c.args.bytes.now) c.if-len-gt0.true)

pub returns : goal.returns
unfolding read_short
returns c = rw (lt-leb 4 (length c.args.bytes.now) c.if-len-ge4.false, le-ltb 0 (length c.args.bytes.now) c.if-len-gt0.false)
