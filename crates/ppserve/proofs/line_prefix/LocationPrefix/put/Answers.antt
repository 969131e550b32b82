use Rattle.std.proofs.Common.{arith}
use Rattle.ppserve.proofs.BufferPrefix.{length_word}
use Rattle.ppserve.proofs.line_prefix.LocationPrefix.put.Goals as goal

pub put_number-requires : goal.put_number-requires
put_number-requires c = omega (arith, c.requires, c.self.invariant, c.put_prefix-end.ensures.end)

pub returns-clause-within : goal.returns-clause-within
returns-clause-within c = omega (arith, c.self.invariant, c.put_prefix-end.ensures.end, c.put_number.ensures.end, length_word c.args.col (omega (arith, c.ranges.col.fits)))
