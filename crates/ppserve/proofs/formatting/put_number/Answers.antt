use Rattle.std.proofs.Common.{arith}
use Rattle.ppserve.proofs.BufferPrefix.{length_word}
use Rattle.ppserve.proofs.formatting.put_number.Goals as goal

pub put_large-requires-clause-capacity : goal.put_large-requires-clause-capacity
put_large-requires-clause-capacity c = omega (arith, c.requires, length_word c.args.number (omega (arith, c.ranges.number.fits)))
