use Rattle.std.proofs.Common.{length, refl, ap, arith, append_assoc}
use Rattle.ppserve.proofs.BufferPrefix.{decimal_more, length_more}
use Rattle.ppserve.proofs.formatting.+put_large.Goals as goal

pub put-end-requires : goal.put-end-requires
put-end-requires t c = omega (arith, c.requires.capacity, length_more c.args.number c.requires.large (omega (arith, c.ranges.number.fits)))

pub put_pair-requires : goal.put_pair-requires
put_pair-requires t c = omega (arith, c.requires.capacity, c.put-end.ensures.end, ap length c.of.ensures, length_more c.args.number c.requires.large (omega (arith, c.ranges.number.fits)))

pub returns-then-number-lt10000-clause-text : goal.returns-then-number-lt10000-clause-text
returns-then-number-lt10000-clause-text t c =
    rw (c.put_pair.ensures.text, c.put-end.ensures.text, c.of.ensures, decimal_more c.args.number c.requires.large (omega (arith, c.ranges.number.fits)), append_assoc) refl

pub returns-then-number-lt10000-clause-end : goal.returns-then-number-lt10000-clause-end
returns-then-number-lt10000-clause-end t c = omega (arith, c.put_pair.ensures.end, c.put-end.ensures.end, ap length c.of.ensures, length_more c.args.number c.requires.large (omega (arith, c.ranges.number.fits)))

pub put_large-end-requires : goal.put_large-end-requires
put_large-end-requires t c = omega (arith, c.requires.capacity, length_more c.args.number c.requires.large (omega (arith, c.ranges.number.fits)))

pub put_pair-requires-2 : goal.put_pair-requires-2
put_pair-requires-2 t c = omega (arith, c.requires.capacity, c.put_large-end.ensures.end, length_more c.args.number c.requires.large (omega (arith, c.ranges.number.fits)))

pub returns-clause-text : goal.returns-clause-text
returns-clause-text t c =
    rw (c.put_pair-2.ensures.text, c.put_large-end.ensures.text, decimal_more c.args.number c.requires.large (omega (arith, c.ranges.number.fits)), append_assoc) refl

pub returns-clause-end : goal.returns-clause-end
returns-clause-end t c = omega (arith, c.put_pair-2.ensures.end, c.put_large-end.ensures.end, length_more c.args.number c.requires.large (omega (arith, c.ranges.number.fits)))
