use Rattle.std.proofs.Common.{refl}
use Rattle.std.proofs.KnownBytes.{Appends-kept}
use Rattle.ppserve.proofs.KnownStreamBytes.{wrote_more}
use Rattle.ppserve.proofs.BufferedPrinting.{puts_broken}
use Rattle.ppserve.proofs.out_buffer.write_out.Goals as goal

pub loop-done-preserved : goal.loop-done-preserved
loop-done-preserved g c =
    let both = wrote_more c.args.bytes.now c.loop-done.done c.in-Ok.count _ _ _ c.loop-done.invariant.within c.in-Ok.ensures.bound c.loop-done.invariant.out c.in-Ok.ensures.bytes in
    record { within = both.0; unfailed = rw (c.in-Ok.ensures.fails, c.loop-done.invariant.unfailed) refl; was_unfailed = c.loop-done.invariant.was_unfailed; out = both.1 }

pub returns-in_default : goal.returns-in_default
returns-in_default g c =
    puts_broken c.loop-done.done c.loop-done.invariant.was_unfailed (rw (c.in_default.ensures.fails, c.loop-done.invariant.unfailed) refl) (Appends-kept _ _ _ _ c.loop-done.invariant.out c.in_default.ensures.bytes)
