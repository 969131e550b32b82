use Rattle.std.proofs.Common.{◌≤◌, length, arith}
use Rattle.ppserve.proofs.BufferPrefix.{take_after}
use Rattle.ppserve.proofs.formatting.put_prefix.Goals as goal

pub returns-clause-text : goal.returns-clause-text
returns-clause-text g c =
    let within : c.args.len ≤ length c.args.text.now = omega (arith, c.told-text, c.requires.len) in
    rw c.copy_from_slice.ensures.after (take_after c.args.bytes.now c.args.text.now _ c.args.end c.args.len (omega (arith, c.requires.capacity)) within)
