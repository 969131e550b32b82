use Rattle.std.proofs.Common.{Some, ap, arith}
use Rattle.ppunit.specs.BorrowedItems.{marks, slice_items}
use Rattle.ppserve.proofs.IncludeChain.{leaves_step, marks-append}
use Rattle.ppserve.proofs.chain.is_left.Goals as goal

pub open_after-requires : goal.open_after-requires
open_after-requires c =
    let is = ap marks (c.in-Some.ensures {u = tt}).steps.1 in
    let parts = marks-append (slice_items c.in-Some.slice) c.next.new.self in
    omega (arith, c.loop-slice.invariant.few)

pub loop-slice-preserved : goal.loop-slice-preserved
loop-slice-preserved c =
    let steps = (c.in-Some.ensures {u = tt}).steps.1 in
    let after = c.in-Some-open_after.ensures {u = tt} in
    let is = ap marks steps in
    let parts = marks-append (slice_items c.in-Some.slice) c.next.new.self in
    record {
      same = leaves_step c.loop-slice.depth c.loop-slice.rest (slice_items c.in-Some.slice) c.next.new.self c.args.items (Some c.in-Some-open_after.after) steps after.after c.loop-slice.invariant.same;
      few = omega (arith, c.loop-slice.invariant.few, after.few);
    }
