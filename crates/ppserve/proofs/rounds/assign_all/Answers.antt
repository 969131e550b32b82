use Rattle.std.proofs.Common.{◌<◌, rules, length}
use Rattle.ppserve.proofs.PageRecords.{alike_then, alike_back}
use Rattle.ppserve.proofs.rounds.assign_all.Goals as goal

pub assign-requires : goal.assign-requires
assign-requires c =
    let below : c.loop-page.page-index < length c.loop-page.pages = search rules in
    alike_then (c.loop-page.invariant.alike c.loop-page.page-index c.page-item.result below) (alike_back c.loop-page.invariant.cursor)
