use Rattle.std.proofs.Common.{rules}
use Rattle.ppserve.proofs.PageRecords.{all_over}
use Rattle.ppserve.proofs.printing.put_by_workers.Goals as goal

pub put_in_rounds-requires-clause-alike : goal.put_in_rounds-requires-clause-alike
put_in_rounds-requires-clause-alike g c =
    let alike = all_over c.args.output c.in_ok-cursor-2.cursor c.in_ok-pages.pages.items c.in_ok-cursor-2.ensures.over c.in_ok-pages.ensures.over in
    search (rules, alike)
