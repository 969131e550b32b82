use Rattle.std.proofs.Common.{◌≡◌, ◌<◌, length, get_or, rules, arith, ap, sym, ◌∙◌}
use Rattle.ppserve.specs.declared.rounds.Page.{Page}
use Rattle.ppserve.specs.code.Rounds.{page_records}
use Rattle.ppserve.proofs.PageRecords.{same_records}
use Rattle.ppserve.proofs.rounds.fill_all.Goals as goal

pub returns-clause-records : goal.returns-clause-records
returns-clause-records g c =
    same_records c.args.pages.now c.for_each_mut.new.s (search rules)
    (λ i d below. let at = (c.for_each_mut.ensures i d below).1 in ap page_records (sym at.left) ∙ (at.call.0 ∙ ap page_records at.argument_is))

pub returns-clause-alike : goal.returns-clause-alike
returns-clause-alike g c = λ over all i d below.
    let same : length c.for_each_mut.new.s ≡ length c.args.pages.now = search rules in
    let within : i < length c.args.pages.now = omega (arith, below, same) in
    let at = (c.for_each_mut.ensures i d within).1 in
    let start : (get_or c.for_each_mut.new.s i d).start ≡ (get_or c.args.pages.now i d).start = ap (λ (p : Page). p.start) (sym at.left) ∙ (at.call.1 ∙ ap (λ (p : Page). p.start) at.argument_is) in
    rw start (all i d within)
