use Rattle.std.proofs.Common.{◌≡◌, ◌+◌, ◌-◌, ℕ, length, reverse, subst, arith}
use Rattle.pptext.proofs.Spans.{no_line}
use Rattle.pptext.proofs.NextBranchFacts.{LinkedFrom, linked_start, linked_step, linked_all}
use Rattle.pptext.proofs.grouping.branches.link_branches.Goals as goal

pub loop-at-init : goal.loop-at-init
loop-at-init c = rw c.new-open_branches.ensures.items (linked_start c.args.lines.now (length c.args.lines.now) (omega arith))

pub loop-at-preserved : goal.loop-at-preserved
loop-at-preserved c =
    let at : c.loop-at.at ≡ c.loop-at.at - 1 + 1 = omega (arith, c.loop-at-test.true) in
    let sofar = subst (λ (z : ℕ). LinkedFrom c.args.lines.now z c.loop-at.lines (reverse c.loop-at.open_branches.items)) at c.loop-at.invariant in
    linked_step c.args.lines.now c.loop-at.lines (reverse c.loop-at.open_branches.items) (reverse c.step_back.new.open_branches.items) (c.loop-at.at - 1) no_line
    c.in_ok-next.next (omega (arith, c.loop-at-test.true)) sofar
    c.in_ok-next.ensures

pub returns : goal.returns
returns c = linked_all c.args.lines.now c.loop-at.lines (reverse c.loop-at.open_branches.items) c.loop-at.at c.loop-at-test.false c.loop-at.invariant
