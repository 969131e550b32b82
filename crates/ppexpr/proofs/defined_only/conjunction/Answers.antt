use Rattle.std.proofs.Common.{sym, ap, ◌∙◌, ◌&&◌}
use Rattle.ppexpr.proofs.TruthValues.{as_conjunction, and_truth}
use Rattle.ppexpr.proofs.defined_only.conjunction.Goals as goal

pub loop-next-init : goal.loop-next-init
loop-next-init c = as_conjunction c.args.table.now.macros c.args.tokens.now c.in_ok-holds.rest.now c.in_ok-holds.holds c.in_ok-holds.ensures

pub loop-next-preserved-then-holds : goal.loop-next-preserved-then-holds
loop-next-preserved-then-holds c =
    and_truth c.args.table.now.macros c.args.tokens.now c.loop-next.rest.now c.in-Some.next.now c.in_ok-right.further.now c.loop-next.holds c.in_ok-right.right c.in_ok-right.right
    (sym (ap (λ b. b && c.in_ok-right.right) c.if-holds.true)) c.loop-next.invariant c.in-Some.ensures c.in_ok-right.ensures

pub loop-next-preserved : goal.loop-next-preserved
loop-next-preserved c =
    and_truth c.args.table.now.macros c.args.tokens.now c.loop-next.rest.now c.in-Some.next.now c.in_ok-right.further.now c.loop-next.holds c.in_ok-right.right c.loop-next.holds
    (c.if-holds.false ∙ sym (ap (λ b. b && c.in_ok-right.right) c.if-holds.false)) c.loop-next.invariant c.in-Some.ensures c.in_ok-right.ensures
