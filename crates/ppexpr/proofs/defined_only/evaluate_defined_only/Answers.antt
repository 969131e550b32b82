use Rattle.std.proofs.Common.{arith, sym, ap, ◌∙◌, ◌||◌}
use Rattle.std.proofs.lemmas.Bool.{eqb-true}
use Rattle.ppexpr.proofs.TruthValues.{as_disjunction, or_truth, has_truth}
use Rattle.ppexpr.proofs.defined_only.evaluate_defined_only.Goals as goal

pub loop-next-init : goal.loop-next-init
loop-next-init c = as_disjunction c.args.table.now.macros c.args.tokens.now c.in_ok-holds.rest.now c.in_ok-holds.holds c.in_ok-holds.ensures

pub loop-next-preserved-then-holds : goal.loop-next-preserved-then-holds
loop-next-preserved-then-holds c =
    or_truth c.args.table.now.macros c.args.tokens.now c.loop-next.rest.now c.in-Some.next.now c.in_ok-right.further.now c.loop-next.holds c.in_ok-right.right c.loop-next.holds
    (c.if-holds.true ∙ sym (ap (λ b. b || c.in_ok-right.right) c.if-holds.true)) c.loop-next.invariant c.in-Some.ensures c.in_ok-right.ensures

pub loop-next-preserved : goal.loop-next-preserved
loop-next-preserved c =
    or_truth c.args.table.now.macros c.args.tokens.now c.loop-next.rest.now c.in-Some.next.now c.in_ok-right.further.now c.loop-next.holds c.in_ok-right.right c.in_ok-right.right
    (sym (ap (λ b. b || c.in_ok-right.right) c.if-holds.false)) c.loop-next.invariant c.in-Some.ensures c.in_ok-right.ensures

pub returns-then-is_empty : goal.returns-then-is_empty
returns-then-is_empty c =
    has_truth c.args.table.now.macros c.args.tokens.now c.loop-next.rest.now c.loop-next.holds (omega (arith, c.if-tokens-gt-MOST_LEVELS.false))
    (eqb-true _ _ (sym c.is_empty.ensures ∙ c.if-is_empty.true)) c.loop-next.invariant
