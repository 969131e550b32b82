use Rattle.std.proofs.Common.{◌+◌, Bool, Ok, Err, ◌∙◌, sym, subst, arith}
use Rattle.pptext.proofs.ErrorReturns.{stopped}
use Rattle.ppunit.specs.States.{State}
use Rattle.ppunit.specs.code.Contexts.{search_in_unit}
use Rattle.ppunit.specs.code.Walk.{FindsBranch}
use Rattle.ppunit.proofs.SectionWalks.{next_inside, EntersAt, BranchSoFar, branch_more, branch_taken, branch_refused, branch_found}
use Rattle.ppunit.proofs.LineDecisions.{none_of}
use Rattle.ppunit.proofs.line_walk.find_branch.Goals as goal

pub takes_branch-requires-clause-index : goal.takes_branch-requires-clause-index
takes_branch-requires-clause-index g c = (next_inside c.args.source.now c.loop-next.index c.in-Some.next c.loop-next.invariant.within (sym c.line.ensures.next ∙ c.in-Some.is)).1

pub returns-in_err-takes_branch-clause-found : goal.returns-in_err-takes_branch-clause-found
returns-in_err-takes_branch-clause-found g c =
    stopped _ _ _ _ c.from_residual.ensures.1 c.in_err-takes_branch.ensures.takes_branch (λ fault entered ps bs qs k b.
    subst (λ (z : State). FindsBranch (search_in_unit c.args.context.now) c.args.row c.args.source.now c.args.state.now z bs qs k (Err fault)) (sym c.in_err-takes_branch.ensures.rest)
    (branch_refused (search_in_unit c.args.context.now) c.args.row c.args.source.now c.args.start c.in-Some.next c.loop-next.index c.args.state.now c.loop-next.state c.takes_branch.new.state.meter
    fault c.loop-next.invariant (sym c.line.ensures.next ∙ c.in-Some.is) entered ps bs qs k b))

pub overflow_add-result : goal.overflow_add-result
overflow_add-result g c = omega (arith, (next_inside c.args.source.now c.loop-next.index c.in-Some.next c.loop-next.invariant.within (sym c.line.ensures.next ∙ c.in-Some.is)).1, c.line.ensures.few)

pub returns-then-branch-clause-further : goal.returns-then-branch-clause-further
returns-then-branch-clause-further g c =
    omega (arith, (next_inside c.args.source.now c.loop-next.index c.in-Some.next c.loop-next.invariant.within (sym c.line.ensures.next ∙ c.in-Some.is)).0, c.loop-next.invariant.from)

pub returns-then-branch-clause-found : goal.returns-then-branch-clause-found
returns-then-branch-clause-found g c ps bs qs k b =
    subst (λ (z : State). FindsBranch (search_in_unit c.args.context.now) c.args.row c.args.source.now c.args.state.now z bs qs k (Ok (c.in-Some.next + 1))) (sym c.in_ok-takes_branch.ensures.rest)
    (branch_taken (search_in_unit c.args.context.now) c.args.row c.args.source.now c.args.start c.in-Some.next c.loop-next.index c.args.state.now c.loop-next.state c.takes_branch.new.state.meter
    c.loop-next.invariant (sym c.line.ensures.next ∙ c.in-Some.is)
    (subst (λ (z : Bool). EntersAt (search_in_unit c.args.context.now) c.args.row c.args.source.now c.in-Some.next c.loop-next.state c.takes_branch.new.state.meter (Ok z)) c.if-branch.true
    c.in_ok-takes_branch.ensures.takes_branch) ps bs qs k b)

pub loop-next-smaller : goal.loop-next-smaller
loop-next-smaller g c =
    let h = next_inside c.args.source.now c.loop-next.index c.in-Some.next c.loop-next.invariant.within (sym c.line.ensures.next ∙ c.in-Some.is) in omega (arith, h.0, h.1, c.loop-next.invariant.within)

pub loop-next-preserved : goal.loop-next-preserved
loop-next-preserved g c =
    subst (λ (z : State). BranchSoFar (search_in_unit c.args.context.now) c.args.row c.args.source.now c.args.start c.args.state.now z c.in-Some.next) (sym c.in_ok-takes_branch.ensures.rest)
    (branch_more (search_in_unit c.args.context.now) c.args.row c.args.source.now c.args.start c.in-Some.next c.loop-next.index c.args.state.now c.loop-next.state c.takes_branch.new.state.meter
    c.loop-next.invariant (sym c.line.ensures.next ∙ c.in-Some.is)
    (subst (λ (z : Bool). EntersAt (search_in_unit c.args.context.now) c.args.row c.args.source.now c.in-Some.next c.loop-next.state c.takes_branch.new.state.meter (Ok z)) c.if-branch.false
    c.in_ok-takes_branch.ensures.takes_branch))

pub returns-clause-found : goal.returns-clause-found
returns-clause-found g c ps bs qs k b =
    absurd
    (branch_found (search_in_unit c.args.context.now) c.args.row c.args.source.now c.args.start c.loop-next.index c.args.state.now c.loop-next.state c.loop-next.invariant
    (sym c.line.ensures.next ∙ none_of c.line.result.now.next_branch c.in_default.not-Some) ps bs qs k b)
