use Rattle.std.proofs.Common.{◌+◌, Bool, Ok, Err, refl, sym, subst}
use Rattle.pptext.proofs.ErrorReturns.{stopped}
use Rattle.ppunit.specs.States.{State}
use Rattle.ppunit.specs.code.Contexts.{context_over, search_in_unit}
use Rattle.ppunit.specs.Conditions.{Decides}
use Rattle.ppunit.specs.code.Walk.{line_at, Advances}
use Rattle.ppunit.proofs.LineDecisions.{decides_at}
use Rattle.ppunit.proofs.SectionWalks.{enter_taken, enter_skipped, enter_refused}
use Rattle.ppunit.proofs.UnitValue.{on_settled}
use Rattle.ppunit.proofs.line_walk.execute_if_line.Goals as goal

pub returns-in_err-decide-clause-advances : goal.returns-in_err-decide-clause-advances
returns-in_err-decide-clause-advances g c files depth =
    stopped _ _ _ _ c.from_residual.ensures.1 c.in_err-decide.ensures.decides (λ fault decides.
    subst (λ (z : State). Advances (context_over c.args.context.now) files depth c.args.row c.args.source.now c.args.index c.args.state.now z (Err fault)) (sym c.in_err-decide.ensures.rest)
    (enter_refused (context_over c.args.context.now) (search_in_unit c.args.context.now) files depth c.args.row c.args.source.now c.args.index c.args.state.now c.decide.new.state.meter c.args.directive fault
    c.requires.index c.requires.line c.requires.opens (λ more. refl)
    (decides_at (search_in_unit c.args.context.now) c.args.row c.args.state.now (line_at c.args.source.now c.args.index) c.args.directive c.at.result c.decide.new.state.meter (Err fault)
    c.requires.line c.at.ensures.tokens decides)))

pub returns-then-branch-clause-advances : goal.returns-then-branch-clause-advances
returns-then-branch-clause-advances g c files depth =
    let decides = subst (λ (z : Bool). Decides (search_in_unit c.args.context.now) c.args.row c.args.state.now (line_at c.args.source.now c.args.index) c.decide.new.state.meter (Ok z))
    c.if-branch.true
    (decides_at (search_in_unit c.args.context.now) c.args.row c.args.state.now (line_at c.args.source.now c.args.index) c.args.directive c.at.result c.decide.new.state.meter
    (Ok c.in_ok-decide.field-0) c.requires.line c.at.ensures.tokens c.in_ok-decide.ensures.decides) in
    subst (λ (z : State). Advances (context_over c.args.context.now) files depth c.args.row c.args.source.now c.args.index c.args.state.now z (Ok (c.args.index + 1)))
    (sym c.in_ok-decide.ensures.rest)
    (enter_taken (context_over c.args.context.now) (search_in_unit c.args.context.now) files depth c.args.row c.args.source.now c.args.index c.args.state.now c.decide.new.state.meter c.args.directive c.requires.index
    c.requires.line c.requires.opens (λ more. refl) decides)

pub returns-clause-advances : goal.returns-clause-advances
returns-clause-advances g c files depth =
    let decides = subst (λ (z : Bool). Decides (search_in_unit c.args.context.now) c.args.row c.args.state.now (line_at c.args.source.now c.args.index) c.decide.new.state.meter (Ok z))
    c.if-branch.false
    (decides_at (search_in_unit c.args.context.now) c.args.row c.args.state.now (line_at c.args.source.now c.args.index) c.args.directive c.at.result c.decide.new.state.meter
    (Ok c.in_ok-decide.field-0) c.requires.line c.at.ensures.tokens c.in_ok-decide.ensures.decides) in
    on_settled c.find_branch.result
    (λ next found. enter_skipped (context_over c.args.context.now) (search_in_unit c.args.context.now) files depth c.args.row c.args.source.now c.args.index c.args.state.now c.find_branch.new.state
    c.decide.new.state.meter c.args.directive next c.requires.index c.requires.line c.requires.opens (λ more. refl) decides found)
    (rw c.in_ok-decide.ensures.rest at c.find_branch.ensures.found)
