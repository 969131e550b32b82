use Rattle.std.proofs.Common.{sym, ◌∙◌}
use Rattle.ppunit.specs.code.Contexts.{search_in_unit}
use Rattle.ppunit.specs.code.Walk.{line_at}
use Rattle.ppunit.proofs.LineDecisions.{enters_asked}
use Rattle.ppunit.proofs.UnitValue.{on_settled}
use Rattle.ppunit.proofs.line_walk.takes_branch.Goals as goal

pub returns-clause-takes_branch : goal.returns-clause-takes_branch
returns-clause-takes_branch g c =
    on_settled c.decide.result
    (λ taken. enters_asked (search_in_unit c.args.context.now) c.args.row c.args.state.now (line_at c.args.source.now c.args.index) c.in-Some.directive c.at.result
    c.decide.new.state.meter taken (sym c.line.ensures.directive ∙ c.in-Some.is) c.at.ensures.tokens
    (sym c.begins_elif_group.ensures ∙ c.if-not-begins_elif_group.false))
    c.decide.ensures.decides
