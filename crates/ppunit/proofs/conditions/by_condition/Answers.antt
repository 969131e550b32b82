use Rattle.std.proofs.Common.{◌∙◌, refl, ap}
use Rattle.pptext.proofs.ErrorReturns.{stopped}
use Rattle.ppunit.specs.States.{State, with_meter}
use Rattle.ppunit.specs.Conditions.{DecidesByValue}
use Rattle.ppunit.specs.code.Contexts.{search_in_unit}
use Rattle.ppunit.proofs.LineDecisions.{decides_unprobed, probes_line, decides_probed}
use Rattle.ppunit.proofs.UnitValue.{on_settled}
use Rattle.ppunit.proofs.conditions.by_condition.Goals as goal

pub returns-then-not-needs_probing-clause-is : goal.returns-then-not-needs_probing-clause-is
returns-then-not-needs_probing-clause-is g c =
    on_settled c.value.result
    (λ taken. decides_unprobed (search_in_unit c.args.context.now) c.args.row c.args.state.now c.args.line.now c.operands-operands.result.now
    c.profile.result c.hash_place-at.result c.value.new.state.meter taken c.profile.ensures c.operands-operands.ensures c.hash_place-at.ensures
    c.if-not-needs_probing.ensures)
    c.value.ensures.is

pub returns-in_err-tokens-clause-is : goal.returns-in_err-tokens-clause-is
returns-in_err-tokens-clause-is g c =
    stopped _ _ _ _ c.from_residual.ensures.1 c.in_err-tokens.ensures.probes (λ fault probes.
    DecidesByValue.probing_fault
    (probes_line (search_in_unit c.args.context.now) c.args.row c.args.state.now c.args.line.now c.operands-operands.result.now c.profile.result _ _ c.profile.ensures
    c.operands-operands.ensures c.if-not-needs_probing.ensures probes)
    refl)

pub returns-clause-rest : goal.returns-clause-rest
returns-clause-rest g c = c.value_of_probed.ensures.rest ∙ ap (λ (s : State). with_meter s c.value_of_probed.new.state.meter) c.in_ok-tokens.ensures.rest

pub returns-clause-is : goal.returns-clause-is
returns-clause-is g c =
    on_settled c.value_of_probed.result
    (λ taken condition. decides_probed (search_in_unit c.args.context.now) c.args.row c.args.state.now c.probe.new.state c.args.line.now _ c.hash_place-at.result
    c.value_of_probed.new.state.meter taken c.in_ok-tokens.ensures.rest c.hash_place-at.ensures
    (probes_line (search_in_unit c.args.context.now) c.args.row c.args.state.now c.args.line.now c.operands-operands.result.now c.profile.result _ _ c.profile.ensures
    c.operands-operands.ensures c.if-not-needs_probing.ensures c.in_ok-tokens.ensures.probes)
    condition)
    c.value_of_probed.ensures.is
