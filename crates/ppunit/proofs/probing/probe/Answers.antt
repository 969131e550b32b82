use Rattle.std.proofs.Common.{◌∙◌, List, Ok, sym, ap, subst}
use Rattle.pptext.specs.declared.tokens.Token.{Token}
use Rattle.pptext.proofs.ErrorReturns.{raised, stopped}
use Rattle.ppunit.specs.States.{State}
use Rattle.ppunit.specs.DirectiveLines.{operands}
use Rattle.ppunit.specs.Probing.{Probes, number_for, has_file, directory_before}
use Rattle.ppunit.specs.code.Contexts.{search_in_unit}
use Rattle.ppunit.proofs.LineDecisions.{none_of}
use Rattle.ppunit.proofs.HasIncludeNumbers.{same_token, rest_behind, fewer_behind, after_other, after_operator, at_end, at_open, at_fault}
use Rattle.ppunit.proofs.probing.probe.Goals as goal

pub loop-first-preserved-then-not-applies : goal.loop-first-preserved-then-not-applies
loop-first-preserved-then-not-applies g c =
    after_other (search_in_unit c.args.context.now) c.args.row c.args.line.now c.args.state.now c.loop-first.state (operands c.args.line.now) c.loop-first.probed.items
    c.push.new.self.items c.loop-first.rest.now c.in-Some.following.now c.in-Some.first.now c.in_ok-clone.field-0 c.if-not-applies.ensures c.in-Some.ensures.cases.0
    (same_token c.in_ok-clone.field-0 c.in-Some.first.now c.in_ok-clone.ensures.cases) c.in_ok-push.ensures.items c.loop-first.invariant

pub returns-in_default-operand_end-clause-probes : goal.returns-in_default-operand_end-clause-probes
returns-in_default-operand_end-clause-probes g c =
    raised _ _ _ c.line_fault.ensures
    (at_open (search_in_unit c.args.context.now) c.args.row c.args.line.now c.args.state.now c.loop-first.state (operands c.args.line.now) c.loop-first.probed.items
    c.loop-first.rest.now c.in-Some.following.now c.without_first-inside.result.now c.in-Some.first.now c.if-not-applies.ensures c.in-Some.ensures.cases.0
    c.without_first-inside.ensures (sym (none_of c.operand_end.result c.in_default-operand_end.not-Some) ∙ c.operand_end.ensures.index) c.loop-first.invariant)

pub returns-in_err-include_name-clause-probes : goal.returns-in_err-include_name-clause-probes
returns-in_err-include_name-clause-probes g c =
    stopped _ _ _ _ c.from_residual-in_err-include_name.ensures.1 c.in_err-include_name.ensures.names (λ fault names.
    at_fault (search_in_unit c.args.context.now) c.args.row c.args.line.now c.args.state.now c.loop-first.state (operands c.args.line.now) c.loop-first.probed.items
    c.loop-first.rest.now c.in-Some.following.now c.without_first-inside.result.now c.in-Some.first.now c.in-Some-operand_end.end c.name_of_operand.new.state.meter fault
    c.if-not-applies.ensures c.in-Some.ensures.cases.0 c.without_first-inside.ensures c.in-Some-operand_end.ensures.index names c.loop-first.invariant)

pub loop-first-smaller : goal.loop-first-smaller
loop-first-smaller g c =
    fewer_behind c.loop-first.rest.now c.in-Some.following.now c.without_first-inside.result.now c.in-Some.first.now c.in-Some-operand_end.end c.in-Some.ensures.cases.0
    c.without_first-inside.ensures

pub loop-first-preserved : goal.loop-first-preserved
loop-first-preserved g c =
    let search = search_in_unit c.args.context.now in
    let first = c.in-Some.first.now in
    let name = c.in_ok-include_name.include_name in
    after_operator search c.args.row c.args.line.now c.args.state.now c.loop-first.state c.name_of_operand.new.state (operands c.args.line.now)
    c.loop-first.probed.items c.push-in-Some.new.self.items c.loop-first.rest.now c.in-Some.following.now c.without_first-inside.result.now _ first
    c.in_ok-number.number name c.in-Some-operand_end.end c.if-not-applies.ensures c.in-Some.ensures.cases.0 c.without_first-inside.ensures
    c.in-Some-operand_end.ensures.index c.in_ok-include_name.ensures.rest c.in_ok-include_name.ensures.names
    (c.in_ok-number.ensures ∙ ap (λ (z : State). number_for first (has_file search c.args.row (directory_before first z.directory) name)) c.state.view_is)
    c.in_ok-push-2.ensures.items (rest_behind c.without_first-inside.result.now c.in-Some-operand_end.end) c.loop-first.invariant

pub returns-clause-probes : goal.returns-clause-probes
returns-clause-probes g c =
    subst (λ (z : List Token). Probes (search_in_unit c.args.context.now) c.args.row c.args.line.now c.args.state.now (operands c.args.line.now) c.loop-first.state.meter (Ok z))
    (sym c.new.ensures)
    (at_end (search_in_unit c.args.context.now) c.args.row c.args.line.now c.args.state.now c.loop-first.state (operands c.args.line.now) c.loop-first.probed.items
    c.loop-first.rest.now c.in_default.ensures.cases c.loop-first.invariant)
