use Rattle.std.proofs.Common.{sym, ◌∙◌}
use Rattle.pptext.proofs.ErrorReturns.{stopped}
use Rattle.ppunit.specs.code.Contexts.{context_over}
use Rattle.ppunit.proofs.SectionWalks.{end_advances}
use Rattle.ppunit.proofs.ControlLines.{steps_line, steps_control, stops_control}
use Rattle.ppunit.proofs.LineDecisions.{none_of}
use Rattle.ppunit.proofs.preprocessor.Preprocessor.step.Goals as goal

pub returns-in_err-end-clause-step : goal.returns-in_err-end-clause-step
returns-in_err-end-clause-step g c =
    rw (← c.file.view_is) (stopped _ _ _ _ c.from_residual.ensures.1
    (c.in_err-end.ensures.text_lines (context_over c.args.self.now.context.now) c.args.self.now.pass.now.files c.args.depth c.file.inside.row
    (λ more. c.profile.ensures))
    (λ fault advances. advances))

pub returns-in_default-clause-step : goal.returns-in_default-clause-step
returns-in_default-clause-step g c =
    rw (← c.file.view_is) (steps_line (context_over c.args.self.now.context.now) c.args.self.now.pass.now.files c.args.depth c.file.inside.row c.file.inside.source.now
    c.file.inside.index c.args.self.now.state c.execute_text_lines.new.state c.in_ok-end.end c.in_same_file.result c.in_same_file.ensures
    (c.in_ok-end.ensures.text_lines (context_over c.args.self.now.context.now) c.args.self.now.pass.now.files c.args.depth c.file.inside.row
    (λ more. c.profile.ensures)))

pub returns-in_err-next-clause-step : goal.returns-in_err-next-clause-step
returns-in_err-next-clause-step g c =
    rw (← c.file.view_is) (stopped _ _ _ _ c.from_residual-in_err-next.ensures.1
    (c.in_err-next.ensures.advances c.args.self.now.pass.now.files c.args.depth)
    (λ fault advances. advances))

pub returns-then-opens_section-clause-step : goal.returns-then-opens_section-clause-step
returns-then-opens_section-clause-step g c =
    rw (← c.file.view_is) (steps_line (context_over c.args.self.now.context.now) c.args.self.now.pass.now.files c.args.depth c.file.inside.row c.file.inside.source.now
    c.file.inside.index c.args.self.now.state c.execute_if_line.new.state c.in_ok-next.next c.in_same_file-then-opens_section.result
    c.in_same_file-then-opens_section.ensures
    (c.in_ok-next.ensures.advances c.args.self.now.pass.now.files c.args.depth))

pub returns-then-ends_group-clause-step : goal.returns-then-ends_group-clause-step
returns-then-ends_group-clause-step g c =
    rw (← c.file.view_is) (steps_line (context_over c.args.self.now.context.now) c.args.self.now.pass.now.files c.args.depth c.file.inside.row c.file.inside.source.now
    c.file.inside.index c.args.self.now.state c.args.self.now.state c.section_end.result c.in_same_file-then-ends_group.result
    c.in_same_file-then-ends_group.ensures
    (end_advances (context_over c.args.self.now.context.now) c.args.self.now.pass.now.files c.args.depth c.file.inside.row c.file.inside.source.now
    c.file.inside.index c.section_end.result c.args.self.now.state c.in-Some.directive (rw (← c.file.view_is) at c.requires.index) (sym c.line.ensures.directive ∙ c.in-Some.is)
    (sym c.ends_group.ensures ∙ c.if-ends_group.true) c.section_end.ensures.end))

pub returns-in_err-entered-clause-step : goal.returns-in_err-entered-clause-step
returns-in_err-entered-clause-step g c =
    rw (← c.file.view_is) (stopped _ _ _ _ c.from_residual-in_err-entered.ensures.1 c.in_err-entered.ensures.control
    (stops_control (context_over c.args.self.now.context.now) c.execute_line.new.self.pass.now.files c.args.depth c.file.inside.row c.file.inside.source.now
    c.file.inside.index c.args.self.now.state c.execute_line.new.self.state c.in-Some.directive c.at-tokens.result c.line-2.result.now.number
    (rw (← c.file.view_is) at c.requires.index) (sym c.line.ensures.directive ∙ c.in-Some.is) (sym c.opens_section.ensures ∙ c.if-opens_section.false)
    (sym c.ends_group.ensures ∙ c.if-ends_group.false) c.at-tokens.ensures.tokens c.line-2.ensures.number))

pub returns-clause-step : goal.returns-clause-step
returns-clause-step g c =
    rw (← c.file.view_is) (steps_control (context_over c.args.self.now.context.now) c.execute_line.new.self.pass.now.files c.args.depth c.file.inside.row c.file.inside.source.now
    c.file.inside.index c.args.self.now.state c.execute_line.new.self.state c.in-Some.directive c.at-tokens.result c.line-2.result.now.number
    (rw (← c.file.view_is) at c.requires.index) (sym c.line.ensures.directive ∙ c.in-Some.is) (sym c.opens_section.ensures ∙ c.if-opens_section.false)
    (sym c.ends_group.ensures ∙ c.if-ends_group.false) c.at-tokens.ensures.tokens c.line-2.ensures.number c.in_ok-entered.entered
    c.in_ok-entered.ensures.control)

pub line-requires : goal.line-requires
line-requires g c = rw (← c.file.view_is) at c.requires.index

pub line-requires-2 : goal.line-requires-2
line-requires-2 g c = rw (← c.file.view_is) at c.requires.index

pub at-tokens-requires-clause-index : goal.at-tokens-requires-clause-index
at-tokens-requires-clause-index g c = rw (← c.file.view_is) at c.requires.index

pub section_end-requires : goal.section_end-requires
section_end-requires g c = rw (← c.file.view_is) at c.requires.index

pub execute_text_lines-requires-clause-index : goal.execute_text_lines-requires-clause-index
execute_text_lines-requires-clause-index g c = rw (← c.file.view_is) at c.requires.index

pub execute_if_line-requires-clause-index : goal.execute_if_line-requires-clause-index
execute_if_line-requires-clause-index g c = rw (← c.file.view_is) at c.requires.index

pub execute_text_lines-requires-clause-text : goal.execute_text_lines-requires-clause-text
execute_text_lines-requires-clause-text g c = sym c.line.ensures.directive ∙ none_of c.line.result.now.directive c.in_default.not-Some

pub execute_if_line-requires-clause-line : goal.execute_if_line-requires-clause-line
execute_if_line-requires-clause-line g c = sym c.line.ensures.directive ∙ c.in-Some.is

pub execute_if_line-requires-clause-opens : goal.execute_if_line-requires-clause-opens
execute_if_line-requires-clause-opens g c = sym c.opens_section.ensures ∙ c.if-opens_section.true

pub execute_line-requires-clause-opens : goal.execute_line-requires-clause-opens
execute_line-requires-clause-opens g c = sym c.opens_section.ensures ∙ c.if-opens_section.false

pub execute_line-requires-clause-ends : goal.execute_line-requires-clause-ends
execute_line-requires-clause-ends g c = sym c.ends_group.ensures ∙ c.if-ends_group.false
