use Rattle.std.specs.Result.{result_err}
use Rattle.pptext.proofs.ErrorReturns.{stopped}
use Rattle.ppunit.proofs.UnitValue.{undefined_unit, unit_before_main, translated_unit, on_settled}
use Rattle.ppunit.proofs.preprocessor.Preprocessor.translate.Goals as goal

pub returns-in_err-define_all-clause-translated : goal.returns-in_err-define_all-clause-translated
returns-in_err-define_all-clause-translated g c =
    stopped _ _ _ _ c.from_residual.ensures.1 c.in_err-define_all.ensures.defined (λ fault defined.
    undefined_unit _ c.define_all.new.self.pass.now.files c.args.unit.now c.args.self.now.state c.define_all.new.self.state fault defined)

pub returns-in_err-process_all_first-clause-translated : goal.returns-in_err-process_all_first-clause-translated
returns-in_err-process_all_first-clause-translated g c =
    stopped _ _ _ _ c.from_residual-in_err-process_all_first.ensures.1 (rw c.define_all.ensures.keeps_context.context at c.in_err-process_all_first.ensures.opened)
    (λ fault opens.
    unit_before_main _ c.define_all.new.self.pass.now.files c.process_all_first.new.self.pass.now.files c.args.unit.now c.args.self.now.state
    c.define_all.new.self.state c.process_all_first.new.self.state fault c.in_ok-define_all.ensures.defined c.process_all_first.ensures.keeps_context.grows opens)

pub returns-clause-translated : goal.returns-clause-translated
returns-clause-translated g c =
    on_settled c.process_main.result (λ r opens. translated_unit _ c.define_all.new.self.pass.now.files c.process_all_first.new.self.pass.now.files
    c.process_main.new.self.pass.now.files c.args.unit.now
    c.args.self.now.state c.define_all.new.self.state c.process_all_first.new.self.state c.process_main.new.self.state (result_err r)
    c.in_ok-define_all.ensures.defined c.process_all_first.ensures.keeps_context.grows
    (rw c.define_all.ensures.keeps_context.context at c.in_ok-process_all_first.ensures.opened) c.process_main.ensures.keeps_context.grows opens)
    (rw (c.process_all_first.ensures.keeps_context.context, c.define_all.ensures.keeps_context.context) at c.process_main.ensures.opened)
