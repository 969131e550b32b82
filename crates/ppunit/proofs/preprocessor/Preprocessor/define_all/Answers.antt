use Rattle.std.proofs.Common.{◌≡◌, rules}
use Rattle.std.specs.Result.{result_err}
use Rattle.pptext.proofs.ErrorReturns.{raised}
use Rattle.ppunit.specs.code.Contexts.{context_over}
use Rattle.ppunit.proofs.UnitValue.{defines_walked, defines_unread, on_settled}
use Rattle.ppunit.proofs.preprocessor.Preprocessor.define_all.Goals as goal

pub returns-clause-defined : goal.returns-clause-defined
returns-clause-defined g c =
    let walked = rw c.new-file.ensures.file at c.walk.ensures.walk in
    on_settled c.walk.result
    (λ r walks. defines_walked c.tree_unless_fault.ensures (context_over c.args.self.now.context.now) c.walk.new.self.pass.now.files c.args.defines.now.profile
    c.args.defines.now.texts _ _ c.args.self.now.state (record { state = c.walk.new.self.state; fault = result_err r }) (λ more. c.requires.profile) c.in-Ok.is
    c.lines.ensures
    walks)
    walked

pub returns-in-Err-clause-defined : goal.returns-in-Err-clause-defined
returns-in-Err-clause-defined g c =
    let same : c.in_ok-clone-in-Err.field-0 ≡ c.in-Err.fault = search rules in
    raised _ _ _ c.of.ensures
    (rw same (defines_unread _ c.args.self.now.pass.now.files c.args.defines.now.profile _ _ _ _ (λ more. c.requires.profile) c.in-Err.is c.lines.ensures))
