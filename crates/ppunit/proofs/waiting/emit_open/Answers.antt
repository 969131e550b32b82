use Rattle.std.specs.Result.{result_err}
use Rattle.ppunit.proofs.UnitValue.{on_settled}
use Rattle.ppunit.proofs.EmittedText.{emits_open}
use Rattle.ppunit.proofs.waiting.emit_open.Goals as goal

pub returns : goal.returns
returns c =
    on_settled c.wait_or_stop.result
    (λ r is. emits_open c.args.profile c.args.state.now c.expand_text.new.state c.wait_or_stop.new.state c.args.tokens.now _ (result_err r) _ c.in_ok-expanded.ensures is)
    c.wait_or_stop.ensures
