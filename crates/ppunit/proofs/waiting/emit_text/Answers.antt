use Rattle.std.proofs.Common.{◌∙◌, sym}
use Rattle.ppunit.proofs.EmittedText.{empty_run}
use Rattle.ppunit.proofs.waiting.emit_text.Goals as goal

pub returns-then-is_empty : goal.returns-then-is_empty
returns-then-is_empty c =
    empty_run c.args.profile c.args.state.now c.args.tokens.now (c.is_waiting.ensures.no c.if-is_waiting.false) (sym c.is_empty.ensures ∙ c.if-is_empty.true)
