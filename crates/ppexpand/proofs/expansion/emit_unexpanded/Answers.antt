use Rattle.ppexpand.proofs.SkippedTokens.{skipped-on}
use Rattle.ppexpand.proofs.expansion.emit_unexpanded.Goals as goal

pub returns-clause-skipped : goal.returns-clause-skipped
returns-clause-skipped c =
    let macros = c.args.table.now.macros in
    skipped-on macros c.args.list.now c.args.emitted.now c.emit_pushed.new.list c.emit_pushed.new.emitted c.take_unexpanded-span.new.self c.extend.new.self
    c.in_ok-named.ensures.skipped
    (record { skipped = c.take_unexpanded-span.result.0; laid_out = c.take_unexpanded-span.ensures.laid_out; emits = c.in_ok-extend.ensures; unexpanded = c.take_unexpanded-span.ensures.unexpanded })
