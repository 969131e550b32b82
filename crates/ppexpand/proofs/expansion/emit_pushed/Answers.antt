use Rattle.std.proofs.Common.{sym, subst}
use Rattle.ppexpand.specs.code.Skipping.{HasSkipped}
use Rattle.ppexpand.proofs.SkippedTokens.{skipped-none, skipped-on, skipped-one}
use Rattle.ppexpand.proofs.expansion.emit_pushed.Goals as goal

pub loop-hidden-init : goal.loop-hidden-init
loop-hidden-init c = skipped-none c.args.table.now.macros c.args.list.now c.args.emitted.now

pub loop-hidden-preserved : goal.loop-hidden-preserved
loop-hidden-preserved c =
    let macros = c.args.table.now.macros in
    let list = c.loop-hidden.list in
    let emitted = c.loop-hidden.emitted in
    let one = skipped-one macros c.in-Emits.hidden list c.next_unexpanded.new.self emitted c.in-Emits.ensures.0 c.in-Emits.ensures.1 in
    skipped-on macros c.args.list.now c.args.emitted.now list emitted c.next_unexpanded.new.self c.push_single.new.self
    c.loop-hidden.invariant
    (subst (HasSkipped macros list emitted c.next_unexpanded.new.self) (sym c.in_ok-push_single-in-Emits.ensures) one)
