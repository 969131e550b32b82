use Rattle.std.proofs.Common.{◌∙◌, sym, arith}
use Rattle.ppunit.specs.code.Walk.{line_at, IsTextLine}
use Rattle.ppunit.proofs.TextRuns.{run_start, run_more, run_done}
use Rattle.ppexpand.proofs.SkippedTokens.{none_by}
use Rattle.ppunit.proofs.LineDecisions.{some_not}
use Rattle.ppunit.proofs.line_walk.text_end.Goals as goal

pub loop-end-init : goal.loop-end-init
loop-end-init c = run_more c.args.source.now c.args.start c.args.start c.requires.index c.requires.text (run_start c.args.source.now c.args.start (omega (arith, c.requires.index)))

pub loop-end-preserved : goal.loop-end-preserved
loop-end-preserved c =
    let text : IsTextLine (line_at c.args.source.now c.loop-end.end) = sym c.line.ensures.directive ∙ none_by c.line.result.now.directive c.if-is_none.ensures in
    run_more c.args.source.now c.args.start c.loop-end.end (omega arith) text c.loop-end.invariant

pub returns-else-is_none-clause-text_lines : goal.returns-else-is_none-clause-text_lines
returns-else-is_none-clause-text_lines c =
    run_done c.args.source.now c.args.start c.loop-end.end c.loop-end.invariant (λ within is. some_not c.line.result.now.directive c.if-is_none.ensures (c.line.ensures.directive ∙ is))

pub returns-after-loop-end-clause-text_lines : goal.returns-after-loop-end-clause-text_lines
returns-after-loop-end-clause-text_lines c =
    run_done c.args.source.now c.args.start c.loop-end.end c.loop-end.invariant (λ within is. absurd (omega arith))
