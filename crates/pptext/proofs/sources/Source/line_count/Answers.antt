use Rattle.std.proofs.Common.{length, ap, ◌∙◌}
use Rattle.pptext.proofs.IndexedLines.{spans_length}
use Rattle.pptext.proofs.sources.Source.line_count.Goals as goal

pub returns : goal.returns
returns c = ap length c.lines.ensures.spans ∙ spans_length 0 0 c.args.self.now
