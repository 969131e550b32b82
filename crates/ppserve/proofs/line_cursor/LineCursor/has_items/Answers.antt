use Rattle.std.proofs.Common.{sym, ◌∙◌}
use Rattle.ppserve.proofs.RecordLines.{some_records}
use Rattle.ppserve.proofs.line_cursor.LineCursor.has_items.Goals as goal

pub returns-in-Some-clause-yes : goal.returns-in-Some-clause-yes
returns-in-Some-clause-yes c = λ e. some_records _ _ _ _ c.in-Some.is (sym c.shows_items.ensures ∙ c.if-not-shows_items.false) (c.has_any.ensures.yes e)
