use Rattle.std.proofs.Common.{◌≤◌, ◌-◌, length}
use Rattle.pptext.specs.code.CleanedText.{IsCursorAt}
use Rattle.pptext.proofs.cleaned_text.TextCursor.advanced_over_notes.Given as goal

abbrev pub invariant-loop-cursor : goal.invariant-loop-cursor
invariant-loop-cursor l = record { forward : l.cursor.consumed ≤ l.to; is_there : IsCursorAt l.profile l.fn.self.at.file l.raw l.line_notes l.cursor }

abbrev pub decreases-loop-cursor : goal.decreases-loop-cursor
decreases-loop-cursor l = length l.raw - l.cursor.offset
