-- The lines of a file by index, from 0.
use Rattle.std.specs.Prelude.{◌≡◌, ℕ, List, [], None, slice_index_or}
use Rattle.pptext.specs.Lines.{LogicalLine}

abbrev pub no_line : LogicalLine
no_line = record { tokens = []; number = 0; directive = None }

abbrev pub line_at : List LogicalLine → ℕ → LogicalLine
line_at lines index = slice_index_or lines index no_line

abbrev pub IsTextLine : LogicalLine → Type 0
IsTextLine line = line.directive ≡ None
