-- The state of a printer as the definitions of the text have it.
use Rattle.std.specs.Prelude.{◌≡◌, ◌+◌, ◌≤◌, false, option_map, slice_index_or}
use Rattle.ppprint.specs.Located.{Numbering}
use Rattle.ppprint.specs.Text.{Line}
use Rattle.ppprint.specs.code.Progress.{Progress}
use Rattle.ppprint.specs.code.Writings.{written_of}
use Rattle.ppprint.specs.declared.printer.Printer.TheInside.{Inside}

abbrev pub line_of : Inside → Line
line_of p = record { number = p.number + p.distance; system = p.system; columns = p.columns; last = option_map written_of p.last; is_closed = p.is_closed }

abbrev pub numbering_of : Inside → Numbering
numbering_of p = record { row = p.row; physical = p.physical; line = p.number; name = p.name.now; systems = p.systems.now }

abbrev pub progress_of : Inside → Progress
progress_of p = record { line = line_of p; numbering = numbering_of p }

-- Whether the current file is a system header is stored, and the columns that are counted are those of a token.
pub record IsProgress (p : Inside) : Type 0 where
  pub here : p.here ≡ slice_index_or p.systems.now p.row false
  pub counted : p.columns ≤ 4294967295
