-- What contracts see of a printer: the line that is being written, and what the marks up to here say.
use Rattle.ppprint.specs.Located.{Numbering}
use Rattle.ppprint.specs.Text.{Line}

pub record Progress : Type 0 where
  pub line : Line
  pub numbering : Numbering
