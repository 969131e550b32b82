-- What a printer gives for an item, from the line before it and the item's location.
use Rattle.std.specs.Prelude.{◌≡◌, ◌+◌, ◌==◌, ◌&&◌, Bool, not, is_some, is_none}
use Rattle.pptext.specs.declared.tokens.Token.{Token}
use Rattle.ppprint.specs.Located.{Numbering}
use Rattle.ppprint.specs.Shown.{Location, Turn, Renumbers}
use Rattle.ppprint.specs.Text.{Line, Way, Stay, Down, Jump, same_flag, way_to, way_line, spaces_before, turn_flag}
use Rattle.ppprint.specs.declared.printer.Marker.{Marker}
use Rattle.ppprint.specs.declared.printer.MarkStep.{MarkStep}
use Rattle.ppprint.specs.declared.printer.PragmaStep.{PragmaStep}
use Rattle.ppprint.specs.declared.printer.Target.{Target}
use Rattle.ppprint.specs.declared.printer.TokenStep.{TokenStep}
use Rattle.ppprint.specs.declared.printer.Way.{Way as PrinterWay}
use Rattle.ppprint.specs.declared.printer.Way.TheVariants as way

-- a way from a line that ends, or has no token
abbrev pub way_from : Bool → Way → PrinterWay
way_from ends Stay = way.Stay
way_from ends (Down n) = way.Down ends n
way_from ends Jump = way.Jump ends

-- whether a location is that of a line which takes another token
abbrev pub stays : Line → Location → Bool
stays l at = same_flag l.system at.system && (l.number == at.line && not l.is_closed)

-- the way from a line to a location
abbrev pub step_way : Line → Location → PrinterWay
step_way l at = way_from (is_some l.last) (way_to l at)

-- the line at a location that is reached from a line
abbrev pub step_line : Line → Location → Line
step_line l at = way_line l at (way_to l at)

abbrev pub token_step : Line → Location → Token → TokenStep
token_step l at t = record { way = step_way l at; is_first = is_none (step_line l at).last; spaces = spaces_before (step_line l at) t }

-- a marker that gives the next line this location
pub record IsMarker (turn : Turn) (at : Location) (m : Marker) : Type 0 where
  pub number : m.number ≡ at.line
  pub name : m.name.now ≡ at.name
  pub system : m.system ≡ at.system
  pub flag : m.flag.now ≡ turn_flag turn

pub record IsPragmaStep (l : Line) (at : Location) (s : PragmaStep) : Type 0 where
  pub way : s.way ≡ step_way l at
  pub has_own_marker : s.has_own_marker ≡ is_some (step_line l at).last
  pub marker : IsMarker Renumbers at s.marker

pub record IsMarkStep (l : Line) (turn : Turn) (at : Location) (s : MarkStep) : Type 0 where
  pub ends : s.ends ≡ is_some l.last
  pub marker : IsMarker turn at s.marker

-- the location that a target is in a numbering
abbrev pub target_location : Numbering → Target → Location
target_location n t = record { name = n.name; line = n.line + t.distance; system = t.system }
