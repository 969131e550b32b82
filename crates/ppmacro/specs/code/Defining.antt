-- Partial results of reading a definition. Only contracts of private functions use them.
use Rattle.std.specs.Prelude.{◌≡◌, not, ◌&&◌, ◌++◌, List, Result, Ok, Err, if◌then◌else◌}
use Rattle.std.specs.FinMap as table
use Rattle.pptext.specs.Profiles.{is_gnu}
use Rattle.pptext.specs.Tokens.{fault}
use Rattle.pptext.specs.declared.sources.Profile.{Profile}
use Rattle.pptext.specs.declared.tokens.Fault.{Fault}
use Rattle.pptext.specs.declared.tokens.Place.{Place}
use Rattle.pptext.specs.declared.tokens.Token.{Token}
use Rattle.ppmacro.specs.Names.{Macros}
use Rattle.ppmacro.specs.Define.{Named, is_conflicting}
use Rattle.ppmacro.specs.declared.macros.Macro.{Macro}

-- A definition with the macro's name.
abbrev pub named_by : Token → Macro → Named
named_by name definition = record { name = name.text; definition = definition }

-- A definition, unless its name has a different one. `at` is the location of `#`.
abbrev pub unless_conflicting : Profile → Macros → Place → Named → Result Named Fault
unless_conflicting profile macros at n =
    if not (is_gnu profile) && is_conflicting (table.get macros n.name) n.definition then Err (fault 16 at n.name) else Ok n

-- Whether a replacement list is the end of a line.
abbrev pub IsEnd : List Token → List Token → Type 0
IsEnd body line = (front : List Token) × (front ++ body ≡ line)
