-- What `#pragma push_macro` keeps and `#pragma pop_macro` gives back (gcc's manual, "Push/Pop Macro Pragmas").
use Rattle.std.specs.Prelude.{List, [], ◌∷◌, ◌++◌, Option, None, Some, if◌then◌else◌}
use Rattle.std.specs.FinMap as table
use Rattle.std.specs.Str.{bytes_eq}
use Rattle.ppmacro.specs.declared.macros.Macro.{Macro}
use Rattle.ppmacro.specs.declared.pushed_macros.PushedMacro.{PushedMacro}
use Rattle.ppmacro.specs.Names.{Name, Macros}

-- the table in which the name is this macro, or none
abbrev pub put : Macros → Name → Option Macro → Macros
put macros name (Some definition) = table.insert macros name definition
put macros name None = table.remove macros name

-- what the name is in the table, a macro or none, is kept at the end of the list
abbrev pub with_pushed : Macros → Name → List PushedMacro → List PushedMacro
with_pushed macros name pushed = pushed ++ record { name = name; definition = table.get macros name } ∷ []

-- the first of a list, if it has the name, or the last of the name after it; and the list without it
abbrev pub last_from : Name → PushedMacro → List PushedMacro → Option (PushedMacro × List PushedMacro) → Option (PushedMacro × List PushedMacro)
last_from name first rest (Some (last, others)) = Some (last, first ∷ others)
last_from name first rest None = if bytes_eq first.name name then Some (first, rest) else None

-- the last of the name, and the list without it
abbrev pub last_of : Name → List PushedMacro → Option (PushedMacro × List PushedMacro)
last_of name [] = None
last_of name (p ∷ ps) = last_from name p ps (last_of name ps)

abbrev pub macros_by : Macros → Name → Option (PushedMacro × List PushedMacro) → Macros
macros_by macros name None = macros
macros_by macros name (Some (last, others)) = put macros name last.definition

abbrev pub pushed_by : List PushedMacro → Option (PushedMacro × List PushedMacro) → List PushedMacro
pushed_by pushed None = pushed
pushed_by pushed (Some (last, others)) = others

-- the name is again what the last of the name says; without one nothing happens
abbrev pub macros_after_pop : Macros → Name → List PushedMacro → Macros
macros_after_pop macros name pushed = macros_by macros name (last_of name pushed)

-- the last of the name is taken out
abbrev pub pushed_after_pop : Name → List PushedMacro → List PushedMacro
pushed_after_pop name pushed = pushed_by pushed (last_of name pushed)
