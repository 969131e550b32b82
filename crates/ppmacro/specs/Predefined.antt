-- The macro table at the start of a unit (6.10.8.1).
use Rattle.std.specs.Prelude.{[], ◌∷◌, codes, if◌then◌else◌}
use Rattle.std.specs.FinMap.{from_entries, insert}
use Rattle.pptext.specs.declared.sources.Profile.{Profile}
use Rattle.pptext.specs.Profiles.{is_gnu}
use Rattle.ppmacro.specs.declared.macros.PredefinedMacro.{PredefinedMacro}
use Rattle.ppmacro.specs.declared.macros.PredefinedMacro.TheVariants.{File, Line, Date, Time, Stdc, StdcHosted, StdcVersion}
use Rattle.ppmacro.specs.declared.macros.MacroKind.TheVariants.{Predefined, Counter}
use Rattle.ppmacro.specs.declared.macros.Macro.{Macro}
use Rattle.ppmacro.specs.Names.{Name, Macros}

abbrev pub predefined_as : PredefinedMacro → Macro
predefined_as b = record { kind = Predefined b; body = [] }

abbrev pub predefined_entry : Name → PredefinedMacro → Name × Macro
predefined_entry name b = (name, predefined_as b)

abbrev pub predefined : Macros
predefined = from_entries (
    predefined_entry (codes "__FILE__") File
    ∷ predefined_entry (codes "__LINE__") Line
    ∷ predefined_entry (codes "__DATE__") Date
    ∷ predefined_entry (codes "__TIME__") Time
    ∷ predefined_entry (codes "__STDC__") Stdc
    ∷ predefined_entry (codes "__STDC_HOSTED__") StdcHosted
    ∷ predefined_entry (codes "__STDC_VERSION__") StdcVersion
    ∷ [])

-- `__COUNTER__` (gcc's manual, "Common Predefined Macros")
abbrev pub counter : Macro
counter = record { kind = Counter; body = [] }

abbrev pub with_counter : Macros → Macros
with_counter macros = insert macros (codes "__COUNTER__") counter

-- The macros at the start of a unit.
abbrev pub initial_macros : Profile → Macros
initial_macros profile = if is_gnu profile then with_counter predefined else predefined
