-- Names, hide sets and macro tables.
use Rattle.std.specs.Prelude.{ℕ, List}
use Rattle.std.specs.Ordering.{nat_cmp}
use Rattle.std.specs.Cmp.Lexicographic.{slice_cmp}
use Rattle.std.specs.FinSet as set
use Rattle.std.specs.FinMap.{FinMap}
use Rattle.pptext.specs.declared.hashing.Hashing.{Hashing}
use Rattle.ppmacro.specs.declared.macros.Macro.{Macro}

-- The spelling of an identifier.
abbrev pub Name : Type 0
Name = List ℕ

-- The names of the macros that may not replace a token.
abbrev pub HideSet : Type 0
HideSet = set.FinSet (slice_cmp nat_cmp)

abbrev pub Macros : Type 0
Macros = FinMap (slice_cmp nat_cmp) Macro

-- What callers see of a table: its macros, and how their names are hashed
pub record TableOfMacros : Type 0 where
  pub macros : Macros
  pub hashing : Hashing
