-- The file that holds a unit's definitions.
use Rattle.std.specs.Prelude.{ℕ, List, ◌∷◌, ◌++◌, [], codes, flat_map}
use Rattle.pptext.specs.declared.sources.Profile.{Profile}
use Rattle.ppshelf.specs.Files.{max_rows}

-- the index of the file that holds a unit's definitions: no file table has it
abbrev pub command_file : ℕ
command_file = max_rows

abbrev pub command_line : List ℕ → List ℕ
command_line text = codes "#define " ++ text ++ 10 ∷ []

-- a unit's definitions, each the text after `#define `, and the profile that the file that holds them is read with
pub record CommandMacros : Type 0 where
  pub texts : List (List ℕ)
  pub profile : Profile

-- a line for each definition
abbrev pub command_text : List (List ℕ) → List ℕ
command_text defines = flat_map command_line defines
