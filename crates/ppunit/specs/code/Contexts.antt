-- The context of a unit as the code has it. Only contracts of private functions and models of private types cite this.
use Rattle.std.specs.Prelude.{List, ℕ}
use Rattle.ppshelf.specs.Files.{Files, ShelfView}
use Rattle.ppunit.specs.States.{Context, Search, Showing}

-- a unit's file table, the directories that are searched, the unit's before the setting's, and how files are shown
pub record UnitContext : Type 0 where
  pub shelf : ShelfView
  pub unit_directories : List (List ℕ)
  pub setting_directories : List (List ℕ)
  pub showing : Showing

-- the search of a unit
abbrev pub search_in_unit : UnitContext → Search
search_in_unit unit_context =
    record {
      names = unit_context.shelf.names;
      profile = unit_context.shelf.profile;
      unit_directories = unit_context.unit_directories;
      setting_directories = unit_context.setting_directories;
    }

-- the context of a unit over these contents
abbrev pub context_over : UnitContext → Files → Context
context_over unit_context files =
    record {
      names = unit_context.shelf.names;
      profile = unit_context.shelf.profile;
      files = files;
      unit_directories = unit_context.unit_directories;
      setting_directories = unit_context.setting_directories;
      showing = unit_context.showing;
    }
