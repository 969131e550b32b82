-- Sets of files, as lists of their indices in insertion order: a unit's dependencies, and the files that are read once.
use Rattle.std.specs.Prelude.{ℕ, Bool, List, [], ◌∷◌, ◌++◌, nat_eq, if◌then◌else◌}
use Rattle.std.specs.List.{list_any}

abbrev pub has_row : ℕ → List ℕ → Bool
has_row row rows = list_any (nat_eq row) rows

-- the list with the index appended, unless it has it
abbrev pub with_row : ℕ → List ℕ → List ℕ
with_row row rows = if has_row row rows then rows else rows ++ row ∷ []
