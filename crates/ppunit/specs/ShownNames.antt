-- The name under which an included file is shown, in `__FILE__` and in marks, and whether it is a system header.
use Rattle.std.specs.Prelude.{ℕ, ◌-◌, ◌==◌, Bool, false, if◌then◌else◌, List, [], ◌∷◌, ◌++◌, drop, length, codes, slice_index_or, Option, Some, None, unwrap_or}
use Rattle.std.specs.Str.{bytes_eq}
use Rattle.std.specs.List.{list_any}
use Rattle.pptext.specs.Lines.{LogicalLine}
use Rattle.ppshelf.specs.Names.{name_in}
use Rattle.ppunit.specs.declared.units.ShownDirectory.{ShownDirectory}
use Rattle.ppunit.specs.States.{State, Context, Opening}
use Rattle.ppunit.specs.Including.{IncludeName}

-- 47 is `/`
abbrev pub has_slash : List ℕ → Bool
has_slash text = list_any (λ b. b == 47) text

-- the part of a name up to its last `/`, or nothing
abbrev pub folder_of : List ℕ → List ℕ
folder_of [] = []
folder_of (b ∷ bs) = if has_slash (b ∷ bs) then b ∷ folder_of bs else []

-- the name of a directory before that of a file in it: with `/`, unless it is empty or ends in `/`
abbrev pub with_slash : List ℕ → List ℕ
with_slash [] = []
with_slash (b ∷ bs) = if bytes_eq (drop (length bs) (b ∷ bs)) (codes "/") then b ∷ bs else (b ∷ bs ++ codes "/")

-- a directory that is shown by its own name, and none for `.`
abbrev pub own_name : List ℕ → List ℕ
own_name name = if bytes_eq name (codes ".") then [] else name

abbrev pub shown_directory : List ℕ → Option (List ℕ) → List ℕ
shown_directory name None = own_name name
shown_directory name (Some shown) = shown

-- the name of the directory of this number, and how it is shown; directories are numbered from 1
abbrev pub directory_name : Context → ℕ → List ℕ
directory_name context number = slice_index_or (context.unit_directories ++ context.setting_directories) (number - 1) []

abbrev pub directory_at : Context → ℕ → ShownDirectory
directory_at context number = slice_index_or context.showing.directories (number - 1) (record { shown = None; system = false })

-- what stands before the name of a header that is found in the directory of this number: 0 is that of the including file
abbrev pub prefix_in : Context → State → ℕ → List ℕ
prefix_in context s number =
    if number == 0 then folder_of s.shown else with_slash (shown_directory (directory_name context number) (directory_at context number).shown)

-- the name under which a file is shown: its own, unless the list says another
abbrev pub shown_or_own : List (List ℕ) → ℕ → Option (List ℕ) → List ℕ
shown_or_own names row shown = unwrap_or shown (name_in names row)

-- The shown name of the file that is found for a header, given its index and the number of its directory. In a unit that
-- shows names it ends in the header's name as it is written; otherwise it is the file's name.
abbrev pub shown_name : Context → State → List ℕ → ℕ × ℕ → List ℕ
shown_name context s header found =
    if context.showing.shows_names then prefix_in context s found.1 ++ header else name_in context.names found.0

-- a file next to a system header is one, and so is a file in a directory of system headers
abbrev pub is_system : Context → State → ℕ → Bool
is_system context s number = if number == 0 then s.system else (directory_at context number).system

-- how a file is opened that is found for the header of an include line in the file at index `row`
abbrev pub opening_of : Context → ℕ → State → LogicalLine → IncludeName → ℕ × ℕ → Opening
opening_of context row s line a found =
    record {
      directory = Some found.1;
      shown = shown_name context s a.name found;
      system = is_system context s found.1;
      resumption = Some (record { row = row; last = line.number });
    }
