-- Where the name of an include line leads (6.10.2). A path is the list of its segments.
use Rattle.std.specs.Prelude.{◌≡◌, ℕ, suc, ◌-◌, ◌==◌, ◌||◌, Bool, if◌then◌else◌, List, [], ◌∷◌, ◌++◌, take, drop, length, codes, Option, Some, None, ◌⊎◌}
use Rattle.std.specs.List.{join_with_byte}
use Rattle.std.specs.Str.{bytes_eq}
use Rattle.ppshelf.specs.Names.{segments, IsRowOf}
use Rattle.ppshelf.specs.declared.search.Form.{Form}
use Rattle.ppshelf.specs.declared.search.Form.TheVariants.{Quote, Angle}

-- the segments from the root down
abbrev pub Path : Type 0
Path = List (List ℕ)

-- the path without the last segment; the root has no parent
abbrev pub parent : Path → Option Path
parent path = if length path == 0 then None else Some (take (length path - 1) path)

-- an empty segment and `.` lead nowhere else
abbrev pub is_here : List ℕ → Bool
is_here s = (length s == 0) || bytes_eq s (codes ".")

-- the path after one more segment
abbrev pub follow_segment : Path → List ℕ → Option Path
follow_segment path s = if is_here s then Some path else (if bytes_eq s (codes "..") then parent path else Some (path ++ s ∷ []))

-- the path after these segments
abbrev pub walk : Option Path → List (List ℕ) → Option Path
walk None more = None
walk (Some path) [] = Some path
walk (Some path) (s ∷ more) = walk (follow_segment path s) more

-- the path to which a text leads from another path
abbrev pub follow : Option Path → List ℕ → Option Path
follow start text = walk start (segments text)

abbrev pub parent_of : Option Path → Option Path
parent_of None = None
parent_of (Some path) = parent path

-- the name that a path spells; 47 is `/`
abbrev pub path_name : Path → List ℕ
path_name path = join_with_byte 47 path

-- A name that is searched for, and the number of the directory in which it is searched for: 0 for that of the including
-- file
pub record Candidate : Type 0 where
  pub name : List ℕ
  pub directory : ℕ

-- the candidate in the directory of this number, or none if no path leads to it
abbrev pub candidate : ℕ → Option Path → List Candidate
candidate k None = []
candidate k (Some path) = record { name = path_name path; directory = k } ∷ []

-- for `"name"`, the candidate in the directory of the including file
abbrev pub in_includer_dir : Form → List ℕ → List ℕ → List Candidate
in_includer_dir Quote from text = candidate 0 (follow (parent_of (follow (Some []) from)) text)
in_includer_dir Angle from text = []

-- the candidates in these directories, which are numbered from k on
abbrev pub candidates_in : ℕ → List (List ℕ) → List ℕ → List Candidate
candidates_in k [] text = []
candidates_in k (directory ∷ more) text = candidate k (follow (follow (Some []) directory) text) ++ candidates_in (suc k) more text

-- all candidates, in order. A unit's search has its own directories, then those of the setting, numbered from 1.
abbrev pub candidates : Form → List ℕ → List (List ℕ) → List (List ℕ) → List ℕ → List Candidate
candidates form from unit setting text = in_includer_dir form from text ++ candidates_in 1 (unit ++ setting) text

-- the candidates after the directory of number j, for `#include_next` in a file that was found there (gcc's manual,
-- "Wrapper Headers")
abbrev pub candidates_after : ℕ → List (List ℕ) → List (List ℕ) → List ℕ → List Candidate
candidates_after j unit setting text = candidates_in (suc j) (drop j (unit ++ setting)) text

-- one list is the end of another
abbrev pub IsEndOf : List Candidate → List Candidate → Type 0
IsEndOf end all = (front : List Candidate) × (all ≡ front ++ end)

-- the first candidate that is a name of the shelf, as its row and the number of its directory
abbrev pub IsFirstRow : List (List ℕ) → List Candidate → Option (ℕ × ℕ) → Type 0
IsFirstRow names [] found = found ≡ None
IsFirstRow names (c ∷ more) found =
    ((row : ℕ) × ((found ≡ Some (row, c.directory)) × IsRowOf names c.name (Some row)))
    ⊎ (IsRowOf names c.name None × IsFirstRow names more found)
