-- Names of files, and the row of a name.
use Rattle.std.specs.Prelude.{◌≡◌, ◌≢◌, ℕ, ◌<◌, ◌==◌, ◌&&◌, ◌||◌, not, Bool, true, false, List, [], ◌∷◌, ◌++◌, ◌⊎◌}
use Rattle.std.specs.Prelude.{nat_le, codes, length, Option, Some, None, slice_index_or}
use Rattle.std.specs.List.{list_all, list_any, position, slice_split}
use Rattle.std.specs.Str.{bytes_eq}

-- the segments between `/`, which is 47
abbrev pub segments : List ℕ → List (List ℕ)
segments text = slice_split (λ b. b == 47) text

-- a segment of a name
abbrev pub is_segment : List ℕ → Bool
is_segment s = not (length s == 0) && not (bytes_eq s (codes ".")) && not (bytes_eq s (codes ".."))

-- no control character of ASCII
abbrev pub is_name_byte : ℕ → Bool
is_name_byte b = nat_le 32 b && not (b == 127)

-- a name in normal form
abbrev pub is_file_name : List ℕ → Bool
is_file_name s = nat_le (length s) 1024 && list_all is_name_byte s && list_all is_segment (segments s)

-- the root, or a name in normal form
abbrev pub is_directory : List ℕ → Bool
is_directory s = bytes_eq s (codes ".") || is_file_name s

-- the name of a row, or the empty text past the last row
abbrev pub name_in : List (List ℕ) → ℕ → List ℕ
name_in names row = slice_index_or names row []

-- the name of this row is in normal form, and no earlier row has it
pub record IsNewName (names : List (List ℕ)) (row : ℕ) : Type 0 where
  pub form : is_file_name (name_in names row) ≡ true
  pub once : (before : ℕ) → before < row → name_in names before ≢ name_in names row

-- names in normal form, each once
abbrev pub AreNames : List (List ℕ) → Type 0
AreNames names = (row : ℕ) → row < length names → IsNewName names row

-- whether the names are in normal form, each once
abbrev pub are_names : List (List ℕ) → Bool
are_names [] = true
are_names (name ∷ more) = is_file_name name && not (list_any (bytes_eq name) more) && are_names more

-- the first name that isn't in normal form or that an earlier row has
pub record IsBadName (names : List (List ℕ)) (row : ℕ) : Type 0 where
  pub within : row < length names
  pub bad : IsNewName names row → ⊥
  pub first : (before : ℕ) → before < row → IsNewName names before

-- the row of a name is its index among the names
abbrev pub IsRowOf : List (List ℕ) → List ℕ → Option ℕ → Type 0
IsRowOf names name None = (row : ℕ) → row < length names → name_in names row ≢ name
IsRowOf names name (Some row) = (row < length names) × (name_in names row ≡ name)

-- the first row of a name
abbrev pub row_among : List ℕ → List (List ℕ) → Option ℕ
row_among name names = position (bytes_eq name) names

-- the result of offering a name to others: it is added at the end if it is in normal form and occurs not among them,
-- and otherwise nothing changes
abbrev pub IsAppended : List (List ℕ) → List ℕ → Bool → List (List ℕ) → Type 0
IsAppended names name true after = (after ≡ names ++ name ∷ []) × (is_file_name name ≡ true) × IsRowOf names name None
IsAppended names name false after =
    (after ≡ names) × ((is_file_name name ≡ false) ⊎ ((row : ℕ) × IsRowOf names name (Some row)))
