-- Files by row: the contents of a shelf, and what a caller has observed of it.
use Rattle.std.specs.Prelude.{◌≡◌, ℕ, ◌<◌, List, [], length, Option, Some, None, IsSome, slice_index_or}
use Rattle.pptext.specs.declared.hashing.Hashing.{Hashing}
use Rattle.pptext.specs.declared.sources.Profile.{Profile}
use Rattle.ppshelf.specs.Content.{Content, IsPermitted}
use Rattle.ppshelf.specs.Names.{name_in}

-- The maximum number of rows of a shelf
abbrev pub max_rows : ℕ
max_rows = 65535

-- A finite map from rows to contents: the content of each row, or nothing if the row is unknown
abbrev pub Files : Type 0
Files = List (Option Content)

abbrev pub file_at : Files → ℕ → Option Content
file_at files row = slice_index_or files row None

-- Every row that the second knows has the same content in the first
abbrev pub Extends : Files → Files → Type 0
Extends new old = (row : ℕ) (c : Content) → file_at old row ≡ Some c → file_at new row ≡ Some c

-- The two maps have one content for every row that both know
abbrev pub Agree : Files → Files → Type 0
Agree one two = (row : ℕ) (c d : Content) → file_at one row ≡ Some c → file_at two row ≡ Some d → c ≡ d

abbrev pub or_else : {T : Type 0} → Option T → Option T → Option T
or_else None d = d
or_else (Some c) d = Some c

-- For each row, what either map knows
abbrev pub IsMerged : Files → Files → Files → Type 0
IsMerged one two both = (row : ℕ) → file_at both row ≡ or_else (file_at one row) (file_at two row)

-- Every content is permitted for its row's name
abbrev pub AllPermitted : (List ℕ → Content → Type 0) → List (List ℕ) → Files → Type 0
AllPermitted may names files = (row : ℕ) (c : Content) → file_at files row ≡ Some c → IsPermitted may (name_in names row) c

-- A shelf as callers see it: the names of its rows, the contents from `fill`, the profile by which all are read, the
-- hash function of the names, and the names of its cells, in which looks cache contents. A fill leaves `cells`.
pub record ShelfView : Type 0 where
  pub names : List (List ℕ)
  pub filled : Files
  pub profile : Profile
  pub hashing : Hashing
  pub cells : List ℕ

-- The shelf that a pass belongs to, and what the pass has observed
pub record PassView : Type 0 where
  pub shelf : ShelfView
  pub files : Files

-- `fill` put a content into each row
abbrev pub IsFull : ShelfView → Type 0
IsFull shelf = (row : ℕ) → row < length shelf.names → IsSome (file_at shelf.filled row)

-- What a fill does to a row: a content stays, and an empty row stays empty or gets one of these contents
abbrev pub Filled : (Content → Type 0) → Option Content → Option Content → Type 0
Filled P (Some c) new = new ≡ Some c
Filled P None None = Unit {0}
Filled P None (Some c) = P c

-- The bytes of a row, in a list of contents
abbrev pub bytes_at : List (List ℕ) → ℕ → List ℕ
bytes_at contents row = slice_index_or contents row []
