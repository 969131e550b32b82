-- The rows of a shelf, and what a pass has observed of them. Only this crate cites it.
use Rattle.std.specs.Prelude.{◌≡◌, ℕ, ◌<◌, ◌≤◌, List, length, map, Option, Some, None, slice_index_or, ◌⊎◌}
use Rattle.std.specs.Option.{option_map}
use Rattle.pptext.specs.declared.sources.Profile.{Profile}
use Rattle.ppshelf.specs.Content.{Content, IsPermitted}
use Rattle.ppshelf.specs.Names.{name_in}
use Rattle.ppshelf.specs.NamesView.{NamesView}
use Rattle.ppshelf.specs.Files.{max_rows, Files, file_at, ShelfView}

-- A cached content with its row and name, and the profile that it was read by
pub record LoadedView : Type 0 where
  pub row : ℕ
  pub name : List ℕ
  pub profile : Profile
  pub content : Content

-- A row: its content from a fill, and the name of the cell in which looks cache a content
pub record RowState : Type 0 where
  pub filled : Option LoadedView
  pub cell : ℕ

abbrev pub no_row_state : RowState
no_row_state = record { filled = None; cell = 0 }

abbrev pub filled_of : List RowState → Files
filled_of rows = map (λ (s : RowState). option_map (λ (h : LoadedView). h.content) s.filled) rows

abbrev pub cells_of : List RowState → List ℕ
cells_of rows = map (λ (s : RowState). s.cell) rows

-- The shelf as callers see it, by its names and rows
abbrev pub shelf_view : Profile → NamesView → List RowState → ShelfView
shelf_view profile names rows = record {
  names = names.names;
  filled = filled_of rows;
  profile = profile;
  hashing = names.hashing;
  cells = cells_of rows;
}

-- The row of a shelf as callers see it
abbrev pub row_state_at : ShelfView → ℕ → RowState
row_state_at shelf row = record {
  filled = option_map (λ c. record { row = row; name = name_in shelf.names row; profile = shelf.profile; content = c })
      (file_at shelf.filled row);
  cell = slice_index_or shelf.cells row 0;
}

-- What one caller has observed of a row: the name of its cell, what its note says, and the content that it was given
pub record Observation : Type 0 where
  pub cell : ℕ
  pub noted : Option LoadedView
  pub shown : Option LoadedView

abbrev pub no_observation : Observation
no_observation = record { cell = 0; noted = None; shown = None }

-- A file of a shelf: its row, its name, and the profile by which it is read
pub record FileView : Type 0 where
  pub row : ℕ
  pub name : List ℕ
  pub profile : Profile

-- The file of a row, of a shelf that reads these names by this profile
abbrev pub file_in : Profile → List (List ℕ) → ℕ → FileView
file_in profile names row = record { row = row; name = name_in names row; profile = profile }

-- The content is that of this file
abbrev pub IsPlaced : FileView → LoadedView → Type 0
IsPlaced file h = (h.row ≡ file.row) × (h.name ≡ file.name) × (h.profile ≡ file.profile)

-- What a caller was given for a row is its content from a fill, or what the note says
pub record Fits (may : List ℕ → Content → Type 0) (file : FileView) (state : RowState) (observation : Observation) (h : LoadedView) : Type 0 where
  pub placed : IsPlaced file h
  pub contents_permitted : IsPermitted may h.name h.content
  pub from : (state.filled ≡ Some h) ⊎ ((state.filled ≡ None) × (observation.noted ≡ Some h))

pub record FitsRow (may : List ℕ → Content → Type 0) (file : FileView) (state : RowState) (observation : Observation) : Type 0 where
  pub cell_is : observation.cell ≡ state.cell
  pub fits : (h : LoadedView) → observation.shown ≡ Some h → Fits may file state observation h

-- Each content from a fill is that of its row's file
abbrev pub Placed : Profile → List (List ℕ) → List RowState → Type 0
Placed profile names rows =
    (row : ℕ) (h : LoadedView) → (slice_index_or rows row no_row_state).filled ≡ Some h → IsPlaced (file_in profile names row) h

-- A shelf: not too many rows, one for each name, each content from a fill in its own row
pub record IsShelf (profile : Profile) (names : List (List ℕ)) (rows : List RowState) : Type 0 where
  pub small : length rows ≤ max_rows
  pub count : length rows ≡ length names
  pub placed : Placed profile names rows

abbrev pub files_of : List Observation → Files
files_of observations = map (λ (s : Observation). option_map (λ (h : LoadedView). h.content) s.shown) observations

-- A pass over a shelf: one observation for each row, which fits it
pub record IsPass (may : List ℕ → Content → Type 0) (shelf : ShelfView) (observations : List Observation) : Type 0 where
  pub len : length observations ≡ length shelf.names
  pub rows : (row : ℕ) → row < length shelf.names
      → FitsRow may (file_in shelf.profile shelf.names row) (row_state_at shelf row) (slice_index_or observations row no_observation)

-- What a fill does to the row of this file: a content stays, and a new one is one of these contents
pub record FilledRow (puts : Content → Type 0) (file : FileView) (old new : RowState) : Type 0 where
  pub cell : new.cell ≡ old.cell
  pub stays : (h : LoadedView) → old.filled ≡ Some h → new.filled ≡ Some h
  pub put : (h : LoadedView) → old.filled ≡ None → new.filled ≡ Some h → IsPlaced file h × puts h.content
