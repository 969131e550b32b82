-- Texts taken apart into segments, and the row to which a path leads. Only this crate cites it.
use Rattle.std.specs.Prelude.{◌≡◌, ℕ, ◌==◌, ◌&&◌, not, Bool, List, [], length, Option, Some, None}
use Rattle.std.specs.List.{slice_index}
use Rattle.ppshelf.specs.Names.{segments, IsRowOf}
use Rattle.ppshelf.specs.Search.{Path, path_name}

-- the segments of the remaining text, if there is any
abbrev pub segments_left : Option (List ℕ) → List (List ℕ)
segments_left None = []
segments_left (Some text) = segments text

-- a segment with a first byte that is no `.`, which is 46
abbrev pub starts_without_dot : List ℕ → Bool
starts_without_dot s = not (length s == 0) && not (slice_index s 0 == 46)

-- the row of the name that a path spells, if there is a path
abbrev pub IsRowAt : List (List ℕ) → Option Path → Option ℕ → Type 0
IsRowAt names None row = row ≡ None
IsRowAt names (Some path) row = IsRowOf names (path_name path) row
