-- What a row of the shelf may contain, and which contents are permitted.
use Rattle.std.specs.Prelude.{ℕ, ◌<◌, ◌≤◌, List, length, ◌⊎◌, Option, None, Some, Result}
pub use Rattle.pptext.specs.Clean.{longest}
use Rattle.pptext.specs.Lines.{LogicalLine}
use Rattle.pptext.specs.Sources.{Reads}
use Rattle.pptext.specs.declared.tokens.Fault.{Fault}
use Rattle.pptext.specs.declared.sources.Profile.{Profile}

-- What a disk returns for a name, and what a row contains: nothing that can be read, or bytes
pub data Content : Type 0 where
  unreadable : Content
  readable : List ℕ → Content

-- A content is permitted for a name by a relation if it is bytes that the relation allows, or if it is unreadable and
-- the relation allows unreadable or too many bytes
abbrev pub IsPermitted : (List ℕ → Content → Type 0) → List ℕ → Content → Type 0
IsPermitted may name unreadable = (may name unreadable) ⊎ ((bytes : List ℕ) × (longest < length bytes) × may name (readable bytes))
IsPermitted may name (readable bytes) = (length bytes ≤ longest) × may name (readable bytes)

abbrev pub content_of : Option (List ℕ) → Content
content_of None = unreadable
content_of (Some bytes) = readable bytes

-- The content of a row is bytes that phases 1 to 3 read as these lines or this fault, by a profile
abbrev pub IsRead : Profile → ℕ → Content → Result (List LogicalLine) Fault → Type 0
IsRead profile row unreadable lines = ⊥
IsRead profile row (readable bytes) lines = Reads profile row bytes lines
