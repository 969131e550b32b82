-- The lemmas of this crate, by file. The proofs of its functions are in a directory for each source file.

-- The contents that a pass has observed, by row.
pub mod ObservedContents
-- After any events, callers have observed only cached contents and claimed each block below the next one once.
pub mod Events
-- The invariant of a fill, row by row, and its effect on the shelf.
pub mod FillInvariant
-- The content of a name in a list of files, and a shelf before its fill.
pub mod InitialShelf
-- Names and their rows.
pub mod NameRows
-- Texts, their segments, and the spelling of paths.
pub mod Paths
-- Texts in which no segment is empty or begins with `.`, so that each segment extends the path.
pub mod DotFreePaths
-- The directory of a file with a name in normal form.
pub mod IncluderDirectory
-- The first candidate of a search that is a name of the shelf.
pub mod SearchResults
