-- The lemmas of this crate, by file. The proofs of its functions are in one directory per source file.

-- The members of a JSON object.
pub mod ObjectMembers
-- `draft` returns `x` for a JSON value exactly if the value has the shape of a list with draft `x`.
pub mod DraftShape
-- Reading the items of an array, one after another.
pub mod ArrayItems
-- Records of the output and their lines.
pub mod RecordLines
-- Retained outputs print the same text as whole outputs.
pub mod RetainedText
-- The values of a list's units over known files, and the output of a run.
pub mod ServedOutput
-- Bytes from pairs of hexadecimal digits.
pub mod HexPairs
-- The JSON value of bytes, by the result of reading them.
pub mod JsonValue
-- Validation of a draft, and properties of an accepted list.
pub mod DraftValidation
-- Bytes are refused with the least number whose refusal applies.
pub mod LeastRefusal
-- A run's output depends only on the mode, the input bytes and the file contents.
pub mod OutputUniqueness
-- Known bytes of readers and writers across several reads and writes.
pub mod KnownStreamBytes
-- File names, added to an index one by one.
pub mod NameIndexing
-- Printing texts one after another through a buffer.
pub mod BufferedPrinting
-- The outcome of bytes that were read is the outcome of all known bytes of the reader.
pub mod ReceivedBytes
-- Pages that are filled and written.
pub mod PageRecords
-- Text written after a prefix of a buffer.
pub mod BufferPrefix
-- Finding bytes that print as they are, from the bit mask of eight lanes.
pub mod LaneMasks
-- What a run delivers, from its printing to the streams of `serve`.
pub mod Delivery
-- The include chain, by slices of items.
pub mod IncludeChain
-- Texts with a `|` before each line, piece by piece.
pub mod BarredLines
-- What is left of a text when items are printed, with tokens that are held.
pub mod TextItems
-- The items of a segment, by slices, and the text of a segment.
pub mod SegmentItems
-- A text begins anew at each mark: the text of items is that of their segments.
pub mod Segments
-- Units that are preprocessed one after another, over files that grow.
pub mod UnitsInTurn
