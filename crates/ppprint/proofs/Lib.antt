-- The lemmas of this crate, by file. The proofs of its functions are in a directory for each source file.

-- No joint is longer than four characters.
pub mod Joints
-- The number of characters of a token with its spaces.
pub mod TokenLengths
-- The lexeme that begins a text, and the tokens of a pragma with this text.
pub mod PragmaTexts
-- The operators among items whose first tokens are held.
pub mod HeldOperators
-- Literals end at their quote: none is a longer text than another that begins it. How literals begin.
pub mod LiteralEnds
-- Where two tokens are not kept apart, no longer token and no comment begins with the first.
pub mod TokenEnds
-- The lexemes of lines, by their kinds and the codes of their characters.
pub mod LineLexemes
-- Lines of tokens with spaces between them are read as these tokens.
pub mod SpacedLines
-- A text with line markers is read in one way.
pub mod ReadingOnce
-- The tokens and spaces of line markers and of lines of pragmas.
pub mod MarkedLines
-- Lines of tokens contain no new-line.
pub mod NewLineFreeLines
-- Lines of tokens while they are written: what is on the line fits what is put on it next.
pub mod TokenLines
-- The text of items is made of lines: what holds of each line, and of what follows it, holds of the text.
pub mod ItemLines
-- The text of items, read by its lines, has their tokens and pragmas at their locations.
pub mod ReadingBack
-- The text of items as one file: translation phase 3 finds the tokens of its lines, and no comment.
pub mod WholeText
-- The last characters of tokens: which of them end in a CR, a `\` or a `?`.
pub mod LastCharacters
-- Texts in which translation phases 1 and 2 change nothing, by tests that read them character by character.
pub mod PhaseSteps
-- Translation phases 1 and 2 change nothing in the text of items that begin with a mark.
pub mod UnchangedText
-- What is shown of a unit's items is well spelled, and named by its marks.
pub mod ShownItems
