-- The lemmas of this crate, by file. The proofs of its functions are in a directory for each source file.

-- One step of phases 1 and 2 in a single pass agrees with the three passes of the specification.
pub mod CleanSteps
-- A file's characters from an offset on: their locations, their columns and their number.
pub mod Locations
-- Runs of bytes that are characters of their own, and tables of the line notes between them.
pub mod LineNoteLemmas
-- A file's text from an offset on, one step at a time, and its cleaned copy.
pub mod CleanedCopies
-- A cursor over a file's bytes that moves from character to character.
pub mod Cursors
-- The lexemes that the lexer's results represent.
pub mod LexemeMeanings
-- The loop that tokenizes a text: a tokenization grows by one lexeme, and its lines with it.
pub mod TokenizationLoop
-- At most one lexeme begins a text, so a text has at most one tokenization, and at most one location of an unclosed comment.
pub mod TokenizationUniqueness
-- Languages whose texts pass a test at each character; the characters of identifiers and numbers.
pub mod CharacterTests
-- No token contains a new-line, so only new-lines and comments end lines.
pub mod NewLineFreeTokens
-- The longest punctuator.
pub mod LongestPunctuator
-- No two kinds share a spelling, and no spelling begins with white space.
pub mod KindUniqueness
-- Tokens that are recognized by their first byte.
pub mod FirstByteTokens
-- A text that is one token, and the lexeme that the lexer finds there.
pub mod SingleTokens
-- Prefixes of a text that are in a language: in one, in composed ones, and the longest repetition of parts.
pub mod LanguagePrefixes
-- The parts of an identifier (6.4.2) and of a preprocessing number (6.4.8).
pub mod WordParts
-- The longest spelling that begins a text, from the longest of each kind.
pub mod LongestOf
-- A cleaned text ends in a new-line, so each token is on a line.
pub mod FinalNewLine
-- Character constants and string literals: their opening, their elements, their end, and unmatched quotes.
pub mod Literals
-- Lines as spans of tokens: the span at each index, and the lines into which spans divide the tokens.
pub mod Spans
-- Steps that fail: how a fault or a failed allocation is returned, also by a public call.
pub mod ErrorReturns
-- The directive of each line, by its name, and its role.
pub mod DirectiveLines
-- The first fault of a file's groups, found with the indices of the lines that opened the if-sections.
pub mod Faults
-- The next branch line of each line: by the tree, for a walk over lines, and computed from the last line to the first.
pub mod NextBranchFacts
-- Trees of groups: a file has at most one, and it has one exactly if it has no fault.
pub mod Trees
-- The guard of a file without the tree, and in terms of the spans of its lines.
pub mod Guards
-- A text that continues an identifier or a number forms one token with it; how a text ends.
pub mod TokenContinuation
-- What forms one token with an identifier or a number continues it.
pub mod ContinuationCompleteness
-- Reading a file has exactly one result. Each text has a tokenization or an unclosed comment.
pub mod Readings
-- The fault of lines that have no tree, in terms of trees alone.
pub mod GroupFaults
-- Each test of `Kinds` decides the language of its name (6.4), and `kind_of` gives the one kind of each text.
pub mod TextKinds
-- The lines of a file by index, and their tokens.
pub mod IndexedLines
