-- The lemmas of this crate, by file. The proofs of its functions are in a directory for each source file.

-- A number that is read digit by digit: once it is too large, it no longer changes. The message of `#error` and the name of
-- an include line, token by token: `first` is true for the first token.
pub mod OperandTexts
-- The value of a unit over some files is its value over any larger set of files, with the same count.
pub mod LargerFileSets
-- A control line that opens no file and isn't `#error` has an effect, and what holds of each effect. Lines that define,
-- undefine or bring back one name leave what each other name is.
pub mod DirectiveEffects
-- The effect of a line that opens no file is unique, and so is the meter after it.
pub mod LineUniqueness
-- Over the same files an if-section has one outcome, if its groups have one each.
pub mod SectionUniqueness
-- Over the same files a control line has one outcome, if the file that it opens has one.
pub mod ControlLineUniqueness
-- Over the same files the opening of a file has one outcome, if the group of the file has one.
pub mod OpeningUniqueness
-- Over the same files a group, the opening of a file and a unit reach one state each, with one meter after it.
pub mod GroupUniqueness
-- Over the same files a unit has one value and one count.
pub mod UnitUniqueness
-- The value of a unit, from the reading of its definitions and the walk over its lines.
pub mod UnitValue
-- The length of the file that holds a unit's definitions. A unit that passes the test has a file of the file table and
-- definitions with the table's profile.
pub mod UnitTest
-- The group-part to which the first line belongs, by the directive of the line.
pub mod FirstLineCases
-- A walk over a text run, and the end of a text run.
pub mod TextRuns
-- What text lines emit, from the expansion of their tokens. A run without tokens, for example of blank lines, emits nothing.
pub mod EmittedText
-- A walk from the end of a group to the end of its if-section, the search for the branch that is taken, and a walk into an
-- if-section.
pub mod SectionWalks
-- A walk over a control line. The postconditions of the code imply its effect and the step to the next line.
pub mod ControlLines
-- One step of a walk. A walk over the lines of a file, from the first line to the end. What each call of the preprocessor preserves, two calls
-- in sequence preserve.
pub mod FileWalk
-- A decision from the tokens and the directive of a line is a decision of the line. Whether an option, as a line's directive, is `None`.
pub mod LineDecisions
-- A walk over the lines of a file and of all files that it includes, with a stack of suspended files.
pub mod FileStack
-- The remaining work on the open files. A line counts more than all lines of a file one level deeper.
pub mod RemainingWork
-- A search finds a file exactly if one of the candidates is among the file names. The shown name of a file, and directories by number.
pub mod FileSearch
-- Replacing the uses of `__has_include` by numbers, token by token.
pub mod HasIncludeNumbers
-- The postconditions of the code imply the outcome of opening a file.
pub mod FileOpening
-- The dependencies of a unit are indices of the file table, if the unit's own file is one.
pub mod DependencyIndices
-- Each token has a spelling of its kind or of a header name. Each line has the directive that its tokens determine.
pub mod FileTokens
-- Tokens without unmatched quotes.
pub mod QuoteFreeTokens
-- If the guard of a file is defined, the opening line skips its group, in each of the three forms of a guard.
pub mod GuardLines
-- Opening a file whose guard is defined only adds a dependency and spends one of the budget (6.10.1).
pub mod GuardedFiles
-- What may wait for more text lines, between the lines of phase 4: an invocation of a function-like macro. Each line keeps this.
pub mod WaitingInvocations
-- The budget at text lines, where an invocation that waits is counted already. An expansion within a sufficient budget
-- stops at the same list.
pub mod TextBudgets
-- The budget is the count of phase 4 plus the remaining budget.
pub mod BudgetSums
-- Items of a unit, if they are kept, and items to which the pieces of an expansion are appended one after another.
pub mod KeptItems
-- Whether items are kept changes nothing else.
pub mod UnkeptItems
-- Phase 4 only appends to the items and the dependencies.
pub mod OutputPrefixes
-- Lines, groups and units have the same effect with any sufficient budget, and leave the rest of the budget.
pub mod SufficientBudgets
-- If their budget is too small, lines, groups and units stop with fault 35, after a prefix of their full output.
pub mod ExhaustedBudgets
-- The value of a unit with a budget is a prefix of its value without a budget or with a larger one.
pub mod BudgetPrefixes
-- Without a budget no line and no unit ends in fault 35.
pub mod UnlimitedUnits
-- If the content of each file is known, a unit has a value.
pub mod UnitExistence
-- The include chain of a unit is the include stack of its derivation.
pub mod IncludeChains
