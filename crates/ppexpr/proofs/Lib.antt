-- The lemmas of this crate, by file. The proofs of its functions are in one directory for each source file.

-- When a left shift has no value.
pub mod Shifts
-- Bounds on the number that digits denote.
pub mod Digits
-- An integer constant whose number is 2^64 or more has no value.
pub mod OversizedConstants
-- A run of the parser's stack machine over a list of symbols.
pub mod MachineRuns
-- The stack machine evaluates each expression to the meaning of its tree.
pub mod MachineCompleteness
-- The result of the stack machine is the meaning of a tree of the symbols.
pub mod MachineSoundness
-- The machine computes the outcome of an expression, and fails if the symbols are no expression.
pub mod MachineCorrectness
-- A list of symbols has at most one tree.
pub mod TreeUniqueness
-- The invariant of the loop that replaces the uses of `defined` by numbers.
pub mod DefinedReplacement
-- Symbols of tokens that are read in several parts.
pub mod SymbolSteps
-- The steps that evaluate a condition.
pub mod ConditionSteps
-- Bounds on counts of symbols rule out nesting that is too deep.
pub mod NestingCounts
-- A list of at most `most_levels` symbols is not nested too deep.
pub mod ShortExpressions
-- A condition without macro replacement has the result of its tokens' symbols.
pub mod UnreplacedConditions
-- The truth value of a condition that consists of uses of `defined` alone.
pub mod TruthValues
-- A condition has at most one result.
pub mod ConditionUniqueness
-- Every condition has a result.
pub mod ConditionExistence
-- A value has the type of its expression.
pub mod Types
-- A value lies in the range of its type.
pub mod Ranges
-- Constants, and the values of expressions of tokens, lie in the range of their type.
pub mod RangedTokens
-- A text is read as an integer constant if and only if it has the syntax of one.
pub mod ReadIntegers
-- A text is read as a character constant if and only if it has the syntax of one.
pub mod ReadCharacters
-- The condition of an include guard (6.10.1) is false if the guard's name is a macro's.
pub mod GuardConditions
-- Conditions within a budget compared with conditions within a larger one or without one.
pub mod ConditionBudgets
-- A condition within a budget is the condition without a budget, or fault 35.
pub mod BudgetTheorem
