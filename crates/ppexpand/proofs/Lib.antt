-- The lemmas of this crate, by file. The proofs of its functions are in one directory for each source file.

-- Replacement with hide sets terminates: a proof about lists of hide sets alone, by induction on prefixes.
pub mod Termination
-- An expansion step that emits or replaces a token is a step on the hide sets of the list.
pub mod HideSetSteps
-- An expansion step is a step on hide sets. A replacement in a prefix yields tokens that hide one more name.
pub mod HidingPrefixes
-- Each list has an outcome: expansion terminates.
pub mod OutcomeExistence
-- A list has at most one outcome and one number of steps.
pub mod OutcomeUniqueness
-- Expansion within a budget compared with expansion within a larger one or without one.
pub mod BudgetLemmas
-- Without a budget no expansion ends in fault 35: the numbers of the other faults are smaller.
pub mod BudgetFaults
-- The number of expansion steps from a list has a bound.
pub mod StepBounds
-- The invariant of a loop over the expansion steps of a list, and the number of steps that remain.
pub mod LoopInvariants
-- A token that is emitted is fully expanded.
pub mod FullyExpanded
-- The arguments of an invocation are found if and only if the list has the syntax of an invocation.
pub mod Invocations
-- When the search for arguments fails: at an unmatched quote, or because no `)` matches.
pub mod FailedSearches
-- The search for the matching `)`, resumed from an intermediate state.
pub mod ResumedSearch
-- Adding hide sets does not change the values of arguments and invocations.
pub mod GrowingHideSets
-- The expansion step of a list by its next token.
pub mod StepLemmas
-- Expansion without a budget agrees with the standard's rules.
pub mod StandardAgreement
-- Lemmas for the loop that expands the arguments of an invocation in order.
pub mod ArgumentLemmas
-- Leading-space flags in lists of tokens with hide sets.
pub mod SpaceFlags
-- Consecutive tokens that are emitted unchanged.
pub mod SkippedTokens
-- Expansion steps of a list, several at a time.
pub mod PassedSteps
-- The expansion step of a list whose next token names an object-like macro without `##`.
pub mod LoneSteps
-- The list at which an expansion stops is the same in each expansion of a list.
pub mod StoppedLists
-- Lists that begin with an open invocation, and what an expansion leaves open.
pub mod OpenLists
-- Lists of tokens that begin with an open invocation: how deep in parentheses they end, and their expansion.
pub mod WaitingLists
-- What an expansion leaves open, from a state of the loop over its steps.
pub mod OpenExpansions
-- How the number of a hide set tells whether it is empty.
pub mod EmptyHideSets
-- The expansion of a list that begins with an invocation counts this invocation.
pub mod CountedInvocations
