-- The lemmas of this crate, by file. The proofs of its functions are in a directory for each source file.

-- The entries of a table as a finite map.
pub mod TableLemmas
-- The last macro of a name in a list, from the end on.
pub mod LastPushed
-- The name filter of a macro table rejects only names without a macro.
pub mod NameFilterLemmas
-- Chains that are built from left to right, one part at a time.
pub mod ChainLemmas
-- The kind of a text that is one token.
pub mod LexerLemmas
-- Tokens keep their hide sets while sets are added.
pub mod PoolGrowthLemmas
-- Definitions that are refused or accepted once they are read.
pub mod CheckedDefinitions
-- Token lists that `##` joins, while hide sets are added to the pool.
pub mod JoinLemmas
-- Tokens whose kind is the kind of their spelling, as after `##`.
pub mod SpelledKindLemmas
-- Chains are replaced in order, and names are added, while hide sets are added to the pool.
pub mod ChainReplacementLemmas
-- The hide set of a token, stored as one set or the union of two, after names are added.
pub mod AddedNames
-- Arguments whose hide-set numbers are all known to the pool.
pub mod ArgumentLemmas
-- Sets of numbers as tries of 64-bit words.
pub mod Tries
-- Sets that exist in the pool already.
pub mod ExistingSets
-- Cached results of pairs, while nodes and pairs are added.
pub mod CachedResults
-- Cached sets with one more name, while nodes and names are added.
pub mod CachedAdditions
-- The set of names that each node of the trie represents.
pub mod NodeHideSets
-- Names and their numbers.
pub mod NameNumbers
-- The hide sets as callers and contracts see them.
pub mod HideSetViews
-- The faults of `#define` and `#undef` have numbers of at most 16.
pub mod FaultNumbers
-- Names that occur twice.
pub mod RepeatedNames
-- A parameter list is read exactly if it has the syntax of one.
pub mod ParameterListSyntax
-- Without the rules of GNU C, no variable argument may be absent, and no chain has a `VariadicAfterComma`.
pub mod AbsentArguments
-- A replacement list with valid `#` and `##` splits into chains in exactly one way: `chains_of`.
pub mod ChainSplits
-- A replacement list that splits into chains has valid operators.
pub mod OperatorPlacement
-- Chains of one token, as in an object-like macro without `##`.
pub mod ObjectLikeChains
-- Chains of one entry, as in a list without `#` and `##`.
pub mod EntryChains
-- Chains whose last operand may be a variable argument after a comma.
pub mod VariadicOperands
-- Operands that `##` joins one after another.
pub mod JoinedOperands
-- The origin, the hide set and the leading-space flag of each token of a replacement.
pub mod TokenOrigins
-- Lists of entries by the parameters that their tokens name.
pub mod PlainLists
-- A `#define` line by itself, whatever the table has.
pub mod TableFreeDefinitions
-- A `#define` line of a file and what was read of it.
pub mod DefineLines
-- The parameters that a replacement list uses without `#` and `##`, in their own order and in that of their first uses.
pub mod ExpansionOrders
-- Replacement lists with `__VA_OPT__`, and those without.
pub mod VaOptLemmas
-- A replacement list whose contents are taken out from left to right, one token at a time. It has the syntax of `WithContents`.
pub mod VaOptReading
-- The parts of a replacement list with `__VA_OPT__`, one after another.
pub mod VaOptParts
-- The contents of `__VA_OPT__` as chains.
pub mod VaOptContents
-- The contents in the places of the `__VA_OPT__`, one part at a time.
pub mod VaOptFilling
-- Arguments, followed by the tokens of the contents of `__VA_OPT__`.
pub mod ContentArguments
