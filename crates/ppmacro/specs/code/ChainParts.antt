-- Partial results of reading replacement lists and parameter lists, with what follows. Only contracts of private functions use
-- them.
use Rattle.std.specs.Prelude.{Bool, true, false, ◌||◌, List, [], ◌∷◌, ◌++◌, Option, Some, None}
use Rattle.pptext.specs.declared.tokens.Token.{Token}
use Rattle.ppmacro.specs.Names.{Name}
use Rattle.ppmacro.specs.Chains.{ChainPart, hash_sign, parts_after, begins_joined, group_parts}
use Rattle.ppmacro.specs.ParsedParameters.{ParsedParameters}
use Rattle.ppmacro.specs.declared.macros.MacroKind.{MacroKind}
use Rattle.ppmacro.specs.declared.macros.Chain.{Chain}

-- The parts of a token and of the tokens after it: its own part first. A `#` has no part of its own.
abbrev pub with_first_part : MacroKind → Token → Option ChainPart → List Token → List ChainPart
with_first_part kind t (Some item) ts = item ∷ parts_after kind None ts
with_first_part kind t None ts = parts_after kind (Some (hash_sign t)) ts

-- A chain joined to the first of others.
abbrev pub joined_to : Chain → List Chain → List Chain
joined_to c [] = c ∷ []
joined_to c (d ∷ ds) = record { space = c.space; operands = c.operands ++ d.operands } ∷ ds

-- Chains before other chains. If `##` is between them, the last chain of the first list is joined to the first chain of the second.
abbrev pub append_chains : Bool → List Chain → List Chain → List Chain
append_chains false cs ds = cs ++ ds
append_chains true [] ds = ds
append_chains true (c ∷ []) ds = joined_to c ds
append_chains true (c ∷ (b ∷ cs)) ds = c ∷ append_chains true (b ∷ cs) ds

-- Chains so far, extended by parts. `joined`: the last part before was `##`.
abbrev pub append_parts : Bool → List Chain → List ChainPart → List Chain
append_parts joined cs ps = append_chains (joined || begins_joined ps) cs (group_parts ps)

-- A parameter list with more names before its own.
abbrev pub with_names : List Name → ParsedParameters → ParsedParameters
with_names ns h = record h { names = ns ++ h.names }
