-- Replacement lists without `#` and `##`. Each token is a chain of its own (6.10.3.1).
use Rattle.std.specs.Prelude.{ℕ, Bool, ◌||◌, List, [], ◌∷◌, Option, Some, None}
use Rattle.pptext.specs.declared.tokens.Token.{Token}
use Rattle.ppmacro.specs.HashOperators.{is_hash, is_paste}
use Rattle.ppmacro.specs.Chains.{parameter_of}
use Rattle.ppmacro.specs.declared.macros.MacroKind.{MacroKind}
use Rattle.ppmacro.specs.declared.macros.Chain.{Chain}
use Rattle.ppmacro.specs.declared.macros.Operand.TheVariants as operand
use Rattle.ppmacro.specs.declared.patterns.Entry.{Entry}
use Rattle.ppmacro.specs.declared.patterns.Entry.TheVariants.{Tok, Param}

abbrev pub is_operator : Token → Bool
is_operator t = is_paste t || is_hash t

-- The entry for a token. The index is that of the parameter that it names.
abbrev pub entry_at : Option ℕ → Token → Entry
entry_at (Some i) t = Param t.space i
entry_at None t = Tok t

abbrev pub entry_of : MacroKind → Token → Entry
entry_of kind t = entry_at (parameter_of kind t) t

-- The entries for tokens that name these parameters. A token past the end of the parameters names none.
abbrev pub entries_at : List (Option ℕ) → List Token → List Entry
entries_at us [] = []
entries_at [] (t ∷ ts) = entry_at None t ∷ entries_at [] ts
entries_at (u ∷ us) (t ∷ ts) = entry_at u t ∷ entries_at us ts

-- An entry as a chain.
abbrev pub entry_chain : Entry → Chain
entry_chain (Tok t) = record { space = t.space; operands = operand.Tok t ∷ [] }
entry_chain (Param space i) = record { space = space; operands = operand.Param i ∷ [] }
