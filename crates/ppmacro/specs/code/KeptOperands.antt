-- The operands that a definition keeps, beside its replacement list. Only contracts inside the crate and views use them.
use Rattle.std.specs.Prelude.{List, Option, Some, None, map, slice_get}
use Rattle.pptext.specs.declared.tokens.Token.{Token}
use Rattle.ppmacro.specs.declared.macros.Operand.{Operand}
use Rattle.ppmacro.specs.declared.macros.Operand.TheVariants.{Tok, Param, Str, VariadicAfterComma}
use Rattle.ppmacro.specs.declared.kept_chains.KeptOperand.{KeptOperand}
use Rattle.ppmacro.specs.declared.kept_chains.KeptOperand.TheVariants as kept

-- The token that a list has at an index. The default operand if there is none.
abbrev pub token_operand : Option Token → Operand
token_operand (Some t) = Tok t
token_operand None = Param 0

abbrev pub operand_at : List Token → KeptOperand → Operand
operand_at body (kept.Tok i) = token_operand (slice_get body i)
operand_at body (kept.Param i) = Param i
operand_at body (kept.Str i at) = Str i at
operand_at body (kept.VariadicAfterComma i) = VariadicAfterComma i

abbrev pub operands_at : List Token → List KeptOperand → List Operand
operands_at body os = map (operand_at body) os
