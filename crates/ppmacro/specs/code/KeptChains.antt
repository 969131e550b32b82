-- The chains that a definition keeps, beside its replacement list. Only contracts inside the crate and views use them.
use Rattle.std.specs.Prelude.{ℕ, List, map, Option}
use Rattle.pptext.specs.declared.tokens.Token.{Token}
use Rattle.ppmacro.specs.declared.macros.Chain.{Chain}
use Rattle.ppmacro.specs.declared.kept_chains.KeptChain.{KeptChain}
use Rattle.ppmacro.specs.declared.chains.ChainPart as code
use Rattle.ppmacro.specs.declared.chains.ChainPart.TheVariants as variant
use Rattle.ppmacro.specs.Chains.{ChainPart, OperandPart, PastePart}
use Rattle.ppmacro.specs.PreExpansion.{lone_parameter}
use Rattle.ppmacro.specs.code.KeptOperands.{operand_at, operands_at}

abbrev pub chain_at : List Token → KeptChain → Chain
chain_at body c = record { space = c.space; operands = operands_at body c.operands.items }

abbrev pub chains_at : List Token → List KeptChain → List Chain
chains_at body cs = map (chain_at body) cs

-- A part as it is read.
abbrev pub part_at : List Token → code.ChainPart → ChainPart
part_at body (variant.OperandPart space operand) = OperandPart space (operand_at body operand)
part_at body variant.PastePart = PastePart

-- The parameter that a chain consists of, if it consists of one alone.
abbrev pub lone_parameter_at : List Token → KeptChain → Option ℕ
lone_parameter_at body c = lone_parameter (operands_at body c.operands.items)
