-- A replacement list as a list of chains. A chain is a list of operands that `##` joins (6.10.3.3).
use Rattle.std.specs.Prelude.{ℕ, Bool, true, false, ◌&&◌, ◌==◌, ◌-◌, List, [], ◌∷◌, map, Option, Some, None, codes, length, position, if◌then◌else◌}
use Rattle.std.specs.Str.{bytes_eq}
use Rattle.pptext.specs.declared.tokens.Place.{Place}
use Rattle.pptext.specs.declared.tokens.Token.{Token}
use Rattle.pptext.specs.Tokens.{is_identifier, is_punct}
use Rattle.ppmacro.specs.HashOperators.{is_hash, is_paste}
use Rattle.ppmacro.specs.Names.{Name}
use Rattle.ppmacro.specs.declared.macros.Variadic.TheVariants.{Lenient}
use Rattle.ppmacro.specs.declared.macros.MacroKind.{MacroKind}
use Rattle.ppmacro.specs.declared.macros.MacroKind.TheVariants.{FunctionLike}
use Rattle.ppmacro.specs.declared.macros.Macro.{Macro}
use Rattle.ppmacro.specs.declared.macros.Chain.{Chain}
use Rattle.ppmacro.specs.declared.macros.Operand.{Operand}
use Rattle.ppmacro.specs.declared.macros.Operand.TheVariants.{Tok, Param, Str, VariadicAfterComma}

-- A `#` operator: its leading-space flag and its location.
pub record HashSign : Type 0 where
  pub space : Bool
  pub at : Place

-- A part of a replacement list: an operand with the leading-space flag of its first token, or `##`.
pub data ChainPart : Type 0 where
  OperandPart : Bool → Operand → ChainPart
  PastePart : ChainPart

-- The names of the parameters. The name of the variable argument is the last.
abbrev pub parameter_names : MacroKind → List Name
parameter_names (FunctionLike names variadic) = names
parameter_names _ = []

-- The index of the parameter with this name.
abbrev pub parameter_named : MacroKind → Name → Option ℕ
parameter_named kind text = position (λ p. bytes_eq p text) (parameter_names kind)

-- The index of the parameter that a token names.
abbrev pub parameter_of : MacroKind → Token → Option ℕ
parameter_of kind t = if is_identifier t then parameter_named kind t.text else None

abbrev pub is_function_like : MacroKind → Bool
is_function_like (FunctionLike names variadic) = true
is_function_like _ = false

-- Whether a token is the operator `#`, which only function-like macros have.
abbrev pub is_operator_hash : MacroKind → Token → Bool
is_operator_hash kind t = is_function_like kind && is_hash t

abbrev pub plain_part : Option ℕ → Token → ChainPart
plain_part (Some i) t = OperandPart t.space (Param i)
plain_part None t = OperandPart t.space (Tok t)

-- The part that a token after `#` becomes.
abbrev pub stringized_part : Option ℕ → HashSign → Token → ChainPart
stringized_part (Some i) hash t = OperandPart hash.space (Str i hash.at)
stringized_part None hash t = plain_part None t

abbrev pub hash_sign : Token → HashSign
hash_sign t = record { space = t.space; at = t.at }

-- The parts from a token on. The token is `##` (`paste`), or the operator `#` (`hash`), or an operand. `following` are the parts
-- after it, if it isn't `#`; `after_hash` are those if it is.
abbrev pub parts_at : (paste hash : Bool) → ChainPart → List ChainPart → List ChainPart → List ChainPart
parts_at true hash operand following after_hash = PastePart ∷ following
parts_at false true operand following after_hash = after_hash
parts_at false false operand following after_hash = operand ∷ following

-- The parts of a replacement list. `hash` is the `#` directly before the list, if there is one.
abbrev pub parts_after : MacroKind → Option HashSign → List Token → List ChainPart
parts_after kind hash [] = []
parts_after kind (Some hash) (t ∷ ts) = stringized_part (parameter_of kind t) hash t ∷ parts_after kind None ts
parts_after kind None (t ∷ ts) =
    parts_at (is_paste t) (is_operator_hash kind t) (plain_part (parameter_of kind t) t)
    (parts_after kind None ts)
    (parts_after kind (Some (hash_sign t)) ts)

abbrev pub begins_joined : List ChainPart → Bool
begins_joined (PastePart ∷ ps) = true
begins_joined _ = false

-- Joins an operand to the first of these chains.
abbrev pub join_first : Bool → Operand → List Chain → List Chain
join_first space o [] = record { space = space; operands = o ∷ [] } ∷ []
join_first space o (c ∷ cs) = record { space = space; operands = o ∷ c.operands } ∷ cs

abbrev pub group_parts : List ChainPart → List Chain
group_parts [] = []
group_parts (PastePart ∷ ps) = group_parts ps
group_parts (OperandPart space o ∷ ps) = elim (begins_joined ps) [ true ↦ join_first space o (group_parts ps) | false ↦ record { space = space; operands = o ∷ [] } ∷ group_parts ps ]

-- ---- a comma before a variable argument that may be absent (gcc's manual, "Variadic Macros")

-- The index of the parameter whose argument may be absent.
abbrev pub lenient_parameter : MacroKind → Option ℕ
lenient_parameter (FunctionLike names Lenient) = Some (length names - 1)
lenient_parameter _ = None

abbrev pub is_comma : Operand → Bool
is_comma (Tok t) = is_punct (codes ",") t
is_comma _ = false

-- The last operand of a chain, after another operand. It becomes a variable argument after a comma if it is parameter i and the other operand is `,`.
abbrev pub variadic_after : ℕ → Operand → Operand → Operand
variadic_after i o (Param j) = if is_comma o && i == j then VariadicAfterComma i else Param j
variadic_after i o p = p

-- The operands of a chain. The last becomes a variable argument after a comma if `variadic_after` says so.
abbrev pub ending_in_variadic : ℕ → List Operand → List Operand
ending_in_variadic i (o ∷ (p ∷ [])) = o ∷ (variadic_after i o p ∷ [])
ending_in_variadic i (o ∷ (p ∷ (q ∷ os))) = o ∷ ending_in_variadic i (p ∷ (q ∷ os))
ending_in_variadic i os = os

abbrev pub with_variadic : Option ℕ → Chain → Chain
with_variadic None c = c
with_variadic (Some i) c = record { space = c.space; operands = ending_in_variadic i c.operands }

abbrev pub chains_of : Macro → List Chain
chains_of d = map (with_variadic (lenient_parameter d.kind)) (group_parts (parts_after d.kind None d.body))
