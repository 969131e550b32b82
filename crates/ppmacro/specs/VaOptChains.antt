-- The chains of a replacement list with `__VA_OPT__` (C23, 6.10.5.2).
--
-- `__VA_OPT__` with its content is treated as if it were a parameter. If the variable argument has no tokens, the argument of this parameter is
-- a placemarker. Otherwise the argument is the replacement of the content, before placemarkers are removed. So it is one list of tokens for each chain of the content,
-- and an empty list is a placemarker. Each of these lists is the argument of a parameter of its own.
use Rattle.std.specs.Prelude.{ℕ, suc, ◌+◌, ◌-◌, ◌==◌, Bool, false, List, [], ◌∷◌, ◌++◌, map, Option, Some, None, length, codes, if◌then◌else◌}
use Rattle.ppmacro.specs.Chains.{ChainPart, OperandPart, PastePart, parameter_names, parts_after, group_parts, lenient_parameter, with_variadic, chains_of}
use Rattle.ppmacro.specs.VaOpt.{Separated, separated}
use Rattle.ppmacro.specs.declared.macros.MacroKind.{MacroKind}
use Rattle.ppmacro.specs.declared.macros.MacroKind.TheVariants.{FunctionLike}
use Rattle.ppmacro.specs.declared.macros.Macro.{Macro}
use Rattle.ppmacro.specs.declared.macros.Chain.{Chain}
use Rattle.ppmacro.specs.declared.macros.Operand.{Operand}
use Rattle.ppmacro.specs.declared.macros.Operand.TheVariants.{Tok, Param, Str}

-- ---- outside of contents

-- The parameters with `__VA_OPT__`, which is the last.
abbrev pub with_va_opt : MacroKind → MacroKind
with_va_opt (FunctionLike names variadic) = FunctionLike (names ++ codes "__VA_OPT__" ∷ []) variadic
with_va_opt kind = kind

-- The parameter of an operand, with or without `#` before it.
abbrev pub operand_parameter : Operand → Option ℕ
operand_parameter (Param i) = Some i
operand_parameter (Str i at) = Some i
operand_parameter _ = None

-- Whether a part is `__VA_OPT__`, which is parameter n.
abbrev pub is_va_opt_part : ℕ → ChainPart → Bool
is_va_opt_part n (OperandPart space o) = elim (operand_parameter o) [ Some i ↦ i == n | None ↦ false ]
is_va_opt_part n PastePart = false

-- ---- contents

-- The chains whose tokens are arguments: each chain of a content by itself, or after `#` all of them together.
abbrev pub argument_chains : ChainPart → List Chain → List (List Chain)
argument_chains (OperandPart space (Str n at)) cs = cs ∷ []
argument_chains (OperandPart space o) cs = map (λ c. c ∷ []) cs
argument_chains PastePart cs = []

-- The operand for a chain of a content: parameter i, or the token if the chain is one token.
abbrev pub content_operand : ℕ → List Operand → Operand
content_operand i (Tok t ∷ []) = Tok t
content_operand i _ = Param i

-- The parts for the chains of a content. The parameters are counted from i on.
abbrev pub content_parts : ℕ → List Chain → List ChainPart
content_parts i [] = []
content_parts i (c ∷ cs) = OperandPart c.space (content_operand i c.operands) ∷ content_parts (suc i) cs

-- The first chain gets this leading-space flag.
abbrev pub with_first_space : Bool → List Chain → List Chain
with_first_space space [] = []
with_first_space space (c ∷ cs) = record c { space = space } ∷ cs

-- The parts that replace a `__VA_OPT__` with this content. The first has the leading-space flag of the `__VA_OPT__`, or of the `#` before it. If
-- the content is empty, `__VA_OPT__` remains, a placemarker.
abbrev pub parts_for : ChainPart → ℕ → List Chain → List ChainPart
parts_for (OperandPart space (Str n at)) i cs = OperandPart space (Str i at) ∷ []
parts_for (OperandPart space o) i [] = OperandPart space o ∷ []
parts_for (OperandPart space o) i (c ∷ cs) = content_parts i (with_first_space space (c ∷ cs))
parts_for PastePart i cs = PastePart ∷ []

-- Parts with these contents in the places of the `__VA_OPT__`, in their order. The parameters are counted from i on.
abbrev pub parts_with : ℕ → ℕ → List ChainPart → List (List Chain) → List ChainPart
parts_with n i [] contents = []
parts_with n i (p ∷ ps) [] = p ∷ ps
parts_with n i (p ∷ ps) (c ∷ cs) =
    if is_va_opt_part n p then parts_for p i c ++ parts_with n (i + length (argument_chains p c)) ps cs else p ∷ parts_with n i ps (c ∷ cs)

-- The chains whose tokens are the arguments of these parameters.
abbrev pub arguments_with : ℕ → List ChainPart → List (List Chain) → List (List Chain)
arguments_with n [] contents = []
arguments_with n (p ∷ ps) [] = []
arguments_with n (p ∷ ps) (c ∷ cs) =
    if is_va_opt_part n p then argument_chains p c ++ arguments_with n ps cs else arguments_with n ps (c ∷ cs)

-- ---- the replacement list

pub record VaOptChains : Type 0 where
  -- the index of the variable argument
  pub variadic : ℕ
  -- the chains if it has no tokens; `__VA_OPT__` is a parameter after the last that has an argument, a placemarker
  pub if_empty : List Chain
  -- the chains if it has tokens
  pub if_filled : List Chain
  -- the chains whose tokens are then the arguments of the parameters after `__VA_OPT__`
  pub contents : List (List Chain)

abbrev pub chains_from : Macro → List ChainPart → List Chain
chains_from d parts = map (with_variadic (lenient_parameter d.kind)) (group_parts parts)

abbrev pub outside_parts : Macro → Separated → List ChainPart
outside_parts d s = parts_after (with_va_opt d.kind) None s.outside

abbrev pub content_chains : Macro → Separated → List (List Chain)
content_chains d s = map (λ ts. chains_of (record { kind = d.kind; body = ts })) s.contents

abbrev pub va_opt_chains : Macro → Separated → VaOptChains
va_opt_chains d s =
    let n : ℕ = length (parameter_names d.kind) in
    record {
      variadic = n - 1;
      if_empty = chains_from d (outside_parts d s);
      if_filled = chains_from d (parts_with n (suc n) (outside_parts d s) (content_chains d s));
      contents = arguments_with n (outside_parts d s) (content_chains d s);
    }

-- The chains of any replacement list.
pub data ListChains : Type 0 where
  Ordinary : List Chain → ListChains
  WithVaOpt : VaOptChains → ListChains

abbrev pub chains_if : Macro → Option Separated → ListChains
chains_if d None = Ordinary (chains_of d)
chains_if d (Some s) = WithVaOpt (va_opt_chains d s)

abbrev pub list_chains : Macro → ListChains
list_chains d = chains_if d (separated d)
