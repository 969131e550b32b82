-- The parameters whose arguments are expanded (6.10.3.1): those that a replacement list uses without `#` and `##`. And the order in which they are expanded.
use Rattle.std.specs.Prelude.{ℕ, suc, nat_lt, Bool, false, ◌==◌, List, [], ◌∷◌, ◌++◌, Option, Some, None, length, map, replicate, if◌then◌else◌}
use Rattle.std.specs.List.{list_any, filter, fold, flat_map, range_with_len}
use Rattle.pptext.specs.declared.sources.Profile.{Profile}
use Rattle.pptext.specs.declared.sources.Profile.TheVariants.{C11, Later, Gnu}
use Rattle.ppmacro.specs.Chains.{chains_of, parameter_names}
use Rattle.ppmacro.specs.VaOptChains.{operand_parameter, VaOptChains, ListChains, Ordinary, WithVaOpt, list_chains}
use Rattle.ppmacro.specs.Substitution.{argument_at}
use Rattle.ppmacro.specs.declared.macros.Macro.{Macro}
use Rattle.ppmacro.specs.declared.macros.Chain.{Chain}
use Rattle.ppmacro.specs.declared.macros.Operand.{Operand}
use Rattle.ppmacro.specs.declared.macros.Operand.TheVariants.{Param}

abbrev pub is_lone_parameter : ℕ → List Operand → Bool
is_lone_parameter i (Param j ∷ []) = i == j
is_lone_parameter i _ = false

-- Whether the replacement list uses this parameter without `#` and `##`.
abbrev pub pre_expands : ℕ → List Chain → Bool
pre_expands i cs = list_any (λ c. is_lone_parameter i c.operands) cs

-- ---- in the order of the parameters

-- The parameters that the replacement list uses without `#` and `##`, of the first n, in their own order.
abbrev pub used_parameters : List Chain → ℕ → List ℕ
used_parameters cs n = filter (λ i. pre_expands i cs) (range_with_len 0 n)

-- ---- in the order of their first uses

-- The parameter that a chain consists of, if it consists of one alone.
abbrev pub lone_parameter : List Operand → Option ℕ
lone_parameter (Param i ∷ []) = Some i
lone_parameter _ = None

-- For each chain, the parameter that it consists of, if it consists of one alone.
abbrev pub lone_parameters : List Chain → List (Option ℕ)
lone_parameters cs = map (λ c. lone_parameter c.operands) cs

-- Appends a parameter to those that were used before, unless it is one of them.
abbrev pub with_use : List ℕ → Option ℕ → List ℕ
with_use seen None = seen
with_use seen (Some i) = if list_any (λ j. i == j) seen then seen else seen ++ i ∷ []

-- The parameters that the replacement list uses without `#` and `##`, each once, in the order of their first uses.
abbrev pub first_uses : List Chain → List ℕ
first_uses cs = fold with_use [] (lone_parameters cs)

-- ---- with `__VA_OPT__`

-- The parameter, if it is one of the first n.
abbrev pub own_use : ℕ → Option ℕ → Option ℕ
own_use n None = None
own_use n (Some i) = if nat_lt i n then Some i else None

-- What the contents use that an operand stands for. The list has the chains that are the argument of each parameter; the macro's own have none.
abbrev pub uses_of_operand : List (List Chain) → Operand → List (Option ℕ)
uses_of_operand all o = elim (operand_parameter o) [ Some i ↦ lone_parameters (argument_at all i) | None ↦ [] ]

-- The macro's own parameters and `__VA_OPT__` stand for no content.
abbrev pub after_own : ℕ → List (List Chain) → List (List Chain)
after_own n contents = replicate (suc n) [] ++ contents

-- What a chain uses, and its contents.
abbrev pub uses_of_chain : List (List Chain) → Chain → List (Option ℕ)
uses_of_chain all c = lone_parameter c.operands ∷ flat_map (uses_of_operand all) c.operands

-- The uses from the left of the replacement list. The last is that of the variable argument, because its expansion decides about `__VA_OPT__`.
abbrev pub va_opt_uses : ℕ → VaOptChains → List (Option ℕ)
va_opt_uses n c = map (own_use n) (flat_map (uses_of_chain (after_own n c.contents)) c.if_filled ++ Some c.variadic ∷ [])

-- ---- the order of a profile

-- The parameters whose arguments are expanded, in the order in which they are. C names no order (6.10.3.1): C11 and `Later` take that of the
-- parameters. GNU C takes that of the first uses.
abbrev pub order_in : Profile → Macro → List ℕ
order_in C11 d = used_parameters (chains_of d) (length (parameter_names d.kind))
order_in Later d = used_parameters (chains_of d) (length (parameter_names d.kind))
order_in Gnu d = first_uses (chains_of d)

-- With `__VA_OPT__` it is that of the first uses, too.
abbrev pub order_by : Profile → Macro → ListChains → List ℕ
order_by profile d (Ordinary cs) = order_in profile d
order_by profile d (WithVaOpt c) = fold with_use [] (va_opt_uses (length (parameter_names d.kind)) c)

abbrev pub expansion_order : Profile → Macro → List ℕ
expansion_order profile d = order_by profile d (list_chains d)
