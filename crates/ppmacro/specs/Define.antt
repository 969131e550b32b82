-- `#define` and `#undef` (6.10.3, 6.10.3.5): the table after the directive, or its fault. The order of the tests decides which
-- fault.
use Rattle.std.specs.Prelude.{◌≡◌, ℕ, Bool, true, false, not, ◌&&◌, ◌||◌, List, [], ◌∷◌, ◌++◌, Option, Some, None, is_some, Result, Ok, Err, codes, if◌then◌else◌}
use Rattle.std.specs.List.{list_any}
use Rattle.std.specs.Option.{option_map}
use Rattle.std.specs.Str.{bytes_eq}
use Rattle.std.specs.Cmp.Lexicographic.{pointwise}
use Rattle.std.specs.FinMap as table
use Rattle.pptext.specs.declared.sources.Profile.{Profile}
use Rattle.pptext.specs.Profiles.{is_gnu}
use Rattle.pptext.specs.declared.tokens.Place.{Place}
use Rattle.pptext.specs.declared.tokens.Token.{Token}
use Rattle.pptext.specs.declared.tokens.Fault.{Fault}
use Rattle.pptext.specs.Tokens.{is_identifier, is_identifier_named, is_punct, fault}
use Rattle.ppmacro.specs.Names.{Name, Macros}
use Rattle.ppmacro.specs.HashOperators.{is_hash, is_paste}
use Rattle.ppmacro.specs.ParsedParameters.{ParsedParameters}
use Rattle.ppmacro.specs.Chains.{parameter_names, parameter_of, is_function_like}
use Rattle.ppmacro.specs.VaOpt.{is_va_opt, Separated, separated}
use Rattle.ppmacro.specs.VaOptChains.{with_va_opt}
use Rattle.ppmacro.specs.declared.macros.Variadic.{Variadic}
use Rattle.ppmacro.specs.declared.macros.Variadic.TheVariants.{No, Strict, Lenient}
use Rattle.ppmacro.specs.declared.defining.parameter_lists.Ending.{Ending}
use Rattle.ppmacro.specs.declared.defining.parameter_lists.Ending.TheVariants.{NoEllipsis, Ellipsis, NamedEllipsis}
use Rattle.ppmacro.specs.declared.macros.MacroKind.{MacroKind}
use Rattle.ppmacro.specs.declared.macros.MacroKind.TheVariants.{ObjectLike, FunctionLike}
use Rattle.ppmacro.specs.declared.macros.Macro.{Macro}

-- Why a definition with a permitted name is invalid.
pub data Refusal : Type 0 where
  ParameterList : Refusal
  Spacing : Refusal
  Pasting : Refusal
  Stringizing : Refusal
  VariableArguments : Refusal
  Redefinition : Refusal

-- A definition with the macro's name.
pub record Named : Type 0 where
  pub name : Name
  pub definition : Macro

-- ---- the parameter list (6.10p1, 6.10.3p10)

-- Expects `)`. The replacement list follows it.
abbrev pub close_parameters : Ending → List Token → Option ParsedParameters
close_parameters ending [] = None
close_parameters ending (t ∷ ts) = if is_punct (codes ")") t then Some (record { names = []; ending = ending; body = ts }) else None

abbrev pub with_name : Name → ParsedParameters → ParsedParameters
with_name n h = record h { names = n ∷ h.names }

-- After a parameter's name that no comma follows. In GNU C `...` may be next.
abbrev pub after_parameter_name : Bool → List Token → Option ParsedParameters
after_parameter_name gnu [] = None
after_parameter_name gnu (t ∷ ts) = if gnu && is_punct (codes "...") t then close_parameters NamedEllipsis ts else close_parameters NoEllipsis (t ∷ ts)

-- After a name (`named`), expects `,` or `)`, and in GNU C also `...`. Otherwise expects a name or `...`.
abbrev pub parameters_from : (gnu named : Bool) → List Token → Option ParsedParameters
parameters_from gnu named [] = None
parameters_from gnu true (t ∷ ts) = if is_punct (codes ",") t then parameters_from gnu false ts else after_parameter_name gnu (t ∷ ts)
parameters_from gnu false (t ∷ ts) =
    if is_punct (codes "...") t then close_parameters Ellipsis ts else (
    if is_identifier t then option_map (with_name t.text) (parameters_from gnu true ts) else None)

-- The parameter list in the tokens after `(`.
abbrev pub read_parameter_list : Profile → List Token → Option ParsedParameters
read_parameter_list profile [] = None
read_parameter_list profile (t ∷ ts) =
    if is_punct (codes ")") t then Some (record { names = []; ending = NoEllipsis; body = ts }) else parameters_from (is_gnu profile) false (t ∷ ts)

abbrev pub repeats : List Name → Bool
repeats [] = false
repeats (n ∷ ns) = list_any (λ m. bytes_eq m n) ns || repeats ns

-- All parameters. `__VA_ARGS__` is the last if the list ends in `...` (6.10.3.1p2).
abbrev pub all_parameters : Ending → List Name → List Name
all_parameters NoEllipsis names = names
all_parameters Ellipsis names = names ++ codes "__VA_ARGS__" ∷ []
all_parameters NamedEllipsis names = names

-- How the last parameter takes arguments. In GNU C a variable argument may be absent.
abbrev pub variadic_by : (gnu : Bool) → Ending → Variadic
variadic_by gnu NoEllipsis = No
variadic_by false Ellipsis = Strict
variadic_by true Ellipsis = Lenient
variadic_by false NamedEllipsis = Strict
variadic_by true NamedEllipsis = Lenient

-- Whether `__VA_ARGS__` is among the names.
abbrev pub has_variable_arguments : List Name → Bool
has_variable_arguments names = list_any (λ n. bytes_eq n (codes "__VA_ARGS__")) names

-- Whether `__VA_OPT__` is among the names.
abbrev pub has_va_opt : List Name → Bool
has_va_opt names = list_any (λ n. bytes_eq n (codes "__VA_OPT__")) names

abbrev pub function_like : Profile → Option ParsedParameters → Result Macro Refusal
function_like profile None = Err ParameterList
function_like profile (Some h) =
    if repeats h.names then Err ParameterList else (
    if has_variable_arguments h.names || (is_gnu profile && has_va_opt h.names) then Err VariableArguments else
    Ok (record { kind = FunctionLike (all_parameters h.ending h.names) (variadic_by (is_gnu profile) h.ending); body = h.body }))

-- The definition in the tokens after the macro's name.
abbrev pub read_definition : Profile → List Token → Result Macro Refusal
read_definition profile [] = Ok (record { kind = ObjectLike; body = [] })
read_definition profile (t ∷ ts) =
    if t.space then Ok (record { kind = ObjectLike; body = t ∷ ts }) else (
    if is_punct (codes "(") t then function_like profile (read_parameter_list profile ts) else Err Spacing)

-- ---- the replacement list

-- Whether there is a `__VA_ARGS__`, but it isn't a parameter (6.10.3p5): the parameter list has no `...`, or its `...` follows a name.
abbrev pub misplaces_variable_arguments : MacroKind → List Token → Bool
misplaces_variable_arguments kind ts = list_any (is_identifier_named (codes "__VA_ARGS__")) ts && not (has_variable_arguments (parameter_names kind))

abbrev pub is_empty : List Token → Bool
is_empty [] = true
is_empty (t ∷ ts) = false

-- Whether `##` is first or last (6.10.3.3p1), or follows another `##`, so that an operand is missing (6.10.3.3p3). `bare`: no
-- operand is directly before.
abbrev pub misplaces_paste : Bool → List Token → Bool
misplaces_paste bare [] = false
misplaces_paste bare (t ∷ ts) = if is_paste t then bare || (is_empty ts || misplaces_paste true ts) else misplaces_paste false ts

abbrev pub begins_with_parameter : MacroKind → List Token → Bool
begins_with_parameter kind [] = false
begins_with_parameter kind (t ∷ ts) = is_some (parameter_of kind t)

-- Whether there is a `#` without a parameter directly after it (6.10.3.2p1).
abbrev pub misplaces_hash : MacroKind → List Token → Bool
misplaces_hash kind [] = false
misplaces_hash kind (t ∷ ts) = (is_hash t && not (begins_with_parameter kind ts)) || misplaces_hash kind ts

-- ---- identical definitions (6.10.3p1, p2)

abbrev pub same_bool : Bool → Bool → Bool
same_bool true b = b
same_bool false b = not b

abbrev pub same_token : Token → Token → Bool
same_token t u = bytes_eq t.text u.text && same_bool t.space u.space

-- The white space before a replacement list doesn't count, so the flag of its first token doesn't either.
abbrev pub same_body : List Token → List Token → Bool
same_body [] [] = true
same_body (t ∷ ts) (u ∷ us) = bytes_eq t.text u.text && pointwise same_token ts us
same_body _ _ = false

abbrev pub same_variadic : Variadic → Variadic → Bool
same_variadic No No = true
same_variadic Strict Strict = true
same_variadic Lenient Lenient = true
same_variadic _ _ = false

-- The names don't show whether there is a `...` (GNU C has `f(x)` and `f(x...)`), nor whether the variable argument may be absent. In
-- one unit, which has one profile, they do where definitions are compared: only GNU C has such parameters, and it compares none.
abbrev pub same_kind : MacroKind → MacroKind → Bool
same_kind ObjectLike ObjectLike = true
same_kind (FunctionLike ms v) (FunctionLike ns w) = pointwise bytes_eq ms ns && same_variadic v w
same_kind _ _ = false

abbrev pub is_identical : Macro → Macro → Bool
is_identical d e = same_kind d.kind e.kind && same_body d.body e.body

abbrev pub is_conflicting : Option Macro → Macro → Bool
is_conflicting None d = false
is_conflicting (Some e) d = not (is_identical e d)

-- ---- the whole line

-- Whether a name is that of a predefined macro (6.10.8.1) that can't be redefined. In GNU C `__STDC_VERSION__` can, because a list uses
-- it for the `-std` of a build. The name decides, and not the table: after a redefinition in GNU C the name is still reserved in the
-- other profiles. In the table of one unit, which has one profile, these names have their predefined macros.
abbrev pub is_fixed : (gnu : Bool) → Name → Bool
is_fixed gnu name =
    bytes_eq name (codes "__FILE__")
    || (bytes_eq name (codes "__LINE__")
    || (bytes_eq name (codes "__DATE__")
    || (bytes_eq name (codes "__TIME__")
    || (bytes_eq name (codes "__STDC__")
    || (bytes_eq name (codes "__STDC_HOSTED__")
    || (bytes_eq name (codes "__STDC_VERSION__") && not gnu))))))

-- Whether a name can never be a macro.
abbrev pub is_barred : (gnu : Bool) → Name → Bool
is_barred gnu name = bytes_eq name (codes "defined") || (bytes_eq name (codes "__VA_ARGS__") || (bytes_eq name (codes "__VA_OPT__") && gnu))

-- Whether a directive must not define or undefine a name (6.10.8p2, 6.10.3p5).
abbrev pub is_reserved : Profile → Name → Bool
is_reserved profile name = is_fixed (is_gnu profile) name || is_barred (is_gnu profile) name

-- Why a definition without `__VA_OPT__` is invalid, if it is. In GNU C a name may be redefined with any definition.
abbrev pub plain_refusal : Profile → Macros → Name → Macro → Option Refusal
plain_refusal profile macros name d =
    if misplaces_variable_arguments d.kind d.body then Some VariableArguments else (
    if misplaces_paste true d.body then Some Pasting else (
    if is_function_like d.kind && misplaces_hash d.kind d.body then Some Stringizing else (
    if not (is_gnu profile) && is_conflicting (table.get macros name) d then Some Redefinition else None)))

-- Why a definition with `__VA_OPT__` is invalid, if it is (C23, 6.10.5.1). `##` mustn't be first or last in a content either. `#` may be before `__VA_OPT__`, as before a
-- parameter.
abbrev pub va_opt_refusal : Macro → Option Separated → Option Refusal
va_opt_refusal d None = Some VariableArguments
va_opt_refusal d (Some s) =
    if misplaces_variable_arguments d.kind d.body then Some VariableArguments else (
    if misplaces_paste true d.body || list_any (misplaces_paste true) s.contents then Some Pasting else (
    if misplaces_hash (with_va_opt d.kind) d.body then Some Stringizing else None))

-- Why a definition is invalid, if it is. `__VA_OPT__` is a name like any other except in GNU C.
abbrev pub refusal_of : Profile → Macros → Name → Macro → Option Refusal
refusal_of profile macros name d =
    if is_gnu profile && list_any is_va_opt d.body then va_opt_refusal d (separated d) else plain_refusal profile macros name d

abbrev pub unless_refused : Option Refusal → Macro → Result Macro Refusal
unless_refused None d = Ok d
unless_refused (Some r) d = Err r

abbrev pub check_body : Profile → Macros → Name → Result Macro Refusal → Result Macro Refusal
check_body profile macros name (Ok d) = unless_refused (refusal_of profile macros name d) d
check_body profile macros name (Err r) = Err r

-- The number of a fault.
abbrev pub number_of : Refusal → ℕ
number_of ParameterList = 11
number_of Spacing = 12
number_of Pasting = 13
number_of Stringizing = 14
number_of VariableArguments = 15
number_of Redefinition = 16

abbrev pub with_macro_name : Place → Name → Result Macro Refusal → Result Named Fault
with_macro_name at name (Ok d) = Ok (record { name = name; definition = d })
with_macro_name at name (Err r) = Err (fault (number_of r) at name)

-- The definition in the tokens after `define`, or the fault. `at` is the location of `#`.
abbrev pub check_define : Profile → Macros → Place → List Token → Result Named Fault
check_define profile macros at [] = Err (fault 9 at (codes "define"))
check_define profile macros at (t ∷ ts) =
    if is_identifier t then (
    if is_reserved profile t.text then Err (fault 10 at t.text) else
    with_macro_name at t.text (check_body profile macros t.text (read_definition profile ts))) else Err (fault 9 at (codes "define"))

abbrev pub insert_definition : Macros → Result Named Fault → Result Macros Fault
insert_definition macros (Ok n) = Ok (table.insert macros n.name n.definition)
insert_definition macros (Err f) = Err f

abbrev pub after_define : Profile → Macros → Place → List Token → Result Macros Fault
after_define profile macros at line = insert_definition macros (check_define profile macros at line)

-- The name in the tokens after `undef`, or the fault.
abbrev pub undefined : Profile → Place → List Token → Result Name Fault
undefined profile at (t ∷ []) =
    if is_identifier t then (if is_reserved profile t.text then Err (fault 10 at t.text) else Ok t.text) else Err (fault 9 at (codes "undef"))
undefined profile at _ = Err (fault 9 at (codes "undef"))

abbrev pub remove_name : Macros → Result Name Fault → Result Macros Fault
remove_name macros (Ok name) = Ok (table.remove macros name)
remove_name macros (Err f) = Err f

abbrev pub after_undef : Profile → Macros → Place → List Token → Result Macros Fault
after_undef profile macros at line = remove_name macros (undefined profile at line)

-- The effect of a call on the table: the table of `r`, or its fault and the old table.
abbrev pub Leaves : Macros → Macros → Result (Unit {0}) Fault → Result Macros Fault → Type 0
Leaves old new (Ok u) r = r ≡ Ok new
Leaves old new (Err f) r = (r ≡ Err f) × (new ≡ old)
