-- Without the rules of GNU C, no variable argument may be absent, and no chain has a `VariadicAfterComma`.
use Rattle.std.proofs.Common.{◌≡◌, ◌∙◌, ap, subst, refl, true≢false, Bool, true, false, ◌||◌, ◌&&◌, List, [], ◌∷◌, map, Option, Some, None, Result, Ok, Err, ℕ, codes, if◌then◌else◌}
use Rattle.std.specs.List.{list_any}
use Rattle.std.proofs.lemmas.Bool.{or_parts}
use Rattle.pptext.specs.declared.sources.Profile.{Profile}
use Rattle.pptext.specs.declared.tokens.Place.{Place}
use Rattle.pptext.specs.declared.tokens.Token.{Token}
use Rattle.pptext.specs.declared.tokens.Fault.{Fault}
use Rattle.pptext.specs.Profiles.{is_gnu}
use Rattle.pptext.specs.Tokens.{is_identifier, is_punct, fault}
use Rattle.ppmacro.specs.Names.{Name, Macros}
use Rattle.ppmacro.specs.HashOperators.{is_paste}
use Rattle.ppmacro.specs.ParsedParameters.{ParsedParameters}
use Rattle.ppmacro.specs.declared.defining.parameter_lists.Ending.{Ending}
use Rattle.ppmacro.specs.declared.defining.parameter_lists.Ending.TheVariants.{NoEllipsis, Ellipsis, NamedEllipsis}
use Rattle.ppmacro.specs.declared.macros.MacroKind.{MacroKind}
use Rattle.ppmacro.specs.declared.macros.MacroKind.TheVariants.{ObjectLike, FunctionLike}
use Rattle.ppmacro.specs.declared.macros.Macro.{Macro}
use Rattle.ppmacro.specs.declared.macros.Chain.{Chain}
use Rattle.ppmacro.specs.declared.macros.Operand.{Operand}
use Rattle.ppmacro.specs.Chains.{HashSign, ChainPart, OperandPart, PastePart, hash_sign, parameter_of, is_operator_hash, plain_part, stringized_part}
use Rattle.ppmacro.specs.Chains.{parts_at, parts_after, begins_joined, join_first, group_parts, lenient_parameter, with_variadic, chains_of}
use Rattle.ppmacro.specs.Define.{Named, Refusal, ParameterList, Spacing, VariableArguments}
use Rattle.ppmacro.specs.Define.{repeats, has_variable_arguments, has_va_opt, all_parameters, variadic_by, function_like, read_parameter_list, read_definition, refusal_of, unless_refused, check_body, with_macro_name, is_reserved, check_define}
use Rattle.ppmacro.specs.Laws.{is_variadic, holds_variadic}

-- ---- definitions

strict_by : (gnu : Bool) (ns : List Name) (e : Ending) → gnu ≡ false → lenient_parameter (FunctionLike ns (variadic_by gnu e)) ≡ None
strict_by true ns e g = absurd (true≢false g)
strict_by false ns NoEllipsis g = refl
strict_by false ns Ellipsis g = refl
strict_by false ns NamedEllipsis g = refl

-- If the result is a definition, its variable argument may not be absent.
abbrev IsStrict : {E : Type 0} → Result Macro E → Type 0
IsStrict (Ok d) = lenient_parameter d.kind ≡ None
IsStrict (Err e) = Unit {0}

strict_either : {E : Type 0} (b : Bool) (r s : Result Macro E) → IsStrict r → IsStrict s → IsStrict (if b then r else s)
strict_either true r s h k = h
strict_either false r s h k = k

function_strict : (p : Profile) (h : Option ParsedParameters) → is_gnu p ≡ false → IsStrict (function_like p h)
function_strict p None g = tt
function_strict p (Some h) g =
    let d : Macro = record { kind = FunctionLike (all_parameters h.ending h.names) (variadic_by (is_gnu p) h.ending); body = h.body } in
    let barred : Bool = has_variable_arguments h.names || (is_gnu p && has_va_opt h.names) in
    let taken : Result Macro Refusal = if barred then Err VariableArguments else Ok d in
    strict_either (repeats h.names) (Err ParameterList) taken tt
    (strict_either barred (Err VariableArguments) (Ok d) tt (strict_by (is_gnu p) (all_parameters h.ending h.names) h.ending g))

read_strict : (p : Profile) (ts : List Token) → is_gnu p ≡ false → IsStrict (read_definition p ts)
read_strict p [] g = refl
read_strict p (t ∷ ts) g =
    let taken : Result Macro Refusal = if is_punct (codes "(") t then function_like p (read_parameter_list p ts) else Err Spacing in
    strict_either t.space (Ok (record { kind = ObjectLike; body = t ∷ ts })) taken refl
    (strict_either (is_punct (codes "(") t) (function_like p (read_parameter_list p ts)) (Err Spacing) (function_strict p (read_parameter_list p ts) g) tt)

unless_strict : (o : Option Refusal) (d : Macro) → lenient_parameter d.kind ≡ None → IsStrict (unless_refused o d)
unless_strict None d h = h
unless_strict (Some r) d h = tt

fitting_strict : (p : Profile) (macros : Macros) (name : Name) (r : Result Macro Refusal) → IsStrict r → IsStrict (check_body p macros name r)
fitting_strict p macros name (Ok d) h = unless_strict (refusal_of p macros name d) d h
fitting_strict p macros name (Err e) h = tt

-- If the result is a named definition, its variable argument may not be absent.
abbrev NamesStrict : Result Named Fault → Type 0
NamesStrict (Ok n) = lenient_parameter n.definition.kind ≡ None
NamesStrict (Err f) = Unit {0}

named_strict : (at : Place) (name : Name) (r : Result Macro Refusal) → IsStrict r → NamesStrict (with_macro_name at name r)
named_strict at name (Ok d) h = h
named_strict at name (Err e) h = tt

names_either : (b : Bool) (r s : Result Named Fault) → NamesStrict r → NamesStrict s → NamesStrict (if b then r else s)
names_either true r s h k = h
names_either false r s h k = k

judged_strict : (p : Profile) (macros : Macros) (at : Place) (line : List Token) → is_gnu p ≡ false → NamesStrict (check_define p macros at line)
judged_strict p macros at [] g = tt
judged_strict p macros at (t ∷ ts) g =
    let reserved : Result Named Fault = Err (fault 10 at t.text) in
    let malformed : Result Named Fault = Err (fault 9 at (codes "define")) in
    let fit : Result Macro Refusal = check_body p macros t.text (read_definition p ts) in
    let named : Result Named Fault = with_macro_name at t.text fit in
    names_either (is_identifier t) (if is_reserved p t.text then reserved else named) malformed
    (names_either (is_reserved p t.text) reserved named tt (named_strict at t.text fit (fitting_strict p macros t.text (read_definition p ts) (read_strict p ts g)))) tt

pub strict : (p : Profile) (macros : Macros) (at : Place) (line : List Token) (n : Named)
    → is_gnu p ≡ false
    → check_define p macros at line ≡ Ok n
    → lenient_parameter n.definition.kind ≡ None
strict p macros at line n g e = subst NamesStrict e (judged_strict p macros at line g)

-- ---- chains

abbrev is_variadic_part : ChainPart → Bool
is_variadic_part (OperandPart space o) = is_variadic o
is_variadic_part PastePart = false

plain_whole : (o : Option ℕ) (t : Token) → is_variadic_part (plain_part o t) ≡ false
plain_whole None t = refl
plain_whole (Some i) t = refl

stringized_whole : (o : Option ℕ) (hash : HashSign) (t : Token) → is_variadic_part (stringized_part o hash t) ≡ false
stringized_whole None hash t = refl
stringized_whole (Some i) hash t = refl

items_at_whole : (paste hash : Bool) (item : ChainPart) (is js : List ChainPart)
    → is_variadic_part item ≡ false
    → list_any is_variadic_part is ≡ false
    → list_any is_variadic_part js ≡ false
    → list_any is_variadic_part (parts_at paste hash item is js) ≡ false
items_at_whole true hash item is js e h k = h
items_at_whole false true item is js e h k = k
items_at_whole false false item is js e h k = rw e h

items_whole : (kind : MacroKind) (hash : Option HashSign) (ts : List Token) → list_any is_variadic_part (parts_after kind hash ts) ≡ false
items_whole kind hash [] = refl
items_whole kind (Some hash) (t ∷ ts) = rw (stringized_whole (parameter_of kind t) hash t) (items_whole kind None ts)
items_whole kind None (t ∷ ts) =
    items_at_whole (is_paste t) (is_operator_hash kind t) (plain_part (parameter_of kind t) t)
    (parts_after kind None ts)
    (parts_after kind (Some (hash_sign t)) ts)
    (plain_whole (parameter_of kind t) t) (items_whole kind None ts) (items_whole kind (Some (hash_sign t)) ts)

joined_whole : (space : Bool) (o : Operand) (cs : List Chain) → is_variadic o ≡ false → list_any holds_variadic cs ≡ false → list_any holds_variadic (join_first space o cs) ≡ false
joined_whole space o [] e h = rw e refl
joined_whole space o (c ∷ cs) e h = rw e h

first_whole : (joined space : Bool) (o : Operand) (cs : List Chain)
    → is_variadic o ≡ false
    → list_any holds_variadic cs ≡ false
    → list_any holds_variadic (elim joined [ true ↦ join_first space o cs | false ↦ record { space = space; operands = o ∷ [] } ∷ cs ]) ≡ false
first_whole true space o cs e h = joined_whole space o cs e h
first_whole false space o cs e h = rw e h

grouped_whole : (is : List ChainPart) → list_any is_variadic_part is ≡ false → list_any holds_variadic (group_parts is) ≡ false
grouped_whole [] h = refl
grouped_whole (PastePart ∷ is) h = grouped_whole is h
grouped_whole (OperandPart space o ∷ is) h =
    let both = or_parts (is_variadic o) (list_any is_variadic_part is) h in
    first_whole (begins_joined is) space o (group_parts is) both.0 (grouped_whole is both.1)

as_grouped : (cs : List Chain) → map (with_variadic None) cs ≡ cs
as_grouped [] = refl
as_grouped (c ∷ cs) = ap (λ ds. c ∷ ds) (as_grouped cs)

pub pasted : (d : Macro) → lenient_parameter d.kind ≡ None → list_any holds_variadic (chains_of d) ≡ false
pasted d e =
    let items = parts_after d.kind None d.body in
    ap (λ l. list_any holds_variadic (map (with_variadic l) (group_parts items))) e
    ∙ ap (list_any holds_variadic) (as_grouped (group_parts items))
    ∙ grouped_whole items (items_whole d.kind None d.body)
