-- A `#define` line by itself: its replacement list is the end of the line, and the table decides only whether its name has a different
-- definition.
use Rattle.std.proofs.Common.{◌≡◌, ◌∙◌, ◌<◌, Bool, true, false, not, ◌&&◌, ◌||◌, List, [], ◌∷◌, Option, Some, None, Result, Ok, Err, IfSome, IfOk, length, get_or, codes, refl, sym, ap, if◌then◌else◌, arith}
use Rattle.std.specs.Option.{option_map}
use Rattle.std.specs.List.{list_any}
use Rattle.std.specs.FinMap as table
use Rattle.std.specs.Ordering.{nat_cmp}
use Rattle.std.specs.Cmp.Lexicographic.{slice_cmp}
use Rattle.pptext.specs.Profiles.{is_gnu}
use Rattle.pptext.specs.Tokens.{fault, is_identifier, is_punct}
use Rattle.pptext.specs.declared.sources.Profile.{Profile}
use Rattle.pptext.specs.declared.tokens.Fault.{Fault}
use Rattle.pptext.specs.declared.tokens.Place.{Place}
use Rattle.pptext.specs.declared.tokens.Token.{Token}
use Rattle.ppmacro.specs.Names.{Name, Macros}
use Rattle.ppmacro.specs.ParsedParameters.{ParsedParameters}
use Rattle.ppmacro.specs.Chains.{is_function_like}
use Rattle.ppmacro.specs.declared.macros.Macro.{Macro}
use Rattle.ppmacro.specs.declared.defining.parameter_lists.Ending.{Ending}
use Rattle.ppmacro.specs.declared.defining.parameter_lists.Ending.TheVariants.{NoEllipsis, Ellipsis, NamedEllipsis}
use Rattle.ppmacro.specs.Define.{Named, Refusal, ParameterList, Spacing, Pasting, Stringizing, VariableArguments, Redefinition, close_parameters, with_name, after_parameter_name, parameters_from, read_parameter_list, repeats, has_variable_arguments, has_va_opt, function_like, read_definition}
use Rattle.ppmacro.specs.Define.{misplaces_variable_arguments, misplaces_paste, misplaces_hash, is_conflicting, is_reserved, plain_refusal, va_opt_refusal, refusal_of, unless_refused, check_body, number_of, with_macro_name, check_define}
use Rattle.ppmacro.specs.VaOpt.{is_va_opt, separated}
use Rattle.ppmacro.specs.code.Defining.{unless_conflicting, IsEnd}

-- ---- the replacement list is the end of the line

longer : (t : Token) (ts : List Token) (o : Option ParsedParameters) → IfSome o (λ h. IsEnd h.body ts) → IfSome o (λ h. IsEnd h.body (t ∷ ts))
longer t ts None is = is
longer t ts (Some h) is = (t ∷ is.0, ap (λ us. t ∷ us) is.1)

choice : {A : Type 0} (P : A → Type 0) (b : Bool) (x y : A) → P x → P y → P (if b then x else y)
choice P true x y p q = p
choice P false x y p q = q

renamed : (ts : List Token) (n : Name) (o : Option ParsedParameters) → IfSome o (λ h. IsEnd h.body ts) → IfSome (option_map (with_name n) o) (λ h. IsEnd h.body ts)
renamed ts n None is = is
renamed ts n (Some h) is = is

abbrev EndsIn : List Token → Option ParsedParameters → Type 0
EndsIn ts o = IfSome o (λ h. IsEnd h.body ts)

close-end : (e : Ending) (ts : List Token) → EndsIn ts (close_parameters e ts)
close-end e [] = tt
close-end e (t ∷ ts) = choice (EndsIn (t ∷ ts)) (is_punct (codes ")") t) (Some (record { names = []; ending = e; body = ts })) None (t ∷ [], refl) tt

after-end : (gnu : Bool) (ts : List Token) → EndsIn ts (after_parameter_name gnu ts)
after-end gnu [] = tt
after-end gnu (t ∷ ts) =
    choice (EndsIn (t ∷ ts)) (gnu && is_punct (codes "...") t) (close_parameters NamedEllipsis ts) (close_parameters NoEllipsis (t ∷ ts))
    (longer t ts (close_parameters NamedEllipsis ts) (close-end NamedEllipsis ts)) (close-end NoEllipsis (t ∷ ts))

parameters-end : (gnu named : Bool) (ts : List Token) → EndsIn ts (parameters_from gnu named ts)
parameters-end gnu true [] = tt
parameters-end gnu false [] = tt
parameters-end gnu true (t ∷ ts) =
    choice (EndsIn (t ∷ ts)) (is_punct (codes ",") t) (parameters_from gnu false ts) (after_parameter_name gnu (t ∷ ts))
    (longer t ts (parameters_from gnu false ts) (parameters-end gnu false ts)) (after-end gnu (t ∷ ts))
parameters-end gnu false (t ∷ ts) =
    let names = renamed ts t.text (parameters_from gnu true ts) (parameters-end gnu true ts) in
    choice (EndsIn (t ∷ ts)) (is_punct (codes "...") t) (close_parameters Ellipsis ts) (if is_identifier t then option_map (with_name t.text) (parameters_from gnu true ts) else None)
    (longer t ts (close_parameters Ellipsis ts) (close-end Ellipsis ts))
    (choice (EndsIn (t ∷ ts)) (is_identifier t) (option_map (with_name t.text) (parameters_from gnu true ts)) None (longer t ts (option_map (with_name t.text) (parameters_from gnu true ts)) names) tt)

list-end : (p : Profile) (ts : List Token) → EndsIn ts (read_parameter_list p ts)
list-end p [] = tt
list-end p (t ∷ ts) = choice (EndsIn (t ∷ ts)) (is_punct (codes ")") t) (Some (record { names = []; ending = NoEllipsis; body = ts })) (parameters_from (is_gnu p) false (t ∷ ts)) (t ∷ [], refl) (parameters-end (is_gnu p) false (t ∷ ts))

abbrev BodyEnds : List Token → Result Macro Refusal → Type 0
BodyEnds ts r = IfOk r (λ d. IsEnd d.body ts)

function-end : (p : Profile) (ts : List Token) (o : Option ParsedParameters) → EndsIn ts o → BodyEnds ts (function_like p o)
function-end p ts None is = tt
function-end p ts (Some h) is = choice (BodyEnds ts) (repeats h.names) (Err ParameterList) _ tt (choice (BodyEnds ts) (has_variable_arguments h.names || (is_gnu p && has_va_opt h.names)) (Err VariableArguments) _ tt is)

later : (t : Token) (ts : List Token) (r : Result Macro Refusal) → BodyEnds ts r → BodyEnds (t ∷ ts) r
later t ts (Ok d) is = (t ∷ is.0, ap (λ us. t ∷ us) is.1)
later t ts (Err x) is = is

definition-end : (p : Profile) (ts : List Token) → BodyEnds ts (read_definition p ts)
definition-end p [] = ([], refl)
definition-end p (t ∷ ts) =
    choice (BodyEnds (t ∷ ts)) t.space _ _ ([], refl)
    (choice (BodyEnds (t ∷ ts)) (is_punct (codes "(") t) (function_like p (read_parameter_list p ts)) (Err Spacing) (later t ts (function_like p (read_parameter_list p ts)) (function-end p ts (read_parameter_list p ts) (list-end p ts))) tt)

unrefused : (ts : List Token) (o : Option Refusal) (d : Macro) → IsEnd d.body ts → BodyEnds ts (unless_refused o d)
unrefused ts None d is = is
unrefused ts (Some x) d is = tt

checked-end : (p : Profile) (m : Macros) (name : Name) (ts : List Token) (r : Result Macro Refusal) → BodyEnds ts r → BodyEnds ts (check_body p m name r)
checked-end p m name ts (Ok d) is = unrefused ts (refusal_of p m name d) d is
checked-end p m name ts (Err x) is = tt

-- What a line without a fault defines: its first token is the name, and the replacement list is its end.
abbrev pub Defines : List Token → Result Named Fault → Type 0
Defines line r = IfOk r (λ n. (0 < length line) × ((t : Token) → n.name ≡ (get_or line 0 t).text) × IsEnd n.definition.body line)

named-end : (at : Place) (t : Token) (ts : List Token) (r : Result Macro Refusal) → BodyEnds (t ∷ ts) r → Defines (t ∷ ts) (with_macro_name at t.text r)
named-end at t ts (Ok d) is = (omega arith, λ u. refl, is)
named-end at t ts (Err x) is = tt

pub line-defines : (p : Profile) (m : Macros) (at : Place) (line : List Token) → Defines line (check_define p m at line)
line-defines p m at [] = tt
line-defines p m at (t ∷ ts) =
    let body = later t ts (check_body p m t.text (read_definition p ts)) (checked-end p m t.text ts (read_definition p ts) (definition-end p ts)) in
    choice (Defines (t ∷ ts)) (is_identifier t) _ _
    (choice (Defines (t ∷ ts)) (is_reserved p t.text) _ _ tt (named-end at t ts (check_body p m t.text (read_definition p ts)) body)) tt

-- ---- the table decides only about another definition

and-none : (b : Bool) → (b && false) ≡ false
and-none true = refl
and-none false = refl

no-conflict : (b : Bool) (d : Macro) (name : Name) → (b && is_conflicting (table.get {R = slice_cmp nat_cmp} table.empty name) d) ≡ false
no-conflict b d name = ap (λ o. b && is_conflicting o d) (table.get-empty (slice_cmp nat_cmp) name) ∙ and-none b

pub unrefusable : (p : Profile) (name : Name) (d : Macro)
    → misplaces_variable_arguments d.kind d.body ≡ false
    → misplaces_paste true d.body ≡ false
    → (is_function_like d.kind && misplaces_hash d.kind d.body) ≡ false
    → option_map number_of (plain_refusal p table.empty name d) ≡ None
unrefusable p name d a b c = rw a (rw b (rw c (rw (no-conflict (not (is_gnu p)) d name) refl)))

-- the outcome of the checks, the last of which is `conflict`
abbrev refusal_by : (arguments paste hash conflict : Bool) → Option Refusal
refusal_by a b c conflict =
    if a then Some VariableArguments else (
    if b then Some Pasting else (
    if c then Some Stringizing else (
    if conflict then Some Redefinition else None)))

conflict-alone : (a b c conflict : Bool) (at : Place) (name : Name) (d : Macro) (n : Named)
    → with_macro_name at name (unless_refused (refusal_by a b c false) d) ≡ Ok n
    → (n ≡ record { name = name; definition = d }) × (with_macro_name at name (unless_refused (refusal_by a b c conflict) d) ≡ (if conflict then Err (fault 16 at name) else Ok n))
conflict-alone true b c conflict at name d n is = absurd (cc is)
conflict-alone false true c conflict at name d n is = absurd (cc is)
conflict-alone false false true conflict at name d n is = absurd (cc is)
conflict-alone false false false true at name d n is = let same : n ≡ record { name = name; definition = d } = cc is in (same, refl)
conflict-alone false false false false at name d n is = let same : n ≡ record { name = name; definition = d } = cc is in (same, is)

fault-stays : (a b c conflict : Bool) (at : Place) (name : Name) (d : Macro) (f : Fault)
    → with_macro_name at name (unless_refused (refusal_by a b c false) d) ≡ Err f
    → with_macro_name at name (unless_refused (refusal_by a b c conflict) d) ≡ Err f
fault-stays true b c conflict at name d f is = is
fault-stays false true c conflict at name d f is = is
fault-stays false false true conflict at name d f is = is
fault-stays false false false conflict at name d f is = absurd (cc is)

plain-conflict : (p : Profile) (m : Macros) (at : Place) (name : Name) (d : Macro) (n : Named)
    → with_macro_name at name (unless_refused (plain_refusal p table.empty name d) d) ≡ Ok n
    → with_macro_name at name (unless_refused (plain_refusal p m name d) d) ≡ unless_conflicting p m at n
plain-conflict p m at name d n is =
    let a = misplaces_variable_arguments d.kind d.body in
    let b = misplaces_paste true d.body in
    let c = is_function_like d.kind && misplaces_hash d.kind d.body in
    let free = ap (λ conflict. with_macro_name at name (unless_refused (refusal_by a b c conflict) d)) (sym (no-conflict (not (is_gnu p)) d name)) ∙ is in
    let both = conflict-alone a b c (not (is_gnu p) && is_conflicting (table.get m name) d) at name d n free in
    both.1 ∙ ap (λ k. if not (is_gnu p) && is_conflicting (table.get m k.name) k.definition then Err (fault 16 at k.name) else Ok n) (sym both.0)

plain-fault : (p : Profile) (m : Macros) (at : Place) (name : Name) (d : Macro) (f : Fault)
    → with_macro_name at name (unless_refused (plain_refusal p table.empty name d) d) ≡ Err f
    → with_macro_name at name (unless_refused (plain_refusal p m name d) d) ≡ Err f
plain-fault p m at name d f is =
    let a = misplaces_variable_arguments d.kind d.body in
    let b = misplaces_paste true d.body in
    let c = is_function_like d.kind && misplaces_hash d.kind d.body in
    let free = ap (λ conflict. with_macro_name at name (unless_refused (refusal_by a b c conflict) d)) (sym (no-conflict (not (is_gnu p)) d name)) ∙ is in
    fault-stays a b c (not (is_gnu p) && is_conflicting (table.get m name) d) at name d f free

-- In GNU C the table decides nothing about a definition with `__VA_OPT__`.
either-conflict : (gnu has conflict : Bool) (own free full : Option Refusal) (at : Place) (name : Name) (d : Macro) (f : Fault) (n : Named)
    → with_macro_name at name (unless_refused (if gnu && has then own else free) d) ≡ Ok n
    → (with_macro_name at name (unless_refused free d) ≡ Ok n → with_macro_name at name (unless_refused full d) ≡ (if not gnu && conflict then Err f else Ok n))
    → with_macro_name at name (unless_refused (if gnu && has then own else full) d) ≡ (if not gnu && conflict then Err f else Ok n)
either-conflict true true conflict own free full at name d f n is next = is
either-conflict true false conflict own free full at name d f n is next = next is
either-conflict false has conflict own free full at name d f n is next = next is

either-fault : (b : Bool) (own free full : Option Refusal) (at : Place) (name : Name) (d : Macro) (f : Fault)
    → with_macro_name at name (unless_refused (if b then own else free) d) ≡ Err f
    → (with_macro_name at name (unless_refused free d) ≡ Err f → with_macro_name at name (unless_refused full d) ≡ Err f)
    → with_macro_name at name (unless_refused (if b then own else full) d) ≡ Err f
either-fault true own free full at name d f is next = is
either-fault false own free full at name d f is next = next is

body-conflict : (p : Profile) (m : Macros) (at : Place) (name : Name) (r : Result Macro Refusal) (n : Named)
    → with_macro_name at name (check_body p table.empty name r) ≡ Ok n
    → with_macro_name at name (check_body p m name r) ≡ unless_conflicting p m at n
body-conflict p m at name (Err x) n is = absurd (cc is)
body-conflict p m at name (Ok d) n is =
    either-conflict (is_gnu p) (list_any is_va_opt d.body) (is_conflicting (table.get m n.name) n.definition)
    (va_opt_refusal d (separated d)) (plain_refusal p table.empty name d) (plain_refusal p m name d)
    at name d (fault 16 at n.name) n is (plain-conflict p m at name d n)

body-fault : (p : Profile) (m : Macros) (at : Place) (name : Name) (r : Result Macro Refusal) (f : Fault)
    → with_macro_name at name (check_body p table.empty name r) ≡ Err f
    → with_macro_name at name (check_body p m name r) ≡ Err f
body-fault p m at name (Err x) f is = is
body-fault p m at name (Ok d) f is =
    either-fault (is_gnu p && list_any is_va_opt d.body)
    (va_opt_refusal d (separated d)) (plain_refusal p table.empty name d) (plain_refusal p m name d)
    at name d f is (plain-fault p m at name d f)

named-ok : (ident reserved : Bool) (x y z : Result Named Fault) (e g : Fault) (n : Named)
    → (if ident then (if reserved then Err e else x) else Err g) ≡ Ok n
    → (x ≡ Ok n → y ≡ z)
    → (if ident then (if reserved then Err e else y) else Err g) ≡ z
named-ok true true x y z e g n is next = absurd (cc is)
named-ok true false x y z e g n is next = next is
named-ok false reserved x y z e g n is next = absurd (cc is)

named-fault : (ident reserved : Bool) (x y : Result Named Fault) (e g f : Fault)
    → (if ident then (if reserved then Err e else x) else Err g) ≡ Err f
    → (x ≡ Err f → y ≡ Err f)
    → (if ident then (if reserved then Err e else y) else Err g) ≡ Err f
named-fault true true x y e g f is next = is
named-fault true false x y e g f is next = next is
named-fault false reserved x y e g f is next = is

-- A line without a fault of its own has one only if its name has a different definition.
pub conflict-last : (p : Profile) (m : Macros) (at : Place) (line : List Token) (n : Named) → check_define p table.empty at line ≡ Ok n → check_define p m at line ≡ unless_conflicting p m at n
conflict-last p m at [] n is = absurd (cc is)
conflict-last p m at (t ∷ ts) n is =
    named-ok (is_identifier t) (is_reserved p t.text) _ _ (unless_conflicting p m at n) (fault 10 at t.text) (fault 9 at (codes "define")) n is (body-conflict p m at t.text (read_definition p ts) n)

-- A fault of the line itself is its fault in every table.
pub fault-first : (p : Profile) (m : Macros) (at : Place) (line : List Token) (f : Fault) → check_define p table.empty at line ≡ Err f → check_define p m at line ≡ Err f
fault-first p m at [] f is = is
fault-first p m at (t ∷ ts) f is =
    named-fault (is_identifier t) (is_reserved p t.text) _ _ (fault 10 at t.text) (fault 9 at (codes "define")) f is (body-fault p m at t.text (read_definition p ts) f)
