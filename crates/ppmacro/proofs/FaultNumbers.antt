-- The faults of `#define` and `#undef` have numbers of at most 16.
use Rattle.std.proofs.Common.{◌≡◌, ℕ, ◌≤◌, List, [], ◌∷◌, Bool, true, false, Result, Ok, Err, subst, arith, if◌then◌else◌}
use Rattle.pptext.specs.declared.sources.Profile.{Profile}
use Rattle.pptext.specs.declared.tokens.Place.{Place}
use Rattle.pptext.specs.declared.tokens.Token.{Token}
use Rattle.pptext.specs.declared.tokens.Fault.{Fault}
use Rattle.pptext.specs.Tokens.{is_identifier, fault}
use Rattle.ppmacro.specs.Names.{Name, Macros}
use Rattle.ppmacro.specs.declared.macros.Macro.{Macro}
use Rattle.ppmacro.specs.Define.{Named, Refusal, ParameterList, Spacing, Pasting, Stringizing, VariableArguments, Redefinition}
use Rattle.ppmacro.specs.Define.{is_reserved, read_definition, check_body, number_of, with_macro_name, check_define, insert_definition, after_define, undefined, remove_name, after_undef}

-- If the result is a fault, its number is at most this.
abbrev IsUpTo : {A : Type 0} → ℕ → Result A Fault → Type 0
IsUpTo most (Ok x) = Unit {0}
IsUpTo most (Err f) = f.number ≤ most

up_to_either : {A : Type 0} (most : ℕ) (b : Bool) (r s : Result A Fault) → IsUpTo most r → IsUpTo most s → IsUpTo most (if b then r else s)
up_to_either most true r s h k = h
up_to_either most false r s h k = k

refusal_up_to : (r : Refusal) → number_of r ≤ 16
refusal_up_to ParameterList = omega arith
refusal_up_to Spacing = omega arith
refusal_up_to Pasting = omega arith
refusal_up_to Stringizing = omega arith
refusal_up_to VariableArguments = omega arith
refusal_up_to Redefinition = omega arith

named_up_to : (at : Place) (name : Name) (d : Result Macro Refusal) → IsUpTo 16 (with_macro_name at name d)
named_up_to at name (Ok d) = tt
named_up_to at name (Err r) = refusal_up_to r

judged_up_to : (profile : Profile) (macros : Macros) (at : Place) (line : List Token) → IsUpTo 16 (check_define profile macros at line)
judged_up_to profile macros at [] = omega arith
judged_up_to profile macros at (t ∷ ts) =
    let reserved : Result Named Fault = Err (fault 10 at t.text) in
    let malformed : Result Named Fault = check_define profile macros at [] in
    let named : Result Named Fault = with_macro_name at t.text (check_body profile macros t.text (read_definition profile ts)) in
    up_to_either 16 (is_identifier t) (if is_reserved profile t.text then reserved else named) malformed
    (up_to_either 16 (is_reserved profile t.text) reserved named (omega arith) (named_up_to at t.text (check_body profile macros t.text (read_definition profile ts)))) (omega arith)

entered_up_to : (macros : Macros) (r : Result Named Fault) → IsUpTo 16 r → IsUpTo 16 (insert_definition macros r)
entered_up_to macros (Ok n) h = tt
entered_up_to macros (Err f) h = h

undefined_up_to : (profile : Profile) (at : Place) (line : List Token) → IsUpTo 16 (undefined profile at line)
undefined_up_to profile at [] = omega arith
undefined_up_to profile at (t ∷ []) =
    let reserved : Result Name Fault = Err (fault 10 at t.text) in
    let malformed : Result Name Fault = undefined profile at [] in
    up_to_either 16 (is_identifier t) (if is_reserved profile t.text then reserved else Ok t.text) malformed (up_to_either 16 (is_reserved profile t.text) reserved (Ok t.text) (omega arith) tt) (omega arith)
undefined_up_to profile at (t ∷ u ∷ us) = omega arith

taken_out_up_to : (macros : Macros) (r : Result Name Fault) → IsUpTo 16 r → IsUpTo 16 (remove_name macros r)
taken_out_up_to macros (Ok name) h = tt
taken_out_up_to macros (Err f) h = h

pub define_number : (profile : Profile) (macros : Macros) (at : Place) (line : List Token) (f : Fault) → after_define profile macros at line ≡ Err f → f.number ≤ 16
define_number profile macros at line f e = subst (IsUpTo 16) e (entered_up_to macros (check_define profile macros at line) (judged_up_to profile macros at line))

pub undef_number : (profile : Profile) (macros : Macros) (at : Place) (line : List Token) (f : Fault) → after_undef profile macros at line ≡ Err f → f.number ≤ 16
undef_number profile macros at line f e = subst (IsUpTo 16) e (taken_out_up_to macros (undefined profile at line) (undefined_up_to profile at line))
