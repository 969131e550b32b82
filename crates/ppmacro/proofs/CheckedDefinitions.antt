-- A definition that was read is refused with the number of a fault, or accepted.
use Rattle.std.proofs.Common.{◌≡◌, ◌∙◌, ℕ, Option, Some, None, Result, Ok, Err, option_map, refl, ap, sym}
use Rattle.pptext.specs.declared.sources.Profile.{Profile}
use Rattle.pptext.specs.declared.tokens.Place.{Place}
use Rattle.pptext.specs.declared.tokens.Fault.{Fault}
use Rattle.pptext.specs.Tokens.{fault}
use Rattle.ppmacro.specs.Names.{Name, Macros}
use Rattle.ppmacro.specs.declared.macros.Macro.{Macro}
use Rattle.ppmacro.specs.Define.{Named, Refusal, refusal_of, unless_refused, check_body, number_of, with_macro_name}

abbrev named : Name → Macro → Result Named Fault
named name d = Ok (record { name = name; definition = d })

same_named : (n m : Named) → ◌≡◌ {A = Result Named Fault} (Ok n) (Ok m) → n ≡ m
same_named n m is = cc is

read : (at : Place) (name : Name) (r : Result Macro Refusal) (d : Macro) → named name d ≡ with_macro_name at name r → r ≡ Ok d
read at name (Ok e) d is = ap Ok (sym (ap (λ n. n.definition) (same_named (record { name = name; definition = d }) (record { name = name; definition = e }) is)))
read at name (Err x) d is = absurd (cc is)

refused : (at : Place) (name : Name) (o : Option Refusal) (n : ℕ) (d : Macro) → option_map number_of o ≡ Some n → Err (fault n at name) ≡ with_macro_name at name (unless_refused o d)
refused at name None n d is = absurd (cc is)
refused at name (Some r) n d is = let same : n ≡ number_of r = cc is in ap (λ n. Err (fault n at name)) same

accepted : (at : Place) (name : Name) (o : Option Refusal) (d : Macro) → option_map number_of o ≡ None → named name d ≡ with_macro_name at name (unless_refused o d)
accepted at name None d is = refl
accepted at name (Some r) d is = absurd (cc is)

module _ (profile : Profile) (macros : Macros) (at : Place) (name : Name) (r : Result Macro Refusal) (d : Macro) (is : named name d ≡ with_macro_name at name r) where
  checks : with_macro_name at name (unless_refused (refusal_of profile macros name d) d) ≡ with_macro_name at name (check_body profile macros name r)
  checks = ap (λ r. with_macro_name at name (check_body profile macros name r)) (sym (read at name r d is))

  pub body_refused : (n : ℕ) → option_map number_of (refusal_of profile macros name d) ≡ Some n → Err (fault n at name) ≡ with_macro_name at name (check_body profile macros name r)
  body_refused n h = refused at name (refusal_of profile macros name d) n d h ∙ checks

  pub body_accepted : option_map number_of (refusal_of profile macros name d) ≡ None → named name d ≡ with_macro_name at name (check_body profile macros name r)
  body_accepted h = accepted at name (refusal_of profile macros name d) d h ∙ checks
