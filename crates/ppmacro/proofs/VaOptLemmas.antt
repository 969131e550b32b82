-- Replacement lists with `__VA_OPT__`, and those without.
use Rattle.std.proofs.Common.{◌≡◌, true, false, ◌&&◌, List, Option, Some, None, is_some, refl, ap, if◌then◌else◌}
use Rattle.std.specs.List.{list_any}
use Rattle.pptext.specs.declared.tokens.Token.{Token}
use Rattle.ppmacro.specs.Chains.{is_function_like, lenient_parameter, chains_of}
use Rattle.ppmacro.specs.PasteFree.{is_object_like}
use Rattle.ppmacro.specs.VaOpt.{Separated, is_va_opt, separate, separated}
use Rattle.ppmacro.specs.VaOptChains.{Ordinary, WithVaOpt, va_opt_chains, chains_if, list_chains}
use Rattle.ppmacro.specs.declared.va_opt.Position.TheVariants.{Outside}
use Rattle.ppmacro.specs.declared.macros.MacroKind.{MacroKind}
use Rattle.ppmacro.specs.declared.macros.MacroKind.TheVariants.{Predefined, Counter, ObjectLike, FunctionLike}
use Rattle.ppmacro.specs.declared.macros.Macro.{Macro}

abbrev separated-by : MacroKind → List Token → Option Separated
separated-by kind body = if is_some (lenient_parameter kind) && list_any is_va_opt body then separate Outside body else None

unparameterized : (kind : MacroKind) (body : List Token) → is_function_like kind ≡ false → separated-by kind body ≡ None
unparameterized (Predefined p) body h = refl
unparameterized Counter body h = refl
unparameterized ObjectLike body h = refl
unparameterized (FunctionLike names variadic) body h = absurd (cc h)

-- Only function-like macros have `__VA_OPT__`.
pub function-like-alone : (d : Macro) → is_function_like d.kind ≡ false → separated d ≡ None
function-like-alone d h = unparameterized d.kind d.body h

no-function : (kind : MacroKind) → is_object_like kind ≡ true → is_function_like kind ≡ false
no-function (Predefined p) h = refl
no-function Counter h = refl
no-function ObjectLike h = refl
no-function (FunctionLike names variadic) h = absurd (cc h)

pub plain-list : (d : Macro) → separated d ≡ None → list_chains d ≡ Ordinary (chains_of d)
plain-list d h = ap (chains_if d) h

-- The chains of an object-like macro.
pub object-list : (d : Macro) → is_object_like d.kind ≡ true → list_chains d ≡ Ordinary (chains_of d)
object-list d h = plain-list d (function-like-alone d (no-function d.kind h))

pub va-opt-list : (d : Macro) (s : Separated) → separated d ≡ Some s → list_chains d ≡ WithVaOpt (va_opt_chains d s)
va-opt-list d s h = ap (chains_if d) h

not-object : (kind : MacroKind) (body : List Token) (s : Separated) → separated-by kind body ≡ Some s → is_object_like kind ≡ false
not-object (Predefined p) body s h = refl
not-object Counter body s h = refl
not-object ObjectLike body s h = absurd (cc h)
not-object (FunctionLike names variadic) body s h = refl

-- A macro with `__VA_OPT__` isn't object-like.
pub va-opt-function : (d : Macro) (s : Separated) → separated d ≡ Some s → is_object_like d.kind ≡ false
va-opt-function d s h = not-object d.kind d.body s h
