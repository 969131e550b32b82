-- The condition of an include guard (6.10.1) is false if the guard's name is a macro's.
use Rattle.std.proofs.Common.{◌≡◌, ℕ, zero, suc, pos, Bool, true, false, List, [], ◌∷◌, None, Ok, refl, ap, subst, codes, if◌then◌else◌, is_some, arith}
use Rattle.std.specs.FinMap as table
use Rattle.pptext.specs.declared.tokens.Place.{Place}
use Rattle.pptext.specs.declared.tokens.Token.{Token}
use Rattle.pptext.specs.declared.tokens.Kind.TheVariants.{Ident, Number, Punct}
use Rattle.ppmacro.specs.Names.{Macros}
use Rattle.ppexpand.specs.declared.env.Env.{Env}
use Rattle.ppexpand.specs.declared.meter.Meter.{Meter}
use Rattle.ppexpand.specs.Expansion.{IsExpansion, stops_with}
use Rattle.ppexpand.proofs.SkippedTokens.{expansion-following, expands-nothing}
use Rattle.ppexpr.specs.declared.symbols.Value.TheVariants.{Signed}
use Rattle.ppexpr.specs.declared.operators.Operator.TheVariants.{Bang}
use Rattle.ppexpr.specs.declared.symbols.Symbol.{Symbol}
use Rattle.ppexpr.specs.declared.symbols.Symbol.TheVariants.{Constant, Operator}
use Rattle.ppexpr.specs.declared.operators.Unary.TheVariants.{Not}
use Rattle.ppexpr.specs.Grammar.{Tree, Leaf, Applied, Derives, constant, unary, tighter}
use Rattle.ppexpr.specs.Values.{unary_evaluation, constant_evaluation}
use Rattle.ppexpr.specs.DefinedOperator.{ReplacesDefined, nothing, other, defined_use, defined_value}
use Rattle.ppexpr.specs.Nesting.{IsTooNested}
use Rattle.ppexpr.specs.Conditions.{EvaluatesShallow, has_value, not_nested, constants, IsCondition, replaced}
use Rattle.ppexpr.proofs.ShortExpressions.{few_shallow}

-- ---- `! 1`

abbrev symbols : List Symbol
symbols = Operator Bang ∷ Constant (Signed (pos 1)) ∷ []

tree : Tree
tree = Applied Not (Leaf (Signed (pos 1)))

-- an expression of any level is an expression
loosest : {s : List Symbol} {t : Tree} (k : ℕ) → Derives k s t → Derives 0 s t
loosest zero d = d
loosest (suc k) d = loosest k (tighter {k = k} d)

shallow : ¬ IsTooNested symbols
shallow = few_shallow symbols (omega arith)

is_false : (at : Place) → EvaluatesShallow at symbols (Ok false)
unfolding tree unary_evaluation constant_evaluation
is_false at = has_value (tree, loosest 12 (unary Bang Not refl (tighter {k = 12} (constant (Signed (pos 1))))), refl)

-- ---- the tokens

-- a punctuator with this spelling, `defined`, and an identifier, at the location of the given token
abbrev pub punctuator : List ℕ → Token → Token
punctuator text t = record t { kind = Punct; text = text }

abbrev pub as_defined : Token → Token
as_defined t = record t { kind = Ident; text = codes "defined" }

abbrev pub as_name : Token → Token
as_name t = record t { kind = Ident }

abbrev as_one : Token → Token
as_one t = record t { kind = Number; text = codes "1" }

abbrev not_one : Token → Token → List Token
not_one n f = punctuator (codes "!") n ∷ as_one f ∷ []

not_one_expands : (macros : Macros) (env : Env) (meter : Meter) (n f : Token)
    → IsExpansion macros env meter (not_one n f) (record { tokens = not_one n f; fault = None; meter = meter })
not_one_expands macros env meter n f =
    expansion-following macros env meter (not_one n f) (not_one n f) [] (record { tokens = not_one n f; fault = None; meter = meter })
    (stops_with meter None) refl (refl, (refl, tt)) (expands-nothing macros env 0 meter) refl refl refl

defined_false : (macros : Macros) (env : Env) (at : Place) (tokens : List Token) (meter : Meter) (n f x : Token)
    → is_some (table.get macros x.text) ≡ true
    → ReplacesDefined macros tokens (punctuator (codes "!") n ∷ defined_value macros (as_defined f) (as_name x) ∷ [])
    → IsCondition macros env at tokens meter (Ok false) meter
defined_false macros env at tokens meter n f x known replaces =
    let one = ap (λ (b : Bool). punctuator (codes "!") n ∷ record f { kind = Number; text = if b then codes "1" else codes "0" } ∷ []) known in
    replaced (subst (ReplacesDefined macros tokens) one replaces) (not_one_expands macros env meter n f) refl (constants refl refl (not_nested shallow (is_false at)))

-- ---- `! defined X` and `! defined ( X )`

pub bare_false : (macros : Macros) (env : Env) (at : Place) (meter : Meter) (n f x : Token)
    → is_some (table.get macros x.text) ≡ true
    → IsCondition macros env at (punctuator (codes "!") n ∷ as_defined f ∷ as_name x ∷ []) meter (Ok false) meter
bare_false macros env at meter n f x known = defined_false macros env at _ meter n f x known (other refl (defined_use refl refl nothing))

pub parenthesized_false : (macros : Macros) (env : Env) (at : Place) (meter : Meter) (n f l x r : Token)
    → is_some (table.get macros x.text) ≡ true
    → IsCondition macros env at (punctuator (codes "!") n ∷ as_defined f ∷ punctuator (codes "(") l ∷ as_name x ∷ punctuator (codes ")") r ∷ []) meter (Ok false) meter
parenthesized_false macros env at meter n f l x r known = defined_false macros env at _ meter n f x known (other refl (defined_use refl refl nothing))
