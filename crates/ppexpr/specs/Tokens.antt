-- The symbols of a controlling expression's tokens after macro replacement (6.10.1p4).
use Rattle.std.specs.Prelude.{ℕ, List, [], ◌∷◌, Option, Some, None, Result, Ok, Err, pos, codes, if◌then◌else◌}
use Rattle.std.specs.Str.{bytes_eq}
use Rattle.pptext.specs.declared.tokens.Place.{Place}
use Rattle.pptext.specs.declared.tokens.Kind.{Kind}
use Rattle.pptext.specs.declared.tokens.Kind.TheVariants.{Ident, Number, CharConst, Punct}
use Rattle.pptext.specs.declared.tokens.Token.{Token}
use Rattle.pptext.specs.declared.tokens.Fault.{Fault}
use Rattle.pptext.specs.Tokens.{fault}
use Rattle.ppexpr.specs.declared.symbols.Value.{Value}
use Rattle.ppexpr.specs.declared.symbols.Value.TheVariants.{Signed}
use Rattle.ppexpr.specs.declared.operators.Operator.{Operator as OperatorSign}
use Rattle.ppexpr.specs.declared.symbols.Symbol.{Symbol}
use Rattle.ppexpr.specs.declared.symbols.Symbol.TheVariants.{Constant, Operator, Open, Close, Question, Colon, Other}
use Rattle.ppexpr.specs.Operators.{operator_of}
use Rattle.ppexpr.specs.Integers.{integer_of}
use Rattle.ppexpr.specs.Characters.{character_of}

abbrev pub other_punctuator : List ℕ → Symbol
other_punctuator s =
    if bytes_eq (codes "(") s then Open else (if bytes_eq (codes ")") s then Close else (
    if bytes_eq (codes "?") s then Question else (if bytes_eq (codes ":") s then Colon else Other)))

abbrev pub operator_or : Symbol → Option OperatorSign → Symbol
operator_or s (Some o) = Operator o
operator_or s None = s

-- an operator, or another punctuator
abbrev pub punctuator : List ℕ → Symbol
punctuator s = operator_or (other_punctuator s) (operator_of s)

abbrev pub constant_or : Fault → Option Value → Result Symbol Fault
constant_or f (Some v) = Ok (Constant v)
constant_or f None = Err f

-- an identifier is 0
abbrev pub symbol_by : Place → Kind → List ℕ → Result Symbol Fault
symbol_by at Ident s = Ok (Constant (Signed (pos 0)))
symbol_by at Number s = constant_or (fault 24 at s) (integer_of s)
symbol_by at CharConst s = constant_or (fault 25 at s) (character_of s)
symbol_by at Punct s = Ok (punctuator s)
symbol_by at _ s = Ok Other

abbrev pub symbol_of : Place → Token → Result Symbol Fault
symbol_of at t = symbol_by at t.kind t.text

abbrev pub symbol_then : Result Symbol Fault → Result (List Symbol) Fault → Result (List Symbol) Fault
symbol_then (Ok s) (Ok ss) = Ok (s ∷ ss)
symbol_then (Ok s) (Err f) = Err f
symbol_then (Err f) ss = Err f

-- the symbols, or the first fault from the left; `at` is the location of the directive's `#`
abbrev pub symbols_of : Place → List Token → Result (List Symbol) Fault
symbols_of at [] = Ok []
symbols_of at (t ∷ ts) = symbol_then (symbol_of at t) (symbols_of at ts)
