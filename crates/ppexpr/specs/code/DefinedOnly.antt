-- Conditions with `defined` alone: lists of tokens with a truth value. No macro is replaced there, and each token has a symbol as it is.
-- Vocabulary of the code: no definition rests on this file.
use Rattle.std.specs.Prelude.{◌≡◌, true, false, List, [], ◌∷◌, Some, Ok, is_some, ℕ, ◌<◌, Bool, ◌++◌, length}
use Rattle.std.specs.FinMap as table
use Rattle.pptext.specs.declared.tokens.Place.{Place}
use Rattle.pptext.specs.declared.tokens.Token.{Token}
use Rattle.ppmacro.specs.Names.{Macros}
use Rattle.ppexpand.specs.code.Lists.{never_expands}
use Rattle.ppexpr.specs.declared.symbols.Symbol.{Symbol}
use Rattle.ppexpr.specs.declared.symbols.Symbol.TheVariants.{Constant}
use Rattle.ppexpr.specs.Values.{truth, constant_evaluation, evaluation_of}
use Rattle.ppexpr.specs.DefinedOperator.{is_defined, Operand, operand}
use Rattle.ppexpr.specs.Tokens.{symbol_of}
use Rattle.pptext.specs.Tokens.{is_punct}
use Rattle.ppexpr.specs.Grammar.{Tree, Derives}
use Rattle.ppexpr.specs.Conditions.{EvaluatesSymbols}

-- ---- tokens as symbols

-- a token that no macro replaces has this symbol
pub record Represents (macros : Macros) (t : Token) (s : Symbol) : Type 0 where
  pub unexpanded : never_expands macros t ≡ true
  pub symbol : (at : Place) → symbol_of at t ≡ Ok s

-- a list begins with the tokens of this symbol, and the rest follows
pub data BeginsWith (macros : Macros) : List Token → Symbol → List Token → Type 0 where
  token : {t : Token} {ts : List Token} {s : Symbol} → is_defined t ≡ false → Represents macros t s → BeginsWith macros (t ∷ ts) s ts
  defined_use : {d : Token} {ts : List Token} {o : Operand}
      → is_defined d ≡ true
      → operand ts ≡ Some o
      → BeginsWith macros (d ∷ ts) (Constant (truth (is_some (table.get macros o.name.text)))) o.rest

-- a list has these symbols
pub data AllRepresent (macros : Macros) : List Token → List Symbol → Type 0 where
  nothing : AllRepresent macros [] []
  more : {ts rest : List Token} {s : Symbol} {ss : List Symbol} → BeginsWith macros ts s rest → AllRepresent macros rest ss → AllRepresent macros ts (s ∷ ss)

-- ---- truth values

-- a list begins with a punctuator of this spelling, and the rest follows
pub record BeginsPunct (text : List ℕ) (ts rest : List Token) : Type 0 where
  pub punctuator : Token
  pub is : ts ≡ punctuator ∷ rest
  pub spelled : is_punct text punctuator ≡ true

-- a list begins with an expression of this level that has this truth value, and the rest follows
pub record BeginsTruth (macros : Macros) (level : ℕ) (ts : List Token) (holds : Bool) (rest : List Token) : Type 0 where
  pub symbols : List Symbol
  pub tree : Tree
  pub onward : (ss : List Symbol) → AllRepresent macros rest ss → AllRepresent macros ts (symbols ++ ss)
  pub derives : Derives level symbols tree
  pub value : evaluation_of tree ≡ constant_evaluation (truth holds)
  pub shorter : length rest < length ts

-- the symbols of a list are an expression with this truth value
pub record HasTruth (macros : Macros) (ts : List Token) (holds : Bool) : Type 0 where
  pub symbols : List Symbol
  pub represents : AllRepresent macros ts symbols
  pub evaluated : (at : Place) → EvaluatesSymbols at symbols (Ok holds)
