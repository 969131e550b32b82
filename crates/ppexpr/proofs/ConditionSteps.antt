-- The steps that evaluate a condition.
use Rattle.std.proofs.Common.{◌≡◌, List, Option, Some, MatchOption}
use Rattle.pptext.specs.declared.tokens.Place.{Place}
use Rattle.ppexpr.specs.declared.symbols.Evaluation.{Evaluation}
use Rattle.ppexpr.specs.declared.symbols.Symbol.{Symbol}
use Rattle.ppexpr.specs.Grammar.{IsExpression}
use Rattle.ppexpr.specs.Values.{Denotes}
use Rattle.ppexpr.specs.Conditions.{Condition, taken, EvaluatesShallow, has_value}

-- the parser's result: `None` if the symbols are no expression, and otherwise what they evaluate to
abbrev pub Parsed : List Symbol → Option Evaluation → Type 0
Parsed symbols r = MatchOption r (¬ IsExpression symbols) (Denotes symbols)

pub evaluates_some : (at : Place) (symbols : List Symbol) (r : Option Evaluation) (o : Evaluation) (c : Condition)
    → r ≡ Some o
    → c ≡ taken at o.value
    → Parsed symbols r
    → EvaluatesShallow at symbols c
evaluates_some at symbols r o c e is h = rw is (has_value (rw e at h))
