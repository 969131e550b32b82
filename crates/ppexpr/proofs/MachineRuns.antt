-- A run of the parser's stack machine over a list of symbols.
use Rattle.std.specs.Prelude.{List, [], ◌∷◌, Option, option_and_then}
use Rattle.ppexpr.specs.declared.symbols.Symbol.{Symbol}
use Rattle.ppexpr.specs.code.Pending.{Meaning, State, step, finish}

abbrev pub run : {A : Type 0} → Meaning A → State A → List Symbol → Option A
run m s [] = finish m s
run m s (x ∷ xs) = option_and_then (λ r. run m r xs) (step m s x)
