-- Expressions that are nested too deep: by the depth of parentheses, the number of conditional operators, or consecutive signs.
use Rattle.std.specs.Prelude.{ℕ, ◌+◌, ◌<◌, ◌⊎◌, Bool, true, false, is_some, List, take, count_by}
use Rattle.std.specs.List.{suffix_len}
use Rattle.ppexpr.specs.declared.symbols.Symbol.{Symbol}
use Rattle.ppexpr.specs.declared.symbols.Symbol.TheVariants.{Operator, Open, Close, Question}
use Rattle.ppexpr.specs.Operators.{unary_of}

abbrev pub is_open : Symbol → Bool
is_open Open = true
is_open _ = false

abbrev pub is_close : Symbol → Bool
is_close Close = true
is_close _ = false

abbrev pub is_question : Symbol → Bool
is_question Question = true
is_question _ = false

-- `+ - ~ !`, before an operand or not
abbrev pub is_sign : Symbol → Bool
is_sign (Operator o) = is_some (unary_of o)
is_sign _ = false

abbrev pub most_levels : ℕ
most_levels = 256

-- some prefix of the list has too many more `(` than `)`
abbrev pub NestsParentheses : List Symbol → Type 0
NestsParentheses s = (k : ℕ) × (count_by is_close (take k s) + most_levels < count_by is_open (take k s))

-- some prefix of the list ends in too many signs
abbrev pub NestsSigns : List Symbol → Type 0
NestsSigns s = (k : ℕ) × (most_levels < suffix_len is_sign (take k s))

abbrev pub IsTooNested : List Symbol → Type 0
IsTooNested s = NestsParentheses s ⊎ ((most_levels < count_by is_question s) ⊎ NestsSigns s)
