-- Lists of symbols that are read one after another: vocabulary of the code. No definition rests on this file.
use Rattle.std.specs.Prelude.{List, ◌++◌, Result, Ok, Err}
use Rattle.pptext.specs.declared.tokens.Fault.{Fault}
use Rattle.ppexpr.specs.declared.symbols.Symbol.{Symbol}

-- prepends symbols to a list of symbols; a fault is unchanged
abbrev pub with_prefix : List Symbol → Result (List Symbol) Fault → Result (List Symbol) Fault
with_prefix ss (Ok ts) = Ok (ss ++ ts)
with_prefix ss (Err f) = Err f
