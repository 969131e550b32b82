-- An unmatched quote (6.4p3): fault 7, before any other fault of a directive line.
use Rattle.std.specs.Prelude.{List, [], ◌∷◌, if◌then◌else◌, Option, None, Some}
use Rattle.pptext.specs.declared.tokens.Token.{Token}
use Rattle.pptext.specs.declared.tokens.Fault.{Fault}
use Rattle.pptext.specs.Tokens.{is_unmatched_quote, fault}

-- the fault of the first unmatched quote
abbrev pub unmatched_quote : List Token → Option Fault
unmatched_quote [] = None
unmatched_quote (t ∷ ts) = if is_unmatched_quote t then Some (fault 7 t.at t.text) else unmatched_quote ts
