-- `__VA_OPT__` in a replacement list (C23, 6.10.5.1). Only GNU C has it.
use Rattle.std.specs.Prelude.{ℕ, zero, suc, Bool, ◌&&◌, List, [], ◌∷◌, Option, Some, None, is_some, codes, if◌then◌else◌}
use Rattle.std.specs.List.{list_any}
use Rattle.std.specs.Option.{option_map}
use Rattle.pptext.specs.declared.tokens.Token.{Token}
use Rattle.pptext.specs.Tokens.{is_identifier_named, is_punct}
use Rattle.ppmacro.specs.Chains.{lenient_parameter}
use Rattle.ppmacro.specs.declared.macros.Macro.{Macro}
use Rattle.ppmacro.specs.declared.va_opt.Position.{Position}
use Rattle.ppmacro.specs.declared.va_opt.Position.TheVariants.{Outside, AfterName, Inside}

abbrev pub is_va_opt : Token → Bool
is_va_opt t = is_identifier_named (codes "__VA_OPT__") t

-- A replacement list whose contents are taken out. The content of a `__VA_OPT__` is what is between the `(` after it and the matching `)`. The
-- two parentheses are dropped, so that `__VA_OPT__` alone is left outside.
pub record Separated : Type 0 where
  pub outside : List Token
  pub contents : List (List Token)

-- The position after a `)` of a content.
abbrev pub closed : ℕ → Position
closed zero = Outside
closed (suc depth) = Inside depth

-- The position after a token, or `None` if it can't be at its position: there is no `(` after a `__VA_OPT__`, or a `__VA_OPT__` is in a content.
abbrev pub after : Position → Token → Option Position
after Outside t = Some (if is_va_opt t then AfterName else Outside)
after AfterName t = if is_punct (codes "(") t then Some (Inside 0) else None
after (Inside depth) t =
    if is_va_opt t then None else (
    if is_punct (codes "(") t then Some (Inside (suc depth)) else (
    if is_punct (codes ")") t then Some (closed depth) else Some (Inside depth)))

-- Prepends a token to the first content.
abbrev pub put_first : Token → List (List Token) → List (List Token)
put_first t [] = []
put_first t (c ∷ cs) = (t ∷ c) ∷ cs

-- Puts a token of a content, or the `)` at its end, before what follows. The second position is that after the token.
abbrev pub put_inside : Token → Position → Separated → Separated
put_inside t Outside s = record s { contents = [] ∷ s.contents }
put_inside t _ s = record s { contents = put_first t s.contents }

-- Puts a token before what follows. The positions are those before and after the token.
abbrev pub put : Token → Position → Position → Separated → Separated
put t Outside next s = record s { outside = t ∷ s.outside }
put t AfterName next s = s
put t (Inside depth) next s = put_inside t next s

-- The rest of a replacement list from this position on, or `None` if a `__VA_OPT__` has no content or is in one.
abbrev pub separate : Position → List Token → Option Separated
separate position (t ∷ ts) = elim (after position t) [ Some next ↦ option_map (put t position next) (separate next ts) | None ↦ None ]
separate Outside [] = Some (record { outside = []; contents = [] })
separate _ [] = None

-- The replacement list of a macro that has `__VA_OPT__`. Its variable argument may be absent, as every variable argument in GNU C.
abbrev pub separated : Macro → Option Separated
separated d = if is_some (lenient_parameter d.kind) && list_any is_va_opt d.body then separate Outside d.body else None
