-- Parts of lists of tokens with hide sets: vocabulary of the code. No definition rests on this file.
use Rattle.std.specs.Prelude.{◌≡◌, ℕ, Bool, true, false, not, ◌&&◌, List, [], ◌∷◌, ◌++◌, map, Option, None, Some, is_some}
use Rattle.std.specs.List.{AllByRecursion}
use Rattle.pptext.specs.declared.tokens.Place.{Place}
use Rattle.pptext.specs.declared.tokens.Token.{Token}
use Rattle.pptext.specs.Tokens.{is_unmatched_quote}
use Rattle.ppmacro.specs.Names.{Macros}
use Rattle.ppmacro.specs.Chains.{chains_of}
use Rattle.ppmacro.specs.PasteFree.{lone_chain, lone_tokens}
use Rattle.ppmacro.specs.declared.hidden_token.Hidden.{Hidden}
use Rattle.ppmacro.specs.declared.macros.Macro.{Macro}
use Rattle.ppexpand.specs.ExpansionStep.{macro_of}

-- a token of a file with the number of a hide set
abbrev pub with_set : ℕ → Token → Hidden
with_set hide t = record { token = t; hide = hide; extra = None }

-- the first token gets the leading-space flag, if the flag is set
abbrev pub spaced : Bool → List Hidden → List Hidden
spaced true (h ∷ hs) = record h { token = record h.token { space = true } } ∷ hs
spaced true [] = []
spaced false hs = hs

-- a token that is emitted unchanged, whatever its hide set is
abbrev pub never_expands : Macros → Token → Bool
never_expands macros t = not (is_unmatched_quote t) && not (is_some (macro_of macros t))

-- each token is emitted unchanged
pub record NeverExpand (macros : Macros) (hs : List Hidden) : Type 0 where
  pub each : AllByRecursion (λ h. never_expands macros h.token ≡ true) hs

-- the macro that the next token names
abbrev pub next_macro : Macros → List Token → Option Macro
next_macro macros [] = None
next_macro macros (t ∷ ts) = macro_of macros t

-- a token of a replacement list with the number of a hide set and with an expansion location
abbrev pub placed : ℕ → Place → Token → Hidden
placed hide used t = record { token = record t { used = used }; hide = hide; extra = None }

-- a list after its first token, which is dropped, was replaced by tokens without `##`: `space` is the leading-space flag of the dropped token
abbrev pub lone_replaced : ℕ → Place → Bool → List Token → List Hidden → List Hidden
lone_replaced hide used space [] rest = spaced space rest
lone_replaced hide used space (t ∷ ts) rest = placed hide used (record t { space = space }) ∷ map (placed hide used) ts ++ rest

-- the next token names an object-like macro without `##` that has this replacement list
pub record NamesLone (macros : Macros) (list : List Token) (body : List Token) : Type 0 where
  pub macro : Macro
  pub named : next_macro macros list ≡ Some macro
  pub lone : lone_tokens macro ≡ Some body
  pub chains : chains_of macro ≡ map lone_chain body
