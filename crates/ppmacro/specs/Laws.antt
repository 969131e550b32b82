-- The syntax of parameter lists, replacement lists and `__VA_OPT__`, by induction. Which chains have a variable argument after a comma.
use Rattle.std.specs.Prelude.{◌≡◌, ℕ, Bool, true, false, not, ◌&&◌, List, [], ◌∷◌, ◌++◌, Some, None, codes}
use Rattle.std.specs.List.{list_any}
use Rattle.pptext.specs.declared.tokens.Token.{Token}
use Rattle.pptext.specs.declared.sources.Profile.{Profile}
use Rattle.pptext.specs.Profiles.{is_gnu}
use Rattle.pptext.specs.Tokens.{is_identifier, is_punct}
use Rattle.ppmacro.specs.Names.{Name}
use Rattle.ppmacro.specs.HashOperators.{is_paste}
use Rattle.ppmacro.specs.ParsedParameters.{ParsedParameters}
use Rattle.ppmacro.specs.Chains.{parameter_of, is_function_like, is_operator_hash, lenient_parameter, with_variadic}
use Rattle.ppmacro.specs.Define.{misplaces_paste, misplaces_hash}
use Rattle.ppmacro.specs.VaOpt.{Separated, is_va_opt}
use Rattle.ppmacro.specs.declared.defining.parameter_lists.Ending.{Ending}
use Rattle.ppmacro.specs.declared.defining.parameter_lists.Ending.TheVariants.{NoEllipsis, Ellipsis, NamedEllipsis}
use Rattle.ppmacro.specs.declared.macros.MacroKind.{MacroKind}
use Rattle.ppmacro.specs.declared.macros.Macro.{Macro}
use Rattle.ppmacro.specs.declared.macros.Chain.{Chain}
use Rattle.ppmacro.specs.declared.macros.Operand.{Operand}
use Rattle.ppmacro.specs.declared.macros.Operand.TheVariants.{Tok, Param, Str, VariadicAfterComma}

-- ---- the parameter list (6.10p1, 6.10.3p10)

-- Names with commas between them.
pub data IdentifierList : List Token → List Name → Type 0 where
  one : {t : Token}
      → is_identifier t ≡ true
      → IdentifierList (t ∷ []) (t.text ∷ [])
  more : {t comma : Token} {ts : List Token} {names : List Name}
      → is_identifier t ≡ true
      → is_punct (codes ",") comma ≡ true
      → IdentifierList ts names
      → IdentifierList (t ∷ (comma ∷ ts)) (t.text ∷ names)

-- What may be between the parentheses, with its names and how it ends.
pub data Parameters (profile : Profile) : List Token → List Name → Ending → Type 0 where
  nothing : Parameters profile [] [] NoEllipsis
  names : {ts : List Token} {ns : List Name}
      → IdentifierList ts ns
      → Parameters profile ts ns NoEllipsis
  ellipsis : {t : Token}
      → is_punct (codes "...") t ≡ true
      → Parameters profile (t ∷ []) [] Ellipsis
  names_and_ellipsis : (ts : List Token) (comma t : Token) {ns : List Name}
      → IdentifierList ts ns
      → is_punct (codes ",") comma ≡ true
      → is_punct (codes "...") t ≡ true
      → Parameters profile (ts ++ comma ∷ (t ∷ [])) ns Ellipsis
  -- In GNU C only.
  names_with_ellipsis : (ts : List Token) (t : Token) {ns : List Name}
      → is_gnu profile ≡ true
      → IdentifierList ts ns
      → is_punct (codes "...") t ≡ true
      → Parameters profile (ts ++ t ∷ []) ns NamedEllipsis

-- A line after `(`: the parameters, `)` and the replacement list.
pub record IsParameterList (profile : Profile) (line : List Token) (parsed : ParsedParameters) : Type 0 where
  pub inside : List Token
  pub close : Token
  pub laid_out : line ≡ inside ++ close ∷ parsed.body
  pub closes : is_punct (codes ")") close ≡ true
  pub parameters : Parameters profile inside parsed.names parsed.ending

-- ---- the replacement list (6.10.3.2, 6.10.3.3)

-- Tokens that are one operand, with the leading-space flag of the first.
pub data IsOperand (kind : MacroKind) : Bool → List Token → Operand → Type 0 where
  token : {t : Token}
      → is_paste t ≡ false
      → is_operator_hash kind t ≡ false
      → parameter_of kind t ≡ None
      → IsOperand kind t.space (t ∷ []) (Tok t)
  parameter : {t : Token} {i : ℕ}
      → parameter_of kind t ≡ Some i
      → IsOperand kind t.space (t ∷ []) (Param i)
  stringized : {hash t : Token} {i : ℕ}
      → is_operator_hash kind hash ≡ true
      → parameter_of kind t ≡ Some i
      → IsOperand kind hash.space (hash ∷ (t ∷ [])) (Str i hash.at)

-- Tokens that are operands with `##` between them, with the leading-space flag of the first.
pub data AreJoined (kind : MacroKind) : Bool → List Token → List Operand → Type 0 where
  last : {space : Bool} {ts : List Token} {o : Operand}
      → IsOperand kind space ts o
      → AreJoined kind space ts (o ∷ [])
  pasted : {space : Bool} {o : Operand} {os : List Operand} (ts : List Token) (paste : Token) (rest : List Token) (other : Bool)
      → IsOperand kind space ts o
      → is_paste paste ≡ true
      → AreJoined kind other rest os
      → AreJoined kind space (ts ++ paste ∷ rest) (o ∷ os)

-- Tokens that are chains, laid end to end. The last operand of a chain may be a variable argument after a comma.
pub data AreChains (kind : MacroKind) : List Token → List Chain → Type 0 where
  none : AreChains kind [] []
  chain : {space : Bool} {os : List Operand} {cs : List Chain} (ts rest : List Token)
      → AreJoined kind space ts os
      → AreChains kind rest cs
      → AreChains kind (ts ++ rest) (with_variadic (lenient_parameter kind) (record { space = space; operands = os }) ∷ cs)

-- `##` and `#` are in valid positions (6.10.3.2p1, 6.10.3.3p1, p3).
abbrev pub has_valid_operators : Macro → Bool
has_valid_operators d = not (misplaces_paste true d.body) && not (is_function_like d.kind && misplaces_hash d.kind d.body)

-- ---- `__VA_OPT__` in a replacement list (C23, 6.10.5.1)

-- What may be between the parentheses after `__VA_OPT__`: tokens that aren't `__VA_OPT__`, with matching parentheses.
pub data IsContent : List Token → Type 0 where
  empty : IsContent []
  other : {t : Token} {ts : List Token}
      → is_va_opt t ≡ false
      → is_punct (codes "(") t ≡ false
      → is_punct (codes ")") t ≡ false
      → IsContent ts
      → IsContent (t ∷ ts)
  parenthesized : (opening : Token) (inner : List Token) (closing : Token) (ts : List Token)
      → is_punct (codes "(") opening ≡ true
      → IsContent inner
      → is_punct (codes ")") closing ≡ true
      → IsContent ts
      → IsContent (opening ∷ (inner ++ closing ∷ ts))

-- Tokens in which each `__VA_OPT__` has a content: what is left without the contents and their parentheses, and the contents.
pub data WithContents : List Token → Separated → Type 0 where
  no_tokens : WithContents [] (record { outside = []; contents = [] })
  ordinary : {t : Token} {ts : List Token} {s : Separated}
      → is_va_opt t ≡ false
      → WithContents ts s
      → WithContents (t ∷ ts) (record { outside = t ∷ s.outside; contents = s.contents })
  with_content : (name opening : Token) (content : List Token) (closing : Token) (ts : List Token) {s : Separated}
      → is_va_opt name ≡ true
      → is_punct (codes "(") opening ≡ true
      → IsContent content
      → is_punct (codes ")") closing ≡ true
      → WithContents ts s
      → WithContents (name ∷ (opening ∷ (content ++ closing ∷ ts))) (record { outside = name ∷ s.outside; contents = content ∷ s.contents })

-- ---- variable arguments that may be absent (gcc's manual, "Variadic Macros")

abbrev pub is_variadic : Operand → Bool
is_variadic (VariadicAfterComma i) = true
is_variadic _ = false

abbrev pub holds_variadic : Chain → Bool
holds_variadic c = list_any is_variadic c.operands
