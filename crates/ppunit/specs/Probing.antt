-- `__has_include` and `__has_include_next` in the operands of `#if` and `#elif` (gcc's manual, "__has_include"): a step before the condition.
use Rattle.std.specs.Prelude.{◌≡◌, ℕ, zero, suc, Bool, true, false, ◌||◌, ◌&&◌, List, [], ◌∷◌, drop, take, position, codes, if◌then◌else◌, Option, None, Some, Result, Ok, Err}
use Rattle.std.specs.List.{list_any}
use Rattle.std.specs.Option.{option_map}
use Rattle.std.specs.Str.{bytes_eq}
use Rattle.pptext.specs.declared.tokens.Token.{Token}
use Rattle.pptext.specs.declared.tokens.Fault.{Fault}
use Rattle.pptext.specs.declared.tokens.Kind.TheVariants.{Number}
use Rattle.pptext.specs.Profiles.{is_gnu}
use Rattle.pptext.specs.Tokens.{is_identifier_named, is_punct}
use Rattle.ppexpand.specs.declared.meter.Meter.{Meter}
use Rattle.ppshelf.specs.Search.{Candidate}
use Rattle.ppunit.specs.States.{Search, State, with_meter}
use Rattle.ppunit.specs.DirectiveLines.{operands, line_fault}
use Rattle.ppunit.specs.Including.{IncludeName, name_of_expansion}
use Rattle.ppunit.specs.Directives.{NamesHeaderBy, candidates_for}

abbrev pub is_has_include_next : Token → Bool
is_has_include_next t = is_identifier_named (codes "__has_include_next") t

-- `__has_include` or `__has_include_next`
abbrev pub is_operator : Token → Bool
is_operator t = is_identifier_named (codes "__has_include") t || is_has_include_next t

-- the first token is this punctuator
abbrev pub begins_with : List ℕ → List Token → Bool
begins_with text [] = false
begins_with text (t ∷ ts) = is_punct text t

-- a token is one of the operators, and the tokens after it begin with `(`; otherwise it is an ordinary token
abbrev pub applies : Token → List Token → Bool
applies t ts = begins_with (codes "(") ts && is_operator t

-- ---- the operand

-- the index of the first `)`
abbrev pub first_close : List Token → Option ℕ
first_close ts = position (λ t. is_punct (codes ")") t) ts

abbrev pub one_less : ℕ → Option ℕ
one_less zero = None
one_less (suc depth) = Some depth

-- the number of open parentheses after a token; none if it closes the one before all of them
abbrev pub depth_after : ℕ → Token → Option ℕ
depth_after depth t = if is_punct (codes "(") t then Some (suc depth) else (if is_punct (codes ")") t then one_less depth else Some depth)

-- the index of the `)` that matches a `(` before the tokens, inside `depth` more parentheses
abbrev pub matching_close : ℕ → List Token → Option ℕ
matching_close depth [] = None
matching_close depth (t ∷ ts) = elim (depth_after depth t) [ None ↦ Some 0 | Some inside ↦ option_map suc (matching_close inside ts) ]

-- the index of the `)` after the operand: the first one if the operand begins with `<`, otherwise the matching one
abbrev pub operand_end : List Token → Option ℕ
operand_end ts = if begins_with (codes "<") ts then first_close ts else matching_close 0 ts

-- the header that an operand in a line names; macros are replaced in it, unless it begins with `<`
abbrev pub NamesOperand : State → (line operand : List Token) → Meter → Result IncludeName Fault → Type 0
NamesOperand s line operand meter_after include_name =
    NamesHeaderBy (begins_with (codes "<") operand) (name_of_expansion operand) s line operand meter_after include_name

-- ---- the number

-- one of the candidates is among the file names
abbrev pub is_found : List (List ℕ) → List Candidate → Bool
is_found names candidates = list_any (λ c. list_any (bytes_eq c.name) names) candidates

-- `__has_include_next` asks for the directories after that of the current file, as `#include_next`
abbrev pub directory_before : Token → Option ℕ → Option ℕ
directory_before t directory = if is_has_include_next t then directory else None

-- whether an include line with this header in the file at index `row` finds a file; the file isn't opened
abbrev pub has_file : Search → ℕ → Option ℕ → IncludeName → Bool
has_file search row previous_directory a = is_found search.names (candidates_for search row previous_directory a)

-- the number that replaces an operator and its operand
abbrev pub number_for : Token → Bool → Token
number_for operator found = record operator { kind = Number; text = if found then codes "1" else codes "0" }

-- ---- the tokens

abbrev pub after_first : Token → Result (List Token) Fault → Result (List Token) Fault
after_first t (Err f) = Err f
after_first t (Ok ts) = Ok (t ∷ ts)

-- The tokens of a line of the file at index `row` with a number for each operator and its operand, from the left, or the
-- first fault, and the meter after it.
pub data Probes (search : Search) (row : ℕ) (line : List Token) : State → List Token → Meter → Result (List Token) Fault → Type 0 where
  no_tokens : {s : State} → Probes search row line s [] s.meter (Ok [])
  other : {s : State} {t : Token} {ts : List Token} {meter_after : Meter} {tokens : Result (List Token) Fault}
      → applies t ts ≡ false
      → Probes search row line s ts meter_after tokens
      → Probes search row line s (t ∷ ts) meter_after (after_first t tokens)
  unclosed : {s : State} {t : Token} {ts : List Token}
      → applies t ts ≡ true
      → operand_end (drop 1 ts) ≡ None
      → Probes search row line s (t ∷ ts) s.meter (Err (line_fault 30 line []))
  operand_fault : {s : State} {t : Token} {ts : List Token} {end : ℕ} {meter_after : Meter} {f : Fault}
      → applies t ts ≡ true
      → operand_end (drop 1 ts) ≡ Some end
      → NamesOperand s line (take end (drop 1 ts)) meter_after (Err f)
      → Probes search row line s (t ∷ ts) meter_after (Err f)
  operator : {s : State} {t : Token} {ts : List Token} {end : ℕ} {meter_between meter_after : Meter} {tokens : Result (List Token) Fault} (a : IncludeName)
      → applies t ts ≡ true
      → operand_end (drop 1 ts) ≡ Some end
      → NamesOperand s line (take end (drop 1 ts)) meter_between (Ok a)
      → Probes search row line (with_meter s meter_between) (drop (suc end) (drop 1 ts)) meter_after tokens
      → Probes search row line s (t ∷ ts) meter_after (after_first (number_for t (has_file search row (directory_before t s.directory) a)) tokens)

-- in GNU C the operators are replaced, otherwise they are ordinary tokens
abbrev pub ProbesBy : Bool → Search → ℕ → List Token → State → List Token → Meter → Result (List Token) Fault → Type 0
ProbesBy true search row line s ts meter_after tokens = Probes search row line s ts meter_after tokens
ProbesBy false search row line s ts meter_after tokens = (meter_after ≡ s.meter) × (tokens ≡ Ok ts)

-- the tokens of a line's condition, or the first fault, and the meter after it
abbrev pub ProbesLine : Search → ℕ → State → List Token → Meter → Result (List Token) Fault → Type 0
ProbesLine search row s line meter_after tokens = ProbesBy (is_gnu search.profile) search row line s (operands line) meter_after tokens
