-- The header that an `#include` line names (6.10.2).
use Rattle.std.specs.Prelude.{ℕ, ◌-◌, Bool, true, false, ◌||◌, if◌then◌else◌, Option, None, Some, Result, Ok, Err}
use Rattle.std.specs.Prelude.{List, [], ◌∷◌, ◌++◌, length, take, drop, codes}
use Rattle.std.specs.Str.{bytes_eq}
use Rattle.pptext.specs.declared.tokens.Token.{Token}
use Rattle.pptext.specs.declared.tokens.Fault.{Fault}
use Rattle.pptext.specs.declared.tokens.Kind.{Kind}
use Rattle.pptext.specs.declared.tokens.Kind.TheVariants.{Header}
use Rattle.pptext.specs.Tokens.{is_punct}
use Rattle.ppshelf.specs.declared.search.Form.{Form}
use Rattle.ppshelf.specs.declared.search.Form.TheVariants.{Quote, Angle}
use Rattle.ppunit.specs.DirectiveLines.{space_before, spaced}
use Rattle.ppunit.specs.LineControl.{is_plain_string}

-- the form and the name of a header
pub record IncludeName : Type 0 where
  pub form : Form
  pub name : List ℕ

-- the text without its first and last character
abbrev pub inner : List ℕ → List ℕ
inner text = take (length text - 2) (drop 1 text)

abbrev pub form_of : List ℕ → Form
form_of text = if bytes_eq (take 1 text) (34 ∷ []) then Quote else Angle

abbrev pub is_header : Kind → Bool
is_header Header = true
is_header _ = false

-- a header name is after `include`
abbrev pub begins_with_header : List Token → Bool
begins_with_header [] = false
begins_with_header (t ∷ ts) = is_header t.kind

-- the header of a single header name token
abbrev pub name_of_header : List Token → Option IncludeName
name_of_header (t ∷ []) = Some (record { form = form_of t.text; name = inner t.text })
name_of_header ts = None

-- the text, if no tokens follow
abbrev pub if_at_end : List ℕ → List Token → Option (List ℕ)
if_at_end text [] = Some text
if_at_end text (t ∷ ts) = None

abbrev pub prefixed : List ℕ → Option (List ℕ) → Option (List ℕ)
prefixed text None = None
prefixed text (Some more) = Some (text ++ more)

-- the rest of a name before the first `>`, which must be the last token
abbrev pub angle_rest : List Token → Option (List ℕ)
angle_rest [] = None
angle_rest (t ∷ ts) = if is_punct (codes ">") t then if_at_end (space_before t) ts else prefixed (spaced t) (angle_rest ts)

-- the name before `>`, with one space where a token other than the first has leading white space
abbrev pub angle_name : List Token → Option (List ℕ)
angle_name [] = None
angle_name (t ∷ ts) = if is_punct (codes ">") t then if_at_end [] ts else prefixed t.text (angle_rest ts)

abbrev pub name_of_angle_form : Option (List ℕ) → Option IncludeName
name_of_angle_form None = None
name_of_angle_form (Some name) = Some (record { form = Angle; name = name })

-- the header that the operands name after macro replacement
abbrev pub name_of_expansion : List Token → Option IncludeName
name_of_expansion (t ∷ []) = if is_plain_string t then Some (record { form = Quote; name = inner t.text }) else None
name_of_expansion (t ∷ u ∷ us) = if is_punct (codes "<") t then name_of_angle_form (angle_name (u ∷ us)) else None
name_of_expansion [] = None

-- no file can have the name: it is empty, or it begins with `/`
abbrev pub is_impossible_name : List ℕ → Bool
is_impossible_name name = bytes_eq name [] || bytes_eq (take 1 name) (codes "/")

abbrev pub if_possible_name : Option IncludeName → Option IncludeName
if_possible_name None = None
if_possible_name (Some a) = if is_impossible_name a.name then None else Some a

-- the header, or the fault if there is none
abbrev pub name_or : Fault → Option IncludeName → Result IncludeName Fault
name_or f None = Err f
name_or f (Some a) = Ok a

-- the header that the operands name after macro replacement, or the fault of the replacement, or fault 30
abbrev pub name_of_expansion_or : Fault → Option Fault → List Token → Result IncludeName Fault
name_of_expansion_or f (Some g) ts = Err g
name_of_expansion_or f None ts = name_or f (if_possible_name (name_of_expansion ts))
