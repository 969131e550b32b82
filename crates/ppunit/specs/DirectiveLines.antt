-- The parts of a directive line (6.10).
use Rattle.std.specs.Prelude.{ℕ, List, [], ◌∷◌, ◌++◌, if◌then◌else◌, Option, None, Some, drop, flat_map}
use Rattle.pptext.specs.declared.tokens.Token.{Token}
use Rattle.pptext.specs.declared.tokens.Fault.{Fault}
use Rattle.pptext.specs.Lines.{LogicalLine}
use Rattle.pptext.specs.Tree.{hash_place, name_of}
use Rattle.pptext.specs.Tokens.{is_identifier, fault}

-- the tokens after the directive's name
abbrev pub operands : List Token → List Token
operands line = drop 2 line

-- a fault located at the line's `#`
abbrev pub line_fault : ℕ → List Token → List ℕ → Fault
line_fault number line text = fault number (hash_place line) text

-- a fault with the directive's name as its text
abbrev pub named_fault : ℕ → List Token → Fault
named_fault number line = line_fault number line (name_of line)

-- one space if the token has leading white space
abbrev pub space_before : Token → List ℕ
space_before t = if t.space then 32 ∷ [] else []

-- a token after another, as text
abbrev pub spaced : Token → List ℕ
spaced t = space_before t ++ t.text

-- the identifier, if it is the only token
abbrev pub one_identifier : List Token → Option (List ℕ)
one_identifier (t ∷ []) = if is_identifier t then Some t.text else None
one_identifier ts = None

-- the tokens of text lines
abbrev pub text_tokens : List LogicalLine → List Token
text_tokens lines = flat_map (λ line. line.tokens) lines
