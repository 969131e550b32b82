-- Text that continues an identifier or a number: together they are one token of that kind.
use Rattle.std.specs.Prelude.{◌≡◌, ℕ, List, [], ◌∷◌, ◌++◌, IsTrue, ◌⊎◌}
use Rattle.pptext.specs.Languages.{One, Then, Either, Repeated}
use Rattle.pptext.specs.Spellings.{is_digit, is_exponent, is_sign, IsUniversal, IsNondigit, IsNumberPart}
use Rattle.pptext.specs.declared.tokens.Kind.{Kind}
use Rattle.pptext.specs.declared.tokens.Kind.TheVariants.{Ident, Number, CharConst, Str, Punct, Header, Other}

-- more of an identifier (6.4.2)
abbrev pub IsIdentRest : List ℕ → Type 0
IsIdentRest = Repeated (Either IsNondigit (One is_digit))

-- more of a number (6.4.8)
abbrev pub IsNumberRest : List ℕ → Type 0
IsNumberRest = Repeated IsNumberPart

-- a sign, and more of a number
abbrev pub IsSignedRest : List ℕ → Type 0
IsSignedRest = Then (One is_sign) IsNumberRest

-- the last character, or 0 if there is none
abbrev pub last_of : List ℕ → ℕ
last_of [] = 0
last_of (c ∷ []) = c
last_of (c ∷ d ∷ cs) = last_of (d ∷ cs)

-- a universal character name ends the text (6.4.3)
abbrev pub EndsInUniversal : List ℕ → Type 0
EndsInUniversal text = (prefix name : List ℕ) × (text ≡ prefix ++ name) × IsUniversal name

-- an exponent's letter ends the text, and is no digit of a universal character name
abbrev pub EndsInExponent : List ℕ → Type 0
EndsInExponent text = IsTrue (is_exponent (last_of text)) × (¬ EndsInUniversal text)

-- `more` continues a token of this kind with the spelling `text`; a sign continues a number only after an exponent's letter
abbrev pub ContinuesToken : Kind → List ℕ → List ℕ → Type 0
ContinuesToken Ident text more = IsIdentRest more
ContinuesToken Number text more = IsNumberRest more ⊎ (EndsInExponent text × IsSignedRest more)
ContinuesToken CharConst text more = ⊥
ContinuesToken Str text more = ⊥
ContinuesToken Punct text more = ⊥
ContinuesToken Header text more = ⊥
ContinuesToken Other text more = ⊥
