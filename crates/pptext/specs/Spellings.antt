-- The grammar of preprocessing tokens (6.4): the spellings of each kind.
use Rattle.std.specs.Prelude.{ℕ, List, [], ◌∷◌, Bool, not, ◌&&◌, ◌||◌, ◌==◌, nat_le, IsTrue, Contains, codes}
use Rattle.std.specs.List.{list_any}
use Rattle.std.specs.Str.{bytes_eq}
use Rattle.pptext.specs.Languages.{Exactly, One, Then, Either, IsRun, Repeated}
use Rattle.pptext.specs.declared.tokens.Kind.{Kind}
use Rattle.pptext.specs.declared.tokens.Kind.TheVariants.{Ident, Number, CharConst, Str, Punct, Header, Other}

abbrev pub within : ℕ → ℕ → ℕ → Bool
within low high c = nat_le low c && nat_le c high

abbrev pub is_digit : ℕ → Bool
is_digit c = within 48 57 c

abbrev pub is_hex : ℕ → Bool
is_hex c = is_digit c || (within 65 70 c || within 97 102 c)

-- a letter, `_`, `$` or a byte of 128 or higher
abbrev pub is_nondigit : ℕ → Bool
is_nondigit c = within 65 90 c || (within 97 122 c || (c == 95 || (c == 36 || nat_le 128 c)))

-- space, tab, vertical tab, form feed and CR
abbrev pub is_blank : ℕ → Bool
is_blank c = c == 32 || (c == 9 || (c == 11 || (c == 12 || c == 13)))

abbrev pub is_exponent : ℕ → Bool
is_exponent c = c == 101 || (c == 69 || (c == 112 || c == 80))

abbrev pub is_sign : ℕ → Bool
is_sign c = c == 43 || c == 45

-- `\u` with four hexadecimal digits, `\U` with eight (6.4.3)
abbrev pub IsUniversal : List ℕ → Type 0
IsUniversal = Either (Then (Exactly (92 ∷ 117 ∷ [])) (IsRun 4 is_hex)) (Then (Exactly (92 ∷ 85 ∷ [])) (IsRun 8 is_hex))

abbrev pub IsNondigit : List ℕ → Type 0
IsNondigit = Either (One is_nondigit) IsUniversal

-- 6.4.2
abbrev pub IsIdent : List ℕ → Type 0
IsIdent = Then IsNondigit (Repeated (Either IsNondigit (One is_digit)))

-- one of the parts that follow the first digit of a number (6.4.8)
abbrev pub IsNumberPart : List ℕ → Type 0
IsNumberPart = Either IsNondigit (Either (One (λ c. is_digit c || c == 46)) (Then (One is_exponent) (One is_sign)))

abbrev pub IsNumber : List ℕ → Type 0
IsNumber = Then (Either (One is_digit) (Then (Exactly (46 ∷ [])) (One is_digit))) (Repeated IsNumberPart)

-- any character but the quote, `\` and new-line; or `\` and any character but new-line
abbrev pub IsElement : ℕ → List ℕ → Type 0
IsElement quote = Either (One (λ c. not (c == quote || (c == 92 || c == 10)))) (Then (Exactly (92 ∷ [])) (One (λ c. not (c == 10))))

abbrev pub char_prefixes : List (List ℕ)
char_prefixes = [] ∷ codes "u" ∷ codes "U" ∷ codes "L" ∷ []

abbrev pub str_prefixes : List (List ℕ)
str_prefixes = [] ∷ codes "u8" ∷ codes "u" ∷ codes "U" ∷ codes "L" ∷ []

-- 6.4.4.4: at least one element
abbrev pub IsCharConst : List ℕ → Type 0
IsCharConst = Then (Contains char_prefixes) (Then (Exactly (39 ∷ [])) (Then (IsElement 39) (Then (Repeated (IsElement 39)) (Exactly (39 ∷ [])))))

-- 6.4.5
abbrev pub IsStr : List ℕ → Type 0
IsStr = Then (Contains str_prefixes) (Then (Exactly (34 ∷ [])) (Then (Repeated (IsElement 34)) (Exactly (34 ∷ []))))

-- 6.4.6
abbrev pub punctuators : List (List ℕ)
punctuators =
    codes "[" ∷ codes "]" ∷ codes "(" ∷ codes ")" ∷ codes "{" ∷ codes "}" ∷ codes "." ∷ codes "->" ∷ codes "++" ∷ codes "--" ∷ codes "&" ∷ codes "*" ∷ codes "+"
    ∷ codes "-" ∷ codes "~" ∷ codes "!" ∷ codes "/" ∷ codes "%" ∷ codes "<<" ∷ codes ">>" ∷ codes "<" ∷ codes ">" ∷ codes "<=" ∷ codes ">=" ∷ codes "=="
    ∷ codes "!=" ∷ codes "^" ∷ codes "|" ∷ codes "&&" ∷ codes "||" ∷ codes "?" ∷ codes ":" ∷ codes ";" ∷ codes "..." ∷ codes "=" ∷ codes "*=" ∷ codes "/="
    ∷ codes "%=" ∷ codes "+=" ∷ codes "-=" ∷ codes "<<=" ∷ codes ">>=" ∷ codes "&=" ∷ codes "^=" ∷ codes "|=" ∷ codes "," ∷ codes "#" ∷ codes "##"
    ∷ codes "<:" ∷ codes ":>" ∷ codes "<%" ∷ codes "%>" ∷ codes "%:" ∷ codes "%:%:" ∷ []

-- whether the text is a punctuator
abbrev pub is_punctuator : List ℕ → Bool
is_punctuator s = list_any (λ p. bytes_eq p s) punctuators

abbrev pub IsPunct : List ℕ → Type 0
IsPunct s = IsTrue (is_punctuator s)

-- at least one character but the closing one and new-line, between two characters
abbrev pub IsBetween : ℕ → ℕ → List ℕ → Type 0
IsBetween open_code close_code =
    let inner = λ (c : ℕ). not (c == close_code || c == 10) in
    Then (Exactly (open_code ∷ [])) (Then (One inner) (Then (Repeated (One inner)) (Exactly (close_code ∷ []))))

-- 6.4.7
abbrev pub IsHeader : List ℕ → Type 0
IsHeader = Either (IsBetween 60 62) (IsBetween 34 34)

-- each other character that is no white space
abbrev pub IsOther : List ℕ → Type 0
IsOther s = One (λ c. not (is_blank c || c == 10)) s × (¬ IsIdent s) × (¬ IsNumber s) × (¬ IsPunct s)

-- the spellings of a kind, where no header name is allowed
abbrev pub Spells : Kind → List ℕ → Type 0
Spells Ident = IsIdent
Spells Number = IsNumber
Spells CharConst = IsCharConst
Spells Str = IsStr
Spells Punct = IsPunct
Spells Header = λ _. ⊥
Spells Other = IsOther

-- a spelling of some kind
abbrev pub IsSpelling : List ℕ → Type 0
IsSpelling s = (k : Kind) × Spells k s
