-- The syntax of constants (6.4.4.1, 6.4.4.4) as relations, independent of the functions that read constants.
use Rattle.std.specs.Prelude.{◌≡◌, ◌≢◌, ℕ, ◌+◌, ◌*◌, ◌^◌, ◌<◌, ◌≤◌, Bool, true, false, if◌then◌else◌, List, [], ◌∷◌, ◌++◌, length, pos, codes}
use Rattle.std.specs.Char.{is_digit, digit_value}
use Rattle.ppexpr.specs.declared.symbols.Value.{Value}
use Rattle.ppexpr.specs.declared.symbols.Value.TheVariants.{Signed, Unsigned}

-- ---- digits

-- Digits that denote m, followed by these digits, denote n: each digit multiplies the number by the base, and adds its own value.
pub data Continues (base : ℕ) : ℕ → List ℕ → ℕ → Type 0 where
  done : {n : ℕ} → Continues base n [] n
  digit : {m n c : ℕ} {digits : List ℕ}
      → is_digit c base ≡ true
      → Continues base (m * base + digit_value c) digits n
      → Continues base m (c ∷ digits) n

-- these digits of a base denote this number
abbrev pub Writes : ℕ → List ℕ → ℕ → Type 0
Writes base digits n = Continues base 0 digits n

-- ---- integer constants (6.4.4.1)

pub data Base : Type 0 where
  Decimal : Base
  Octal : Base
  Hexadecimal : Base

abbrev pub is_decimal : Base → Bool
is_decimal Decimal = true
is_decimal _ = false

-- the `x` after the 0 of a hexadecimal constant
pub data IsX : ℕ → Type 0 where
  small_x : IsX 120
  large_x : IsX 88

-- A constant without its suffix, and its number: decimal digits, the first of which is not 0; octal digits, the first of which is 0 (byte 48); or
-- `0x` or `0X` and at least one hexadecimal digit.
pub data IsNumeral : Base → List ℕ → ℕ → Type 0 where
  decimal : {c n : ℕ} {digits : List ℕ} → c ≢ 48 → Writes 10 (c ∷ digits) n → IsNumeral Decimal (c ∷ digits) n
  octal : {n : ℕ} {digits : List ℕ} → Writes 8 (48 ∷ digits) n → IsNumeral Octal (48 ∷ digits) n
  hexadecimal : {x c n : ℕ} {digits : List ℕ} → IsX x → Writes 16 (c ∷ digits) n → IsNumeral Hexadecimal (48 ∷ x ∷ c ∷ digits) n

pub data IsUnsignedSuffix : List ℕ → Type 0 where
  small_u : IsUnsignedSuffix (codes "u")
  large_u : IsUnsignedSuffix (codes "U")

-- a long suffix or a long-long one
pub data IsLongSuffix : List ℕ → Type 0 where
  small_l : IsLongSuffix (codes "l")
  large_l : IsLongSuffix (codes "L")
  small_ll : IsLongSuffix (codes "ll")
  large_ll : IsLongSuffix (codes "LL")

-- the text after the digits, and whether it has a `u` or `U`
pub data IsSuffix : Bool → List ℕ → Type 0 where
  no_suffix : IsSuffix false []
  long : {l : List ℕ} → IsLongSuffix l → IsSuffix false l
  unsigned : {u : List ℕ} → IsUnsignedSuffix u → IsSuffix true u
  unsigned_long : {u l : List ℕ} → IsUnsignedSuffix u → IsLongSuffix l → IsSuffix true (u ++ l)
  long_unsigned : {u l : List ℕ} → IsLongSuffix l → IsUnsignedSuffix u → IsSuffix true (l ++ u)

-- The value (6.4.4.1p5, 6.10.1p4). With `u` or `U` it is unsigned. Otherwise it is signed if it fits. If it does not fit, it is unsigned, but a
-- decimal constant has no value then.
pub data HasValue (base : Base) : Bool → ℕ → Value → Type 0 where
  is_unsigned : {n : ℕ} → n < 2 ^ 64 → HasValue base true n (Unsigned n)
  is_signed : {n : ℕ} → n < 2 ^ 63 → HasValue base false n (Signed (pos n))
  too_large : {n : ℕ} → is_decimal base ≡ false → 2 ^ 63 ≤ n → n < 2 ^ 64 → HasValue base false n (Unsigned n)

-- the text is an integer constant with this value
pub record IsInteger (text : List ℕ) (v : Value) : Type 0 where
  pub base : Base
  pub numeral : List ℕ
  pub suffix : List ℕ
  pub number : ℕ
  pub with_u : Bool
  pub laid_out : text ≡ numeral ++ suffix
  pub writes : IsNumeral base numeral number
  pub ends : IsSuffix with_u suffix
  pub value : HasValue base with_u number v

-- ---- character constants (6.4.4.4)

-- the byte after the backslash of a simple escape sequence, and its value: `'` `"` `?` `\` `a` `b` `f` `n` `r` `t` `v`
pub data IsSimpleEscape : ℕ → ℕ → Type 0 where
  single_quote : IsSimpleEscape 39 39
  double_quote : IsSimpleEscape 34 34
  question_mark : IsSimpleEscape 63 63
  backslash : IsSimpleEscape 92 92
  alert : IsSimpleEscape 97 7
  backspace : IsSimpleEscape 98 8
  form_feed : IsSimpleEscape 102 12
  new_line : IsSimpleEscape 110 10
  carriage_return : IsSimpleEscape 114 13
  horizontal_tab : IsSimpleEscape 116 9
  vertical_tab : IsSimpleEscape 118 11

-- The text between the quotes, and its number: one byte other than `'`, `\` and new-line; or `\` (byte 92) and a simple escape, one to three octal
-- digits, or `x` (byte 120) and at least one hexadecimal digit.
pub data IsCharacter : List ℕ → ℕ → Type 0 where
  byte : {c : ℕ} → c ≢ 39 → c ≢ 92 → c ≢ 10 → IsCharacter (c ∷ []) c
  simple : {c n : ℕ} → IsSimpleEscape c n → IsCharacter (92 ∷ c ∷ []) n
  octal_escape : {c n : ℕ} {digits : List ℕ} → length (c ∷ digits) ≤ 3 → Writes 8 (c ∷ digits) n → IsCharacter (92 ∷ c ∷ digits) n
  hexadecimal_escape : {c n : ℕ} {digits : List ℕ} → Writes 16 (c ∷ digits) n → IsCharacter (92 ∷ 120 ∷ c ∷ digits) n

-- a prefix, the greatest value of a constant with it, and whether its type is unsigned: the type is `int` without a prefix, `wchar_t` with `L`,
-- `char16_t` with `u` and `char32_t` with `U`
pub data IsPrefix : List ℕ → ℕ → Bool → Type 0 where
  no_prefix : IsPrefix [] 255 false
  wide : IsPrefix (codes "L") 4294967295 false
  char16 : IsPrefix (codes "u") 65535 true
  char32 : IsPrefix (codes "U") 4294967295 true

-- the text is the constant of one character with this value
pub record IsCharacterConstant (text : List ℕ) (v : Value) : Type 0 where
  pub prefix : List ℕ
  pub body : List ℕ
  pub greatest : ℕ
  pub type_unsigned : Bool
  pub number : ℕ
  pub laid_out : text ≡ prefix ++ 39 ∷ (body ++ 39 ∷ [])
  pub type_is : IsPrefix prefix greatest type_unsigned
  pub character : IsCharacter body number
  pub fits : number ≤ greatest
  pub value : v ≡ (if type_unsigned then Unsigned number else Signed (pos number))
