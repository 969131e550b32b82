-- Character constants (6.4.4.4).
use Rattle.std.specs.Prelude.{ℕ, ◌-◌, ◌==◌, Bool, true, false, ◌&&◌, List, [], ◌∷◌, length, drop, Option, Some, None, pos, codes, nat_eq, nat_lt}
use Rattle.std.specs.Prelude.{nat_le, slice_index, slice_range, option_and_then, if◌then◌else◌}
use Rattle.std.specs.List.{list_all, starts_with}
use Rattle.std.specs.Char.{is_digit}
use Rattle.ppexpr.specs.Integers.{number}
use Rattle.ppexpr.specs.declared.symbols.Value.{Value}
use Rattle.ppexpr.specs.declared.symbols.Value.TheVariants.{Signed, Unsigned}

-- the bytes between the quotes
abbrev pub unquoted : List ℕ → Option (List ℕ)
unquoted s =
    if nat_le 2 (length s) && (slice_index s 0 == 39 && slice_index s (length s - 1) == 39) then Some (slice_range s 1 (length s - 1)) else None

-- `\'` `\"` `\?` `\\` `\a` `\b` `\t` `\n` `\v` `\f` `\r`
abbrev pub simple_escape : ℕ → Option ℕ
simple_escape c =
    if c == 39 then Some 39 else (if c == 34 then Some 34 else (if c == 63 then Some 63 else (if c == 92 then Some 92 else (
    if c == 97 then Some 7 else (if c == 98 then Some 8 else (if c == 116 then Some 9 else (if c == 110 then Some 10 else (
    if c == 118 then Some 11 else (if c == 102 then Some 12 else (if c == 114 then Some 13 else None))))))))))

-- at least one digit, and nothing but digits
abbrev pub are_digits : ℕ → List ℕ → Bool
are_digits base s = nat_lt 0 (length s) && list_all (λ c. is_digit c base) s

abbrev pub is_octal_escape : List ℕ → Bool
is_octal_escape s = nat_le (length s) 3 && are_digits 8 s

abbrev pub is_hexadecimal_escape : List ℕ → Bool
is_hexadecimal_escape s = starts_with nat_eq s (codes "x") && are_digits 16 (drop 1 s)

-- one byte after the backslash
abbrev pub other_escape : List ℕ → Option ℕ
other_escape (c ∷ []) = simple_escape c
other_escape _ = None

-- the text after the backslash, by the first rule that fits
abbrev pub escape : List ℕ → Option ℕ
escape s =
    if is_octal_escape s then Some (number 8 s) else (
    if is_hexadecimal_escape s then Some (number 16 (drop 1 s)) else other_escape s)

-- one byte other than `\`, or one escape sequence
abbrev pub character : List ℕ → Option ℕ
character [] = None
character (c ∷ s) = if c == 92 then escape s else (if nat_eq (length s) 0 then Some c else None)

abbrev pub up_to : ℕ → Bool → ℕ → Option Value
up_to greatest unsigned n = if nat_le n greatest then Some (if unsigned then Unsigned n else Signed (pos n)) else None

-- of the type `int`, `char16_t`, `char32_t` or `wchar_t`: the greatest value, whether it is unsigned, and the spelling without its prefix
abbrev pub of_type : ℕ → Bool → List ℕ → Option Value
of_type greatest unsigned s = option_and_then (up_to greatest unsigned) (option_and_then character (unquoted s))

abbrev pub character_of : List ℕ → Option Value
character_of s =
    if starts_with nat_eq s (codes "u") then of_type 65535 true (drop 1 s) else (
    if starts_with nat_eq s (codes "U") then of_type 4294967295 true (drop 1 s) else (
    if starts_with nat_eq s (codes "L") then of_type 4294967295 false (drop 1 s) else of_type 255 false s))
