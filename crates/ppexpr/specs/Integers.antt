-- Integer constants (6.4.4.1, 6.10.1p4).
use Rattle.std.specs.Prelude.{ℕ, ◌+◌, ◌*◌, ◌^◌, Bool, true, false, ◌||◌, List, [], ◌∷◌, Option, Some, None, pos, codes, nat_lt, fold, drop, take}
use Rattle.std.specs.Prelude.{if◌then◌else◌}
use Rattle.std.specs.List.{list_any, prefix_len, starts_with}
use Rattle.std.specs.Str.{bytes_eq}
use Rattle.std.specs.Char.{is_digit, digit_value}
use Rattle.std.specs.Prelude.{nat_eq}
use Rattle.ppexpr.specs.declared.symbols.Value.{Value}
use Rattle.ppexpr.specs.declared.symbols.Value.TheVariants.{Signed, Unsigned}

-- ---- digits

-- the number of digits of this base at the start of the text
abbrev pub digits_len : ℕ → List ℕ → ℕ
digits_len base s = prefix_len (λ c. is_digit c base) s

-- the number that digits denote
abbrev pub number : ℕ → List ℕ → ℕ
number base digits = fold (λ n c. n * base + digit_value c) 0 digits

-- ---- suffixes

abbrev pub is_one_of : List (List ℕ) → List ℕ → Bool
is_one_of texts s = list_any (λ t. bytes_eq t s) texts

abbrev pub plain_suffixes : List (List ℕ)
plain_suffixes = [] ∷ codes "l" ∷ codes "L" ∷ codes "ll" ∷ codes "LL" ∷ []

abbrev pub unsigned_suffixes : List (List ℕ)
unsigned_suffixes =
    codes "u" ∷ codes "ul" ∷ codes "uL" ∷ codes "ull" ∷ codes "uLL" ∷ codes "lu" ∷ codes "Lu" ∷ codes "llu" ∷ codes "LLu" ∷
    codes "U" ∷ codes "Ul" ∷ codes "UL" ∷ codes "Ull" ∷ codes "ULL" ∷ codes "lU" ∷ codes "LU" ∷ codes "llU" ∷ codes "LLU" ∷ []

-- ---- the constant

abbrev pub as_uintmax : ℕ → Option Value
as_uintmax n = if nat_lt n (2 ^ 64) then Some (Unsigned n) else None

-- a constant without `u` and `U` is signed if it fits; if it does not, it is unsigned, but a decimal constant has no value then (6.4.4.1p5)
abbrev pub typed : Bool → List ℕ → ℕ → Option Value
typed decimal suffix n =
    if is_one_of unsigned_suffixes suffix then as_uintmax n else (
    if is_one_of plain_suffixes suffix then (
    if nat_lt n (2 ^ 63) then Some (Signed (pos n)) else (
    if decimal then None else as_uintmax n)) else None)

-- at least one digit, and a suffix
abbrev pub in_base : ℕ → Bool → List ℕ → Option Value
in_base base decimal s =
    if nat_lt 0 (digits_len base s) then typed decimal (drop (digits_len base s) s) (number base (take (digits_len base s) s)) else None

abbrev pub is_hexadecimal : List ℕ → Bool
is_hexadecimal s = starts_with nat_eq s (codes "0x") || starts_with nat_eq s (codes "0X")

abbrev pub integer_of : List ℕ → Option Value
integer_of s =
    if is_hexadecimal s then in_base 16 false (drop 2 s) else (
    if starts_with nat_eq s (codes "0") then in_base 8 false s else in_base 10 true s)
