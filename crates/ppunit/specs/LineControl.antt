-- `#line` (6.10.4): the line after the directive gets a number, and the file may get a name. A mark says so.
use Rattle.std.specs.Prelude.{ℕ, pos, ◌-ℤ◌, ◌+◌, ◌*◌, ◌-◌, List, [], ◌∷◌, Bool, true, false, ◌&&◌, nat_le, if◌then◌else◌, Option, None, Some, take}
use Rattle.std.specs.List.{list_all}
use Rattle.std.specs.Str.{bytes_eq}
use Rattle.pptext.specs.declared.tokens.Token.{Token}
use Rattle.pptext.specs.declared.tokens.Kind.{Kind}
use Rattle.pptext.specs.declared.tokens.Kind.TheVariants.{Number, Str}
use Rattle.pptext.specs.Spellings.{is_digit}
use Rattle.pptext.specs.Lines.{LogicalLine}
use Rattle.ppunit.specs.declared.units.MarkSort.TheVariants as mark_sort
use Rattle.ppunit.specs.States.{State, marked}

-- the presumed number of a line, and the presumed name of its file, if it has one, as a string literal
pub record Presumed : Type 0 where
  pub number : ℕ
  pub name : Option (List ℕ)

abbrev pub is_number : Kind → Bool
is_number Number = true
is_number _ = false

abbrev pub is_string : Kind → Bool
is_string Str = true
is_string _ = false

-- the number that decimal digits spell after digits that spell n
abbrev pub decimal_after : ℕ → List ℕ → ℕ
decimal_after n [] = n
decimal_after n (d ∷ ds) = decimal_after (n * 10 + (d - 48)) ds

abbrev pub decimal_value : List ℕ → ℕ
decimal_value digits = decimal_after 0 digits

-- only decimal digits
abbrev pub are_digits : Token → Bool
are_digits t = is_number t.kind && list_all is_digit t.text

-- 1 to 2147483647
abbrev pub line_number : Token → Option ℕ
line_number t =
    if are_digits t && nat_le 1 (decimal_value t.text) && nat_le (decimal_value t.text) 2147483647 then Some (decimal_value t.text) else None

-- a string literal without prefix
abbrev pub is_plain_string : Token → Bool
is_plain_string t = is_string t.kind && bytes_eq (take 1 t.text) (34 ∷ [])

abbrev pub with_name : Option (List ℕ) → Option ℕ → Option Presumed
with_name name None = None
with_name name (Some n) = Some (record { number = n; name = name })

-- a number, or a number and a string literal
abbrev pub presumed : List Token → Option Presumed
presumed (n ∷ []) = with_name None (line_number n)
presumed (n ∷ s ∷ []) = if is_plain_string s then with_name (Some s.text) (line_number n) else None
presumed ts = None

abbrev pub or_old : List ℕ → Option (List ℕ) → List ℕ
or_old old None = old
or_old old (Some new) = new

-- the line after the directive's new-line gets the number, and the file at index `row` goes on with a mark
abbrev pub renumbered : State → ℕ → LogicalLine → Presumed → State
renumbered s row line p =
    marked (record s { env = record s.env { name = or_old s.env.name p.name; shift = pos p.number -ℤ pos (line.number + 1) } }) mark_sort.Line row line.number
