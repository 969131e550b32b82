-- The formats of dates, times and definitions.
use Rattle.std.specs.Prelude.{ℕ, ◌+◌, ◌-◌, ◌*◌, ◌==◌, nat_le, nat_lt, Bool, true, false, ◌&&◌, ◌||◌, not}
use Rattle.std.specs.Prelude.{List, codes, length, take, drop, slice_index}
use Rattle.std.specs.List.{list_all}
use Rattle.std.specs.Str.{bytes_eq}
use Rattle.pptext.specs.declared.sources.Profile.{Profile}
use Rattle.pptext.specs.declared.sources.Profile.TheVariants.{C11, Later, Gnu}
pub use Rattle.pptext.specs.Spellings.{is_digit}
use Rattle.ppshelf.specs.Content.{longest}
use Rattle.ppunit.specs.declared.units.Setting.{Setting}
use Rattle.ppunit.specs.declared.units.Unit.{Unit as UnitOfList}
use Rattle.ppunit.specs.declared.units.FirstFile.{FirstFile}
use Rattle.ppunit.specs.Unit.{command_text}

-- the number that two digits spell
abbrev pub two_digits : ℕ → ℕ → ℕ
two_digits a b = (a - 48) * 10 + (b - 48)

-- two digits that spell at most `most`
abbrev pub is_pair : ℕ → ℕ → ℕ → Bool
is_pair most a b = is_digit a && is_digit b && nat_le (two_digits a b) most

-- a month from July on
abbrev pub is_late_month : List ℕ → Bool
is_late_month m =
    bytes_eq m (codes "Jul") || bytes_eq m (codes "Aug") || bytes_eq m (codes "Sep") || bytes_eq m (codes "Oct")
    || bytes_eq m (codes "Nov") || bytes_eq m (codes "Dec")

abbrev pub is_month : List ℕ → Bool
is_month m =
    bytes_eq m (codes "Jan") || bytes_eq m (codes "Feb") || bytes_eq m (codes "Mar") || bytes_eq m (codes "Apr")
    || bytes_eq m (codes "May") || bytes_eq m (codes "Jun") || is_late_month m

-- a day of a month in two places: 1 to 9 after a space, or 10 to 31
abbrev pub is_day : ℕ → ℕ → Bool
is_day a b = (a == 32 && nat_le 49 b && nat_le b 57) || (nat_le 49 a && is_pair 31 a b)

-- a date in the format of `__DATE__`: a month, a day and a year (6.10.8.1)
abbrev pub is_date : List ℕ → Bool
is_date s =
    length s == 11
    && is_month (take 3 s)
    && slice_index s 3 == 32
    && is_day (slice_index s 4) (slice_index s 5)
    && slice_index s 6 == 32
    && list_all is_digit (drop 7 s)

-- a time in the format of `__TIME__`: an hour, a minute and a second, which may be a leap second (6.10.8.1); 58 is `:`
abbrev pub is_time : List ℕ → Bool
is_time s =
    length s == 8
    && is_pair 23 (slice_index s 0) (slice_index s 1)
    && slice_index s 2 == 58
    && is_pair 59 (slice_index s 3) (slice_index s 4)
    && slice_index s 5 == 58
    && is_pair 60 (slice_index s 6) (slice_index s 7)

-- neither a line feed nor a carriage return
abbrev pub is_in_line : ℕ → Bool
is_in_line b = not (b == 10) && not (b == 13)

-- a text that is one line
abbrev pub is_one_line : List ℕ → Bool
is_one_line s = list_all is_in_line s

abbrev pub equal_profiles : Profile → Profile → Bool
equal_profiles C11 C11 = true
equal_profiles Later Later = true
equal_profiles Gnu Gnu = true
equal_profiles _ _ = false

-- date and time have their formats
abbrev pub is_setting : Setting → Bool
is_setting setting = is_date setting.date && is_time setting.time

-- the file and those that are read first are among `rows`, the definitions have the profile, each is one line, and the file that holds them has at
-- most `longest` bytes
abbrev pub is_unit : ℕ → Profile → UnitOfList → Bool
is_unit rows profile unit =
    nat_lt unit.file rows
    && list_all (λ (f : FirstFile). nat_lt f.file rows) unit.first
    && (equal_profiles unit.defines.profile profile && (list_all is_one_line unit.defines.texts && nat_le (length (command_text unit.defines.texts))
    longest))
