-- What the remaining bytes of a file begin with, for phases 1 and 2 in one pass (5.1.1.2). Only the contracts of private functions, and the view of
-- a type's private fields, cite this.
use Rattle.std.specs.Prelude.{◌≡◌, ◌≢◌, ℕ, ◌+◌, ◌<◌, ◌≤◌, List, [], ◌∷◌, Bool, true, false, not, ◌&&◌, ◌||◌, ◌==◌, if◌then◌else◌, Option, None, Some, length, drop, slice_index}
use Rattle.pptext.specs.declared.sources.Profile.{Profile}
use Rattle.pptext.specs.declared.tokens.Place.{Place}
use Rattle.pptext.specs.Clean.{place, next_col, newline, backslash, trigraph}
use Rattle.pptext.specs.Profiles.{is_gnu}

-- whether the last line of these bytes has no LF
abbrev pub lacks_newline : List ℕ → Bool
lacks_newline [] = false
lacks_newline (b ∷ []) = not (b == newline)
lacks_newline (b ∷ c ∷ bs) = lacks_newline (c ∷ bs)

-- whether a byte may begin more than a character of its own
abbrev pub is_special : ℕ → Bool
is_special b = b == backslash || b == 63 || b == 13

-- none of the first n bytes is special
abbrev pub PlainPrefix : List ℕ → ℕ → Type 0
PlainPrefix bs n = (n ≤ length bs) × ((k : ℕ) → k < n → is_special (slice_index bs k) ≡ false)

-- none of the first n bytes is special, and the byte after them is
abbrev pub StopsAt : List ℕ → ℕ → Type 0
StopsAt bs n = (n < length bs) × PlainPrefix bs n × (is_special (slice_index bs n) ≡ true)

-- the code of the trigraph that begins the bytes, or 0
abbrev pub trigraph_of : List ℕ → ℕ
trigraph_of (a ∷ b ∷ c ∷ bs) = if a == 63 && b == 63 then trigraph c else 0
trigraph_of bs = 0

-- the code of the trigraph that is replaced at the beginning of the bytes, or 0
abbrev pub leading_trigraph : Profile → List ℕ → ℕ
leading_trigraph profile bs = if is_gnu profile then 0 else trigraph_of bs

-- whether a CR directly before an LF begins the bytes
abbrev pub leading_crlf : List ℕ → Bool
leading_crlf (a ∷ b ∷ bs) = a == 13 && b == newline
leading_crlf bs = false

-- the length of the new-line that begins the bytes. At the end of the file it may be supplied.
abbrev pub leading_newline : Bool → List ℕ → Option ℕ
leading_newline supplied [] = if supplied then Some 0 else None
leading_newline supplied (b ∷ bs) = if b == newline then Some 1 else (if leading_crlf (b ∷ bs) then Some 2 else None)

-- What the remaining bytes begin with: a character's code, with the number of bytes that spell it; or a number of bytes that are removed, which are
-- a CR before an LF, or a backslash with its new-line.
pub data CharStep : Type 0 where
  Code : ℕ → ℕ → CharStep
  Removed : ℕ → CharStep

-- a character, unless it is a backslash directly before a new-line
abbrev pub spliced : Option ℕ → ℕ → ℕ → CharStep
spliced None code n = Code code n
spliced (Some m) code n = Removed (n + m)

abbrev pub coded : Bool → List ℕ → ℕ → ℕ → CharStep
coded supplied bs code n = if code == backslash then spliced (leading_newline supplied (drop n bs)) code n else Code code n

-- the character that begins the bytes, or the bytes that are removed
abbrev pub step_of : Profile → Bool → List ℕ → CharStep
step_of profile supplied bs =
    if leading_crlf bs then Removed 1 else (if leading_trigraph profile bs == 0 then coded supplied bs (slice_index bs 0) 1 else coded supplied bs (leading_trigraph profile bs) 3)

-- the first byte isn't a character of its own
abbrev pub IsChanged : Profile → Bool → List ℕ → Type 0
IsChanged profile supplied bs = (code : ℕ) → step_of profile supplied bs ≢ Code code 1

-- the location after a byte at this location
abbrev pub after_byte : ℕ → Place → Place
after_byte b p = if b == newline then place p.file (p.line + 1) 1 else next_col p

-- the location after these bytes, the first of which is at this location
abbrev pub place_after : Place → List ℕ → Place
place_after p [] = p
place_after p (b ∷ bs) = place_after (after_byte b p) bs
