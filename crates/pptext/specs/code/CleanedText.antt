-- A text after phases 1 and 2, as it is read from its beginning. Only the contracts of private functions, and the view of a type's private fields,
-- cite this.
use Rattle.std.specs.Prelude.{◌≡◌, ◌≢◌, ◌≤◌, ◌<◌, ◌+◌, ℕ, List, [], ◌∷◌, ◌++◌, Bool, Option, None, Some, Result, length, take, drop, slice_index, if◌then◌else◌}
use Rattle.pptext.specs.declared.sources.Profile.{Profile}
use Rattle.pptext.specs.declared.tokens.Place.{Place}
use Rattle.pptext.specs.declared.characters.Char.{Char}
use Rattle.pptext.specs.Clean.{cleaned, place, with_locations, newline, without_returns, trigraphs, splices, splice_at_end, codes_of}
use Rattle.pptext.specs.code.LineNotes.{IsTable, PlainRun, after_note}
use Rattle.pptext.specs.code.Steps.{lacks_newline, place_after}

-- no line ends from the character `line` up to this one
abbrev pub InLine : List ℕ → ℕ → ℕ → Type 0
InLine codes line at = (k : ℕ) → line ≤ k → k < at → slice_index codes k ≢ 10

-- the characters, and the index of the last one whose location was asked for
pub record Reading : Type 0 where
  pub chars : List Char
  pub consumed : ℕ

-- the text of a file's bytes, or the location of the backslash that ends them
abbrev pub Cleans : Profile → ℕ → List ℕ → Result (List Char) Place → Type 0
Cleans profile file bytes text = cleaned profile file bytes ≡ text

-- the last new-line, if it is supplied
abbrev pub supply : Bool → Place → List Char
supply supplied end = if supplied then record { code = newline; at = end } ∷ [] else []

-- the characters after line ends and trigraphs. If the last new-line is supplied, it is at this location.
abbrev pub unspliced : Profile → Bool → Place → List Char → List Char
unspliced profile supplied end cs = trigraphs profile (without_returns cs ++ supply supplied end)

abbrev pub start : ℕ → Place
start file = place file 1 1

-- these characters for a file's bytes after its byte order mark, from an offset on
abbrev pub unspliced_from : Profile → ℕ → List ℕ → ℕ → List Char
unspliced_from profile file raw offset = unspliced profile (lacks_newline raw) (place_after (start file) raw) (drop offset (with_locations file 1 1 raw))

-- the characters after phases 1 and 2, from an offset on
abbrev pub text_from : Profile → ℕ → List ℕ → ℕ → List Char
text_from profile file raw offset = splices (unspliced_from profile file raw offset)

-- the location of a backslash at the end of the file, from an offset on
abbrev pub end_from : Profile → ℕ → List ℕ → ℕ → Option Place
end_from profile file raw offset = splice_at_end (unspliced_from profile file raw offset)

-- A position in a text: the index of the next character, the index of the byte in the file from which it is sought, the number of bytes between
-- that byte and the next line note, the table's entry after that line note, and the byte's location.
pub record TextCursor : Type 0 where
  pub consumed : ℕ
  pub offset : ℕ
  pub plain : ℕ
  pub next : ℕ
  pub at : Place

-- The cursor is where its next character is sought, `plain` bytes before a line note. The table continues after that line note with the cursor's
-- next entry.
pub record IsCursorAt (profile : Profile) (file : ℕ) (raw line_notes : List ℕ) (c : TextCursor) : Type 0 where
  pub within : c.offset ≤ length raw
  pub at : c.at ≡ place_after (start file) (take c.offset raw)
  pub rest : drop c.consumed (text_from profile file raw 0) ≡ text_from profile file raw c.offset
  pub ends : end_from profile file raw c.offset ≡ None
  pub plain_run : PlainRun profile (lacks_newline raw) (drop c.offset raw) c.plain
  pub next : c.next ≤ c.offset + 1
  pub table : IsTable profile (lacks_newline raw) (after_note profile (lacks_newline raw) (drop (c.offset + c.plain) raw)) (drop c.next line_notes)

-- These are the codes of a file that doesn't end in a splice, and its table of line notes.
pub record IsChangedText (profile : Profile) (raw text_codes line_notes : List ℕ) : Type 0 where
  pub codes : (file : ℕ) → text_codes ≡ codes_of (text_from profile file raw 0)
  pub ends : (file : ℕ) → end_from profile file raw 0 ≡ None
  pub table : IsTable profile (lacks_newline raw) raw line_notes

-- The file doesn't end in a splice, and it has `count` line notes.
pub record HasLineNotes (profile : Profile) (raw : List ℕ) (count : ℕ) : Type 0 where
  pub ends : (file : ℕ) → end_from profile file raw 0 ≡ None
  pub line_notes : List ℕ
  pub table : IsTable profile (lacks_newline raw) raw line_notes
  pub length : length line_notes ≡ count

-- The file ends in a splice, whose backslash is at this offset.
pub record EndsAt (profile : Profile) (raw : List ℕ) (offset : ℕ) : Type 0 where
  pub within : offset < length raw
  pub ends : (file : ℕ) → end_from profile file raw 0 ≡ Some (place_after (start file) (take offset raw))
