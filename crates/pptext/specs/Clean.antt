-- Translation phases 1 and 2 (5.1.1.2): the bytes of a file as characters with their locations.
use Rattle.std.specs.Prelude.{ℕ, zero, suc, ◌+◌, List, [], ◌∷◌, ◌++◌, map, Bool, false, ◌&&◌, ◌==◌, if◌then◌else◌, Option, None, Some, Result, Ok, Err, length, codes}
use Rattle.pptext.specs.declared.tokens.Place.{Place}
use Rattle.pptext.specs.declared.characters.Char.{Char}
use Rattle.pptext.specs.declared.sources.Profile.{Profile}
use Rattle.pptext.specs.declared.sources.Profile.TheVariants.{Gnu}

abbrev pub place : ℕ → ℕ → ℕ → Place
place file line col = record { file = file; line = line; col = col }

-- the location after a byte that is no new-line
abbrev pub next_col : Place → Place
next_col p = place p.file p.line (p.col + 1)

abbrev pub codes_of : List Char → List ℕ
codes_of cs = map (λ c. c.code) cs

-- the first code of the list, or 0
abbrev pub head_code : List Char → ℕ
head_code [] = 0
head_code (c ∷ cs) = c.code

-- the maximum length of a file, in bytes
abbrev pub longest : ℕ
longest = 16777216

abbrev pub newline : ℕ
newline = 10

abbrev pub backslash : ℕ
backslash = 92

-- Each byte with its location, from this line and column on. An LF ends a line.
abbrev pub with_locations : ℕ → ℕ → ℕ → List ℕ → List Char
with_locations file line col [] = []
with_locations file line col (b ∷ bs) =
    record { code = b; at = place file line col } ∷ (if b == newline then with_locations file (line + 1) 1 bs else with_locations file line (col + 1) bs)

-- the bytes after the byte order mark, if there is one
abbrev pub without_bom : List ℕ → List ℕ
without_bom (a ∷ b ∷ c ∷ bs) = if a == 0xef && (b == 0xbb && c == 0xbf) then bs else a ∷ b ∷ c ∷ bs
without_bom bs = bs

-- whether a CR directly before an LF is here
abbrev pub is_return_at : List Char → Bool
is_return_at [] = false
is_return_at (c ∷ cs) = c.code == 13 && head_code cs == newline

-- the characters without each CR directly before an LF
abbrev pub without_returns : List Char → List Char
without_returns [] = []
without_returns (c ∷ cs) = if is_return_at (c ∷ cs) then without_returns cs else c ∷ without_returns cs

-- the new-line that is supplied after the last byte, if the text is not empty and does not end in one
abbrev pub missing_newline : List Char → List Char
missing_newline [] = []
missing_newline (c ∷ []) = if c.code == newline then [] else record { code = newline; at = next_col c.at } ∷ []
missing_newline (c ∷ d ∷ cs) = missing_newline (d ∷ cs)

abbrev pub terminated : List Char → List Char
terminated cs = cs ++ missing_newline cs

-- the first of the three steps of phases 1 and 2: the bytes with their locations, each line ended by one LF
abbrev pub line_ends : ℕ → List ℕ → List Char
line_ends file bytes = terminated (without_returns (with_locations file 1 1 (without_bom bytes)))

-- the trigraphs (5.2.1.1): the character after `??`, and the one that replaces all three
abbrev pub trigraph_pairs : List (List ℕ × List ℕ)
trigraph_pairs =
    (codes "=", codes "#") ∷ (codes "(", codes "[") ∷ (codes "/", backslash ∷ []) ∷ (codes ")", codes "]") ∷ (codes "'", codes "^")
    ∷ (codes "<", codes "{") ∷ (codes "!", codes "|") ∷ (codes ">", codes "}") ∷ (codes "-", codes "~") ∷ []

-- the code of a text of one character, or 0
abbrev pub only_code : List ℕ → ℕ
only_code (c ∷ []) = c
only_code cs = 0

abbrev pub replacement_of : List (List ℕ × List ℕ) → ℕ → ℕ
replacement_of [] c = 0
replacement_of ((third, replacement) ∷ more) c = if c == only_code third then only_code replacement else replacement_of more c

-- the character that replaces `??` and this character, or 0
abbrev pub trigraph : ℕ → ℕ
trigraph c = replacement_of trigraph_pairs c

-- the character of the trigraph that begins here, or 0
abbrev pub trigraph_at : List Char → ℕ
trigraph_at (a ∷ b ∷ c ∷ cs) = if a.code == 63 && b.code == 63 then trigraph c.code else 0
trigraph_at cs = 0

-- Replaces trigraphs from left to right. The next `skip` characters belong to a trigraph that has been replaced.
abbrev pub trigraphs_after : ℕ → List Char → List Char
trigraphs_after skip [] = []
trigraphs_after (suc skip) (c ∷ cs) = trigraphs_after skip cs
trigraphs_after zero (c ∷ cs) =
    let r = trigraph_at (c ∷ cs) in
    if r == 0 then c ∷ trigraphs_after 0 cs else record { code = r; at = c.at } ∷ trigraphs_after 2 cs

-- The second step: each trigraph is replaced. GNU C replaces none, unless an option asks for it (gcc's manual, "Initial processing").
abbrev pub trigraphs : Profile → List Char → List Char
trigraphs Gnu cs = cs
trigraphs profile cs = trigraphs_after 0 cs

-- whether a backslash and a new-line are here
abbrev pub splice_at : List Char → Bool
splice_at [] = false
splice_at (c ∷ cs) = c.code == backslash && head_code cs == newline

abbrev pub splices_after : ℕ → List Char → List Char
splices_after skip [] = []
splices_after (suc skip) (c ∷ cs) = splices_after skip cs
splices_after zero (c ∷ cs) = if splice_at (c ∷ cs) then splices_after 1 cs else c ∷ splices_after 0 cs

-- the third step: each backslash directly before a new-line is deleted, and the new-line with it
abbrev pub splices : List Char → List Char
splices cs = splices_after 0 cs

-- the location of the backslash, if the text ends in a backslash and a new-line
abbrev pub splice_at_end : List Char → Option Place
splice_at_end [] = None
splice_at_end (c ∷ cs) = if length cs == 1 && splice_at (c ∷ cs) then Some c.at else splice_at_end cs

abbrev pub unless_at : {X : Type 0} → Option Place → X → Result X Place
unless_at None x = Ok x
unless_at (Some p) x = Err p

-- the characters after phases 1 and 2, or the location of a backslash at the end of the file
abbrev pub cleaned : Profile → ℕ → List ℕ → Result (List Char) Place
cleaned profile file bytes = let cs = trigraphs profile (line_ends file bytes) in unless_at (splice_at_end cs) (splices cs)
