-- What printing does to the bytes of a buffer and to the bytes that were written.
use Rattle.std.specs.Prelude.{◌≡◌, ℕ, Bool, true, false, List, [], ◌++◌, Option}
use Rattle.std.specs.Io.KnownBytes.{Appends}

-- the size of a buffer, in bytes
abbrev pub buffer_size : ℕ
buffer_size = 1048576

-- the largest number of bytes of a short spelling
abbrev pub max_short : ℕ
max_short = 14

-- the largest number of bytes of the line of a token with a short spelling: what is before it, the spelling, and a
-- new-line
abbrev pub max_short_line : ℕ
max_short_line = 88

-- The text is appended to the bytes of the buffer p: a prefix of both is written, which takes the writer from w to v,
-- and the rest is in the buffer q. After a failed write nothing more is written.
pub record Puts {V : Type 0} (written : V → Option (List ℕ)) (has_failed : V → Bool) (w v : V) (p q text : List ℕ) : Type 0 where
  pub prefix : List ℕ
  pub rest : List ℕ
  pub parts : p ++ text ≡ prefix ++ rest
  pub appends : Appends (written w) (written v) prefix
  pub unwritten : has_failed v ≡ false → rest ≡ q
  pub stays_failed : has_failed w ≡ true → (prefix ≡ []) × (has_failed v ≡ true)
