-- Fingerprints of names. The macro table uses them to reject most identifiers that name no macro.
use Rattle.std.specs.Prelude.{◌≡◌, ℕ, ◌+◌, ◌-◌, ◌*◌, ◌/◌, ◌%◌, nat_lt, List, length, slice_index_or, if◌then◌else◌, None}
use Rattle.std.specs.FinMap as table
use Rattle.std.specs.Hash.FoldHasher.{read_u32}
use Rattle.ppmacro.specs.Names.{Name, Macros}

-- The fingerprint of a name of fewer than four bytes.
unfoldable pub short_fingerprint : Name → ℕ
short_fingerprint name = slice_index_or name 0 0 * 125 + slice_index_or name (length name - 1) 0 * 2 + length name

-- The fingerprint of a name. It is made of four bytes in the middle, the last four and the length, because many names share their first
-- bytes.
unfoldable pub fingerprint_of : Name → ℕ
fingerprint_of name =
    if nat_lt (length name) 4 then short_fingerprint name else
    (read_u32 name ((length name - 4) / 2) * 506_952_113 + read_u32 name (length name - 4) * 625_341_585 + length name % 64 * 461_845_907) / 16_777_216 % 32_768

-- The slot for a name.
abbrev pub slot_of : List ℕ → Name → ℕ
slot_of filter name = slice_index_or filter (fingerprint_of name) 0

-- A name whose slot is 0 names no macro.
abbrev pub RejectsOnlyUnknown : List ℕ → Macros → Type 0
RejectsOnlyUnknown filter m = (name : Name) → slot_of filter name ≡ 0 → table.get m name ≡ None
