-- The hash of a name. It affects only the time that a table takes.
use Rattle.std.specs.Prelude.{ℕ, zero, suc, ◌-◌, ◌*◌, ◌/◌, List, length, if◌then◌else◌, nat_lt, bit_xor}
use Rattle.std.specs.List.{fold}
use Rattle.std.specs.Hash.{u64}
use Rattle.std.specs.Hash.DefaultHasher as sip
use Rattle.std.specs.Hash.FoldHasher.{folded_multiply, read_u64, read_short}
use Rattle.std.specs.RandomState.{initial_hasher}
use Rattle.std.specs.declared.random_state.RandomState.{RandomState}
use Rattle.pptext.specs.declared.hashing.NameHasher.{NameHasher}

-- the hash after one more word, and after the first n words of eight bytes
abbrev pub hash_step : ℕ → ℕ → ℕ → ℕ
hash_step factor state word = folded_multiply (bit_xor state word) factor

unfoldable pub words : List ℕ → ℕ → ℕ → ℕ → ℕ
words bs factor state zero = state
words bs factor state (suc n) = hash_step factor (words bs factor state n) (read_u64 bs (8 * n))

-- the hash after a text. Its last word is its last eight bytes, or all if it has fewer. The factor is the exclusive or of the key and the length.
unfoldable pub hash_after : ℕ → ℕ → List ℕ → ℕ
hash_after state factor bs =
    if nat_lt (length bs) 8 then hash_step factor state (read_short bs)
    else hash_step factor (words bs factor state ((length bs - 1) / 8)) (read_u64 bs (length bs - 8))

abbrev pub write : NameHasher → List ℕ → NameHasher
write h bs = record { state = hash_after h.state (bit_xor h.key (length bs)) bs; key = h.key }

-- the word with this index that is derived from a random key
abbrev pub key_word : RandomState → ℕ → ℕ
key_word key index = sip.finish (fold sip.write (initial_hasher key) (u64 index))
