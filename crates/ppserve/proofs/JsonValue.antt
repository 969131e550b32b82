-- The JSON value of bytes, by the result of reading them.
use Rattle.std.proofs.Common.{◌≡◌, List, ℕ, Bool, true, false, refl, Option, Some, None, cond}
use Rattle.std.specs.Str.{IsUtf8, is_utf8}
use Rattle.std.proofs.lemmas.Str.{IsUtf8-from_is_utf8, is_utf8-from_IsUtf8}
use Rattle.serde_json.specs.Data.{Data}
use Rattle.serde_json.specs.Read.{read}
use Rattle.ppserve.specs.Listing.{json_value}

pub json_value-read : (bytes : List ℕ) (d : Data) → IsUtf8 bytes → read bytes ≡ Some d → json_value bytes ≡ Some d
unfolding json_value
json_value-read bytes d u r = rw (is_utf8-from_IsUtf8 bytes u) r

none_by : (b : Bool) (r : Option Data) → (b ≡ true → r ≡ None) → cond b r None ≡ None
none_by true r h = h refl
none_by false r h = refl

pub json_value-refused : (bytes : List ℕ) → (IsUtf8 bytes → read bytes ≡ None) → json_value bytes ≡ None
unfolding json_value
json_value-refused bytes h = none_by (is_utf8 bytes) (read bytes) (λ e. h (IsUtf8-from_is_utf8 bytes e))
