-- What callers see of the names of files.
use Rattle.std.specs.Prelude.{ℕ, List}
use Rattle.std.specs.HashSet.{HashSet, hasher_of}
use Rattle.pptext.specs.declared.hashing.Hashing.{Hashing}

-- The names in order, and their hash function
pub record NamesView : Type 0 where
  pub names : List (List ℕ)
  pub hashing : Hashing

abbrev pub names_view : HashSet (List ℕ) Hashing → NamesView
names_view set = record { names = set.keys; hashing = hasher_of set }
