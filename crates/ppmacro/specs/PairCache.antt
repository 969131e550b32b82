-- Results by pairs of numbers.
use Rattle.std.specs.Prelude.{◌≡◌, ℕ, Bool, ◌&&◌, nat_eq, List, ◌++◌, Option, Some, if◌then◌else◌}
use Rattle.std.specs.Map.{lookup}

abbrev pub CachedPairs : Type 0
CachedPairs = List ((ℕ × ℕ) × ℕ)

abbrev pub same_pair : ℕ × ℕ → ℕ × ℕ → Bool
same_pair x y = nat_eq x.0 y.0 && nat_eq x.1 y.1

abbrev pub cached_result : CachedPairs → ℕ → ℕ → Option ℕ
cached_result ps a b = lookup (same_pair (a, b)) ps

-- The old pairs keep their results.
pub record KeepsPairs (old new : CachedPairs) : Type 0 where
  pub more : CachedPairs
  pub is : new ≡ old ++ more

-- The number of the union of two sets, if it is trivial (a set is empty, or both are equal) or cached.
abbrev pub union_known : CachedPairs → ℕ → ℕ → Option ℕ
union_known ps a b = if nat_eq a 0 then Some b else (if nat_eq b 0 then Some a else (if nat_eq a b then Some a else cached_result ps a b))

abbrev pub intersection_known : CachedPairs → ℕ → ℕ → Option ℕ
intersection_known ps a b = if nat_eq a 0 then Some a else (if nat_eq b 0 then Some b else (if nat_eq a b then Some a else cached_result ps a b))
