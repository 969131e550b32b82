-- The two operations on hide sets. Only contracts of private functions and the invariant of private fields use them.
use Rattle.std.specs.Prelude.{ℕ, Bool, ◌||◌, ◌&&◌, Option}
use Rattle.std.specs.Int.RustNames.{bit_and, bit_or}
use Rattle.ppmacro.specs.PairCache.{CachedPairs, union_known, intersection_known}

-- Union or intersection.
pub data Operation : Type 0 where
  Union : Operation
  Intersection : Operation

-- Whether the result has a member, by whether either set has it.
abbrev pub member_rule : Operation → Bool → Bool → Bool
member_rule Union a b = a || b
member_rule Intersection a b = a && b

-- The words of the result.
abbrev pub word_rule : Operation → ℕ → ℕ → ℕ
word_rule Union a b = bit_or a b
word_rule Intersection a b = bit_and a b

-- The number of the result if it is trivial or cached.
abbrev pub known : Operation → CachedPairs → ℕ → ℕ → Option ℕ
known Union ps a b = union_known ps a b
known Intersection ps a b = intersection_known ps a b
