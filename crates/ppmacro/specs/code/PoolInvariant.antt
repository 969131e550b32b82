-- The fields of the pool of hide sets: nodes, and cached results. Only contracts of private functions and the invariant
-- of private fields use them.
use Rattle.std.specs.Prelude.{◌≡◌, ℕ, ◌<◌, ◌||◌, nat_eq, Bool, List, Option, IfSome, length}
use Rattle.std.specs.List.{AllByRecursion, IsDistinct}
use Rattle.pptext.specs.declared.hashing.Hashing.{Hashing}
use Rattle.ppmacro.specs.Names.{Name}
use Rattle.ppmacro.specs.code.Nodes.{Node, member, IsPool, IsBounded}
use Rattle.ppmacro.specs.code.Members.{same_name}
use Rattle.ppmacro.specs.code.Hashed.{HashedNames, HashedPairs}
use Rattle.ppmacro.specs.code.Operations.{Union, Intersection, member_rule}
use Rattle.ppmacro.specs.PairCache.{CachedPairs}
use Rattle.ppmacro.specs.declared.hide_sets.additions.Addition.{Addition}

-- A cached result of a pair is the set that `op` makes of both.
pub record IsCachedResult (op : Bool → Bool → Bool) (ns : List Node) (e : (ℕ × ℕ) × ℕ) : Type 0 where
  pub left : e.0.0 < length ns
  pub right : e.0.1 < length ns
  pub within : e.1 < length ns
  pub is : (x : ℕ) → member ns e.1 x ≡ op (member ns e.0.0 x) (member ns e.0.1 x)

pub record AreCachedResults (op : Bool → Bool → Bool) (ns : List Node) (ps : CachedPairs) : Type 0 where
  pub each : AllByRecursion (IsCachedResult op ns) ps

-- A cached addition: the set `result` has the members of the set `base`, and one of `count` names.
pub record IsAddition (count : ℕ) (ns : List Node) (a : Addition) : Type 0 where
  pub base : a.base < length ns
  pub name : a.name < count
  pub within : a.result < length ns
  pub is : (x : ℕ) → member ns a.result x ≡ (nat_eq x a.name || member ns a.base x)

-- The slots of cached additions. A slot may be empty.
pub record AreAdditions (count : ℕ) (ns : List Node) (slots : List (Option Addition)) : Type 0 where
  pub each : AllByRecursion (λ s. IfSome s (IsAddition count ns)) slots

-- The names, the nodes and the cached results agree.
pub record IsConsistentPool (names : List Name) (ns : List Node) (us ms : CachedPairs) : Type 0 where
  pub distinct : IsDistinct same_name names
  pub pool : IsPool ns
  pub bounded : IsBounded (length names) ns
  pub unions : AreCachedResults (member_rule Union) ns us
  pub intersections : AreCachedResults (member_rule Intersection) ns ms

-- The invariant of the pool: names, nodes and cached pairs are hashed with one hash function.
pub record IsPoolHashedBy (hashing : Hashing) (names : HashedNames) (ns : List Node) (us ms : HashedPairs) (slots : List (Option Addition)) : Type 0 where
  pub consistent : IsConsistentPool names.names ns us.results ms.results
  pub additions : AreAdditions (length names.names) ns slots
  pub names_hashing : names.hashing ≡ hashing
  pub unions_hashing : us.hashing ≡ hashing
  pub intersections_hashing : ms.hashing ≡ hashing
