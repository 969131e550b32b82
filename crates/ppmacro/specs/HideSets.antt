-- The hide sets that numbers refer to.
use Rattle.std.specs.Prelude.{◌≡◌, ℕ, ◌<◌, List, [], ◌∷◌, ◌++◌, map, length, slice_index_or, Option, Some, None, IfSome}
use Rattle.std.specs.FinSet as set
use Rattle.std.specs.List.{AllByRecursion}
use Rattle.pptext.specs.declared.hashing.Hashing.{Hashing}
use Rattle.ppmacro.specs.Names.{HideSet}
use Rattle.ppmacro.specs.Hiding.{Hiding}
use Rattle.ppmacro.specs.HideSetPool.{HideSetPool}
use Rattle.ppmacro.specs.PairCache.{KeepsPairs}
use Rattle.ppmacro.specs.declared.hidden_token.Hidden.{Hidden}

-- The pool with only the empty set.
abbrev pub initial_pool : Hashing → HideSetPool
initial_pool hashing = record { sets = set.empty ∷ []; unions = []; intersections = []; hashing = hashing }

-- The set with this number.
abbrev pub set_at : HideSetPool → ℕ → HideSet
set_at sets n = slice_index_or sets.sets n set.empty

-- A set has this number.
abbrev pub IsKnown : HideSetPool → ℕ → Type 0
IsKnown sets n = n < length sets.sets

-- Each set keeps its number, and each pair its result. There may be more. They are hashed as before.
pub record KeepsSets (old new : HideSetPool) : Type 0 where
  pub more : List HideSet
  pub is : new.sets ≡ old.sets ++ more
  pub unions : KeepsPairs old.unions new.unions
  pub intersections : KeepsPairs old.intersections new.intersections
  pub hashing : new.hashing ≡ old.hashing

-- The names of a set, and of an extra set if there is one.
abbrev pub hidden_names : HideSetPool → ℕ → Option ℕ → HideSet
hidden_names sets n None = set_at sets n
hidden_names sets n (Some m) = set.union (set_at sets n) (set_at sets m)

-- The names in the hide sets of a token.
abbrev pub hide_of : HideSetPool → Hidden → HideSet
hide_of sets h = hidden_names sets h.hide h.extra

-- A token with its hide set.
abbrev pub hiding : HideSetPool → Hidden → Hiding
hiding sets h = record { token = h.token; hide = hide_of sets h }

-- The numbers of a token's sets are known.
pub record HasSets (sets : HideSetPool) (h : Hidden) : Type 0 where
  pub hide : IsKnown sets h.hide
  pub extra : IfSome h.extra (IsKnown sets)

abbrev pub hidings : HideSetPool → List Hidden → List Hiding
hidings sets hs = map (hiding sets) hs

-- The numbers of all these tokens' sets are known.
pub record AllKnown (sets : HideSetPool) (hs : List Hidden) : Type 0 where
  pub each : AllByRecursion (HasSets sets) hs
