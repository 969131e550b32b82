-- Why expansion terminates (6.10.3.4), by the hide sets of a list alone.
--
-- Take a prefix of the list where the hide set of each token has the names `hidden`. No replacement in it is of these names. So each is of another
-- macro's name, which the hide sets of its result have, too: the result is a prefix with fewer names left, followed by a shorter rest of the old prefix. If the `)` of an
-- invocation is after the prefix, the prefix is used up, and the hide sets of the result have the names in both `hidden` and that of the `)`.
use Rattle.std.specs.Prelude.{◌≡◌, ℕ, suc, true, false, List, [], ◌∷◌, ◌++◌, map, if◌then◌else◌}
use Rattle.std.specs.FinSet as set
use Rattle.std.specs.FinMap as table
use Rattle.std.specs.List.{AllByRecursion}
use Rattle.ppmacro.specs.Names.{Name, HideSet, Macros}
use Rattle.ppmacro.specs.Hiding.{Hiding}

-- the hide sets of a list
abbrev pub hides : List Hiding → List HideSet
hides ts = map (λ t. t.hide) ts

-- a set has all names of another
abbrev pub IsSubset : HideSet → HideSet → Type 0
IsSubset part whole = (name : Name) → set.contains part name ≡ true → set.contains whole name ≡ true

-- a set has all names that two other sets have in common, and this name
pub record HidesNames (one two : HideSet) (name : Name) (whole : HideSet) : Type 0 where
  pub common : (other : Name) → set.contains one other ≡ true → set.contains two other ≡ true → set.contains whole other ≡ true
  pub own : set.contains whole name ≡ true

-- how many of these names are not in a set
abbrev pub count_outside : HideSet → List Name → ℕ
count_outside hide [] = 0
count_outside hide (n ∷ ns) = if set.contains hide n then count_outside hide ns else suc (count_outside hide ns)

module _ (macros : Macros) where
  -- a macro's name that is not in a set
  pub record IsOutside (name : Name) (hide : HideSet) : Type 0 where
    pub macro : table.contains_key macros name ≡ true
    pub outside : set.contains hide name ≡ false

  -- What an expansion step does to the hide sets of a list. The first token is emitted; or it is a macro's name that isn't in its set, and is
  -- replaced alone or together with all tokens up to a `)`. Each set of the result has this name, and the names in the set of the first token, or in
  -- both that and the set of the `)`.
  pub data Step : List HideSet → List HideSet → Type 0 where
    emits : {hide : HideSet} {rest : List HideSet} → Step (hide ∷ rest) rest
    replaced : {hide : HideSet} {rest next : List HideSet} (name : Name)
        → IsOutside name hide
        → (result : List HideSet)
        → AllByRecursion (HidesNames hide hide name) result
        → next ≡ result ++ rest
        → Step (hide ∷ rest) next
    invoked : {hide : HideSet} {rest next : List HideSet} (name : Name)
        → IsOutside name hide
        → (inside : List HideSet) (close : HideSet) (following : List HideSet)
        → rest ≡ inside ++ close ∷ following
        → (result : List HideSet)
        → AllByRecursion (HidesNames hide close name) result
        → next ≡ result ++ following
        → Step (hide ∷ rest) next

  -- each sequence of steps from this list terminates
  pub data Ends : List HideSet → Type 0 where
    ends : {list : List HideSet} → ((next : List HideSet) → Step list next → Ends next) → Ends list

  -- after a prefix whose sets have these names is used up, by an invocation whose `)` is after it, the rest terminates
  abbrev pub EndsAfter : HideSet → List HideSet → Type 0
  EndsAfter hidden following = (name : Name)
      → IsOutside name hidden
      → (inside : List HideSet) (close : HideSet) (rest : List HideSet)
      → following ≡ inside ++ close ∷ rest
      → (result : List HideSet)
      → AllByRecursion (HidesNames hidden close name) result
      → Ends (result ++ rest)

  -- a prefix whose sets have these names terminates, if the rest terminates alone and also after the prefix is used up
  abbrev pub PrefixEnds : HideSet → List HideSet → Type 0
  PrefixEnds hidden prefix = AllByRecursion (IsSubset hidden) prefix → (following : List HideSet) → Ends following → EndsAfter hidden following → Ends (prefix ++ following)

  -- how many macros' names are not in a set
  abbrev pub names_left : HideSet → ℕ
  names_left hidden = count_outside hidden (table.keys macros)
