-- The names in the hide set of a node. Only contracts of private functions and the view of private fields use them.
use Rattle.std.specs.Prelude.{ℕ, suc, Bool, List, [], ◌∷◌, if◌then◌else◌}
use Rattle.std.specs.Ordering.{nat_cmp, eq_by_cmp}
use Rattle.std.specs.Cmp.Lexicographic.{slice_cmp}
use Rattle.std.specs.FinSet as set
use Rattle.ppmacro.specs.Names.{Name, HideSet}
use Rattle.ppmacro.specs.code.Nodes.{Node, member}

abbrev pub same_name : Name → Name → Bool
same_name = eq_by_cmp (slice_cmp nat_cmp)

-- The names whose numbers satisfy p. The first name has the number i.
abbrev pub selected : (ℕ → Bool) → ℕ → List Name → List Name
selected p i [] = []
selected p i (x ∷ xs) = if p i then x ∷ selected p (suc i) xs else selected p (suc i) xs

-- The names in the set of a node.
abbrev pub hide_set : List Name → List Node → ℕ → HideSet
hide_set names ns n = set.from_list (selected (member ns n) 0 names)

-- f i, f (i + 1), and so on, one for each element.
abbrev pub tabulated : (ℕ → HideSet) → ℕ → List Node → List HideSet
tabulated f i [] = []
tabulated f i (x ∷ xs) = f i ∷ tabulated f (suc i) xs

-- The sets in the order of their numbers.
abbrev pub hide_sets : List Name → List Node → List HideSet
hide_sets names ns = tabulated (hide_set names ns) 0 ns
