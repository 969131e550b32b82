-- A list of symbols has at most one tree.
use Rattle.std.proofs.Common.{◌≡◌, List, refl, sym, ◌∙◌, ap}
use Rattle.std.specs.Prelude.{Some}
use Rattle.ppexpr.specs.declared.symbols.Symbol.{Symbol}
use Rattle.ppexpr.specs.Grammar.{Tree, Leaf, Applied, Joined, Chosen, Parses}
use Rattle.ppexpr.specs.code.Pending.{Meaning}
use Rattle.ppexpr.proofs.MachineCompleteness.{meaning, complete}

-- the `Meaning` with trees as values: each tree means itself
abbrev trees : Meaning Tree
trees = record { leaf = Leaf; applied = Applied; joined = Joined; chosen = Chosen }

meaning-trees : (t : Tree) → meaning trees t ≡ t
meaning-trees (Leaf v) = refl
meaning-trees (Applied o t) = ap (λ x. Applied o x) (meaning-trees t)
meaning-trees (Joined o t u) = λ i. Joined o (meaning-trees t i) (meaning-trees u i)
meaning-trees (Chosen t u w) = λ i. Chosen (meaning-trees t i) (meaning-trees u i) (meaning-trees w i)

same : (t u : Tree) → Some (meaning trees t) ≡ Some (meaning trees u) → meaning trees t ≡ meaning trees u
same t u e = cc

pub same_tree : (s : List Symbol) (t u : Tree) → Parses s t → Parses s u → t ≡ u
same_tree s t u p q = sym (meaning-trees t) ∙ same t u (sym (complete trees s t p) ∙ complete trees s u q) ∙ meaning-trees u
