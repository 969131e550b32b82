use Rattle.std.proofs.Common.{ap, subst, List, ℕ}
use Rattle.ppshelf.specs.Names.{IsRowOf}
use Rattle.ppshelf.specs.NamesView.{NamesView}
use Rattle.ppshelf.proofs.NameRows.{row_found}
use Rattle.ppshelf.proofs.file_names.FileNames.row_of.Goals as goal

pub returns-clause-row : goal.returns-clause-row
returns-clause-row c =
    let P : List (List ℕ) → Type 0 = λ names. IsRowOf names c.args.name.now c.get_index_of.result in
    subst P (ap (λ (n : NamesView). n.names) c.self.view_is)
    (row_found c.args.name.now c.self.inside.names.keys c.get_index_of.result c.get_index_of.ensures.index c.get_index_of.ensures.found)
