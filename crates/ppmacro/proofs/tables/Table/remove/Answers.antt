use Rattle.std.proofs.Common.{None, sym, ◌∙◌, ap, subst}
use Rattle.std.specs.FinMap as table
use Rattle.std.proofs.lemmas.Cmp.{nat_list_cmp_total}
use Rattle.ppmacro.proofs.TableLemmas.{updates-get}
use Rattle.ppmacro.specs.Names.{Macros}
use Rattle.ppmacro.specs.code.NameFilter.{RejectsOnlyUnknown}
use Rattle.ppmacro.proofs.NameFilterLemmas.{marked-remove}
use Rattle.ppmacro.proofs.tables.Table.remove.Goals as goal

pub returns-clause-macros : goal.returns-clause-macros
returns-clause-macros c = let old = c.self.inside.macros.entries in
    updates-get old c.swap_remove.new.self.entries c.args.name.now None (table.remove (table.from_entries old) c.args.name.now)
    c.swap_remove.ensures.updates.0 (λ q. table.get-remove nat_list_cmp_total (table.from_entries old) c.args.name.now q)
    ∙ ap (λ t. table.remove t.macros c.args.name.now) c.self.view_is

pub invariant_of-self : goal.invariant_of-self
invariant_of-self c =
    let old = c.self.inside.macros.entries in
    let m = table.from_entries old in
    let name = c.args.name.now in
    let is = updates-get old c.swap_remove.new.self.entries name None (table.remove m name) c.swap_remove.ensures.updates.0 (λ q. table.get-remove nat_list_cmp_total m name q) in
    let P : Macros → Type 0 = λ t. RejectsOnlyUnknown c.self.inside.filter t in
    subst P (sym is) (marked-remove c.self.inside.filter m name c.self.invariant)
