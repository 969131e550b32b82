use Rattle.std.proofs.Common.{Some, sym, ◌∙◌, ap, subst}
use Rattle.std.specs.FinMap as table
use Rattle.std.proofs.lemmas.Cmp.{nat_list_cmp_total}
use Rattle.ppmacro.proofs.TableLemmas.{updates-get}
use Rattle.ppmacro.specs.Names.{Macros}
use Rattle.ppmacro.specs.code.NameFilter.{RejectsOnlyUnknown}
use Rattle.ppmacro.proofs.NameFilterLemmas.{marked-grown, marked-insert}
use Rattle.ppmacro.proofs.tables.Table.insert.Goals as goal

pub returns-in-Ok-clause-ok : goal.returns-in-Ok-clause-ok
returns-in-Ok-clause-ok c = let old = c.self.inside.macros.entries in
    updates-get old c.insert_full.new.self.entries c.args.name.now (Some c.args.definition) (table.insert (table.from_entries old) c.args.name.now c.args.definition)
    c.in-Ok.ensures.updates.0 (λ q. table.get-insert nat_list_cmp_total (table.from_entries old) c.args.name.now c.args.definition q)
    ∙ ap (λ t. table.insert t.macros c.args.name.now c.args.definition) c.self.view_is

pub invariant_of-self : goal.invariant_of-self
invariant_of-self c =
    let old = c.self.inside.macros.entries in
    let m = table.from_entries old in
    let name = c.args.name.now in
    let is = updates-get old c.insert_full.new.self.entries name (Some c.args.definition) (table.insert m name c.args.definition)
    c.in-Ok.ensures.updates.0 (λ q. table.get-insert nat_list_cmp_total m name c.args.definition q) in
    let filter = c.put.new.self in
    let grown = marked-grown c.self.inside.filter filter m c.put.ensures.grows c.self.invariant in
    let P : Macros → Type 0 = λ t. RejectsOnlyUnknown filter t in
    subst P (sym is) (marked-insert filter m name c.args.definition c.put.ensures.here grown)

pub invariant_of-self-in-Err : goal.invariant_of-self-in-Err
invariant_of-self-in-Err c = rw c.in-Err.ensures.err c.self.invariant
