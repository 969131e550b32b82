use Rattle.std.proofs.Common.{◌∙◌, ap}
use Rattle.std.specs.FinMap as table
use Rattle.ppmacro.proofs.TableLemmas.{lookup-get, none-of, second-at}
use Rattle.ppmacro.proofs.tables.Table.find.Goals as goal

pub returns-in_default : goal.returns-in_default
returns-in_default c =
    none-of _ c.in_default.ensures.found
    ∙ lookup-get c.args.name.now c.self.inside.macros.entries
    ∙ ap (λ t. table.get t.macros c.args.name.now) c.self.view_is

pub returns-in-Some-get_index : goal.returns-in-Some-get_index
returns-in-Some-get_index c =
    second-at c.self.inside.macros.entries c.in-Some.index c.in-Some-get_index.field-0-0.now c.in-Some-get_index.found.now _ c.in-Some-get_index.ensures.entry c.in-Some.ensures.value
    ∙ lookup-get c.args.name.now c.self.inside.macros.entries
    ∙ ap (λ t. table.get t.macros c.args.name.now) c.self.view_is
