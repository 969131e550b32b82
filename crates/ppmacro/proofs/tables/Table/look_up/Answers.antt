use Rattle.std.proofs.Common.{sym, ◌∙◌, ap}
use Rattle.std.specs.FinMap as table
use Rattle.std.specs.Ordering.{nat_cmp}
use Rattle.std.specs.Cmp.Lexicographic.{slice_cmp}
use Rattle.std.proofs.lemmas.Slice.Eq.{bytes_eq-Decides}
use Rattle.ppmacro.proofs.TableLemmas.{lookup-get}
use Rattle.ppmacro.proofs.tables.Table.look_up.Goals as goal

pub returns-then-eq : goal.returns-then-eq
returns-then-eq c =
    let entries = c.self.inside.macros.entries in
    let same = sym c.key.view_is ∙ (bytes_eq-Decides c.key.inside.bytes.now c.args.name.now).0 (sym c.eq.ensures ∙ c.if-eq.true) in
    sym c.in-Some.ensures.value
    ∙ lookup-get c.in-Some.key.now entries
    ∙ ap (λ n. table.get (table.from_entries {R = slice_cmp nat_cmp} entries) n) same
    ∙ ap (λ t. table.get t.macros c.args.name.now) c.self.view_is
